-- Reading from left to right: each rule of the grammar by the word that is next.
use Rattle.std.specs.Prelude.{ℕ, zero, suc, Bool, true, false, nat_lt, List, [], ◌∷◌, ◌++◌, length, Option, Some, None, if◌then◌else◌}
use Rattle.lara_syntax.specs.declared.item.Lexeme.{Lexeme}
use Rattle.lara_syntax.specs.declared.item.Lexeme.TheVariants as lex
use Rattle.lara_syntax.specs.declared.item.Keyword.TheVariants as key
use Rattle.lara_syntax.specs.declared.item.Sign.TheVariants.{Is, Semi, Colon, OpenBracket, CloseBracket, OpenBrace, CloseBrace, Open, Close}
use Rattle.lara_data.specs.declared.refusal.Kind.{Kind}
use Rattle.lara_data.specs.declared.refusal.Kind.TheVariants.{Unexpected, TooMany}
use Rattle.lara_syntax.specs.declared.count.Count.{Count}
use Rattle.lara_syntax.specs.declared.ast.Ast.{Ast}
use Rattle.lara_syntax.specs.declared.ast.AstName.{AstName}
use Rattle.lara_syntax.specs.declared.ast.AstBy.{AstBy}
use Rattle.lara_syntax.specs.declared.ast.AstKeyCol.{AstKeyCol}
use Rattle.lara_syntax.specs.declared.ast.AstValCol.{AstValCol}
use Rattle.lara_syntax.specs.AstTypes.{AstColumns}
use Rattle.lara_syntax.specs.declared.ast.AstLit.{AstLit}
use Rattle.lara_syntax.specs.declared.ast.AstEntry.{AstEntry}
use Rattle.lara_syntax.specs.declared.ast.AstNode.{AstNode}
use Rattle.lara_syntax.specs.declared.ast.AstOp.{AstOp}
use Rattle.lara_syntax.specs.declared.ast.AstOp.TheVariants as op
use Rattle.lara_syntax.specs.declared.ast_part.AstDef.{AstDef}
use Rattle.lara_syntax.specs.declared.ast_part.AstKeyDef.{AstKeyDef}
use Rattle.lara_syntax.specs.declared.ast_part.AstPair.{AstPair}
use Rattle.lara_syntax.specs.declared.ast.AstStatement.{AstStatement}
use Rattle.lara_syntax.specs.declared.ast.AstStatement.TheVariants as st
use Rattle.lara_syntax.specs.Limits.{Limits, none_counted, one_operator}
use Rattle.lara_syntax.specs.Places.{node, first_at}
use Rattle.lara_syntax.specs.Steps.{Reader, ◌>>=◌, give, refuse, peek, skip, turns, items_from, list_from}
use Rattle.lara_syntax.specs.ExprReading.{expr}
use Rattle.lara_syntax.specs.WordReading.{sign, keyword, name, key_type, val_type, is_literal, lit, comma_then}

-- ---- names = NAME { "," NAME }

-- [ "," NAME ]
unfoldable pub comma_name : Reader (Option AstName)
comma_name = comma_then name

-- [ names ], by the word that is next
abbrev pub some_names_by : Option Lexeme → Reader (List AstName)
some_names_by (Some (lex.Name n)) = do
  x ← name
  items_from comma_name (x ∷ [])
some_names_by w = give []

-- [ names ]
unfoldable pub some_names : Reader (List AstName)
some_names = peek >>= some_names_by

-- ---- type = "[" [ key_col { "," key_col } ] ":" val_col { "," val_col } "]"

-- key_col = NAME ":" keytype
unfoldable pub key_col : Reader AstKeyCol
key_col = do
  x ← name
  at ← sign Colon
  t ← key_type
  give (record { name = x; ty = t })

-- [ "," key_col ]
unfoldable pub comma_key_col : Reader (Option AstKeyCol)
comma_key_col = comma_then key_col

-- [ key_col { "," key_col } ], by the word that is next
abbrev pub some_key_cols_by : Option Lexeme → Reader (List AstKeyCol)
some_key_cols_by (Some (lex.Name n)) = do
  x ← key_col
  items_from comma_key_col (x ∷ [])
some_key_cols_by w = give []

-- [ key_col { "," key_col } ]
unfoldable pub some_key_cols : Reader (List AstKeyCol)
some_key_cols = peek >>= some_key_cols_by

-- val_col = NAME ":" valtype
unfoldable pub val_col : Reader AstValCol
val_col = do
  x ← name
  at ← sign Colon
  t ← val_type
  give (record { name = x; ty = t })

-- [ "," val_col ]
unfoldable pub comma_val_col : Reader (Option AstValCol)
comma_val_col = comma_then val_col

-- val_col { "," val_col }
unfoldable pub val_cols : Reader (List AstValCol)
val_cols = do
  x ← val_col
  items_from comma_val_col (x ∷ [])

-- type = "[" [ key_col { "," key_col } ] ":" val_col { "," val_col } "]"
unfoldable pub table_type : Reader AstColumns
table_type = do
  at ← sign OpenBracket
  keys ← some_key_cols
  mid ← sign Colon
  vals ← val_cols
  end ← sign CloseBracket
  give (record { keys = keys; vals = vals })

-- ---- entry = [ lit { "," lit } ] ":" lit { "," lit }

-- [ "," lit ]
unfoldable pub comma_lit : Reader (Option AstLit)
comma_lit = comma_then lit

-- lit { "," lit }
unfoldable pub lits : Reader (List AstLit)
lits = do
  x ← lit
  items_from comma_lit (x ∷ [])

-- [ lit { "," lit } ], by the word that is next
abbrev pub some_lits_by : Option Lexeme → Reader (List AstLit)
some_lits_by w = if is_literal w then lits else give []

-- [ lit { "," lit } ]
unfoldable pub some_lits : Reader (List AstLit)
some_lits = peek >>= some_lits_by

-- entry = [ lit { "," lit } ] ":" lit { "," lit }, at its first word
unfoldable pub entry : Reader AstEntry
entry = do
  keys ← some_lits
  at ← sign Colon
  row ← lits
  give (record { at = first_at keys at; key = keys; row = row })

-- ---- [ entries ], entries = entry { ";" entry } [ ";" ]

-- entry, where one is known to begin
abbrev pub an_entry : Reader (Option AstEntry)
an_entry = do
  x ← entry
  give (Some x)

-- [ entry ], by the word that is next
abbrev pub entry_here_by : Option Lexeme → Reader (Option AstEntry)
entry_here_by (Some (lex.Sign Colon)) = an_entry
entry_here_by w = if is_literal w then an_entry else give None

-- [ entry ]
unfoldable pub entry_here : Reader (Option AstEntry)
entry_here = peek >>= entry_here_by

-- [ ";" [ entry ] ], by the word that is next
abbrev pub semi_entry_by : Option Lexeme → Reader (Option AstEntry)
semi_entry_by (Some (lex.Sign Semi)) = do
  at ← skip
  entry_here
semi_entry_by w = give None

-- [ ";" [ entry ] ]
unfoldable pub semi_entry : Reader (Option AstEntry)
semi_entry = peek >>= semi_entry_by

-- the entries that begin with this one, or none without one
abbrev pub entries_from : Option AstEntry → Reader (List AstEntry)
entries_from None = give []
entries_from (Some x) = items_from semi_entry (x ∷ [])

-- [ entries ]
unfoldable pub some_entries : Reader (List AstEntry)
some_entries = entry_here >>= entries_from

-- ---- a table that stands on no other: leaf = NAME | "load" NAME | "table" type "{" [ entries ] "}"

-- leaf, by the word that is next
abbrev pub leaf_by : Option Lexeme → Reader AstNode
leaf_by (Some (lex.Name n)) = do
  x ← name
  give (node x.at (op.Named x))
leaf_by (Some (lex.Key key.Load)) = do
  at ← skip
  x ← name
  give (node at (op.Load x))
leaf_by (Some (lex.Key key.Table)) = do
  at ← skip
  ty ← table_type
  open_at ← sign OpenBrace
  es ← some_entries
  end ← sign CloseBrace
  give (node at (op.Literal ty es))
leaf_by w = refuse Unexpected

-- leaf = NAME | "load" NAME | "table" type "{" [ entries ] "}"
unfoldable pub leaf : Reader AstNode
leaf = peek >>= leaf_by

-- ---- operand = leaf | "(" table ")"

-- a table, and what was counted in the statement up to its end
abbrev pub Counted : Type 0
Counted = AstNode × Count

-- operand, by the word that is next
abbrev pub operand_by : (Count → Reader Counted) → Count → Option Lexeme → Reader Counted
operand_by inside taken (Some (lex.Sign Open)) = inside taken
operand_by inside taken w = do
  x ← leaf
  give (x, taken)

-- operand = leaf | "(" table ")", where inside reads the second form and so much was counted before
abbrev pub operand_with : (Count → Reader Counted) → Count → Reader Counted
operand_with inside taken = peek >>= operand_by inside taken

-- ---- pairs of names: pair = NAME "to" NAME

-- pair = NAME "to" NAME
unfoldable pub pair : Reader AstPair
pair = do
  x ← name
  at ← keyword key.To
  y ← name
  give (record { old = x; new = y })

-- [ "," pair ]
unfoldable pub comma_pair : Reader (Option AstPair)
comma_pair = comma_then pair

-- pair { "," pair }
unfoldable pub pairs : Reader (List AstPair)
pairs = do
  x ← pair
  items_from comma_pair (x ∷ [])

-- ---- definitions, each with what was counted in the statement up to its end

-- a definition, counted
abbrev pub CountedDef : Type 0
CountedDef = AstDef × Count

-- definitions, counted
abbrev pub CountedDefs : Type 0
CountedDefs = List AstDef × Count

-- def = val_col "=" expr
unfoldable pub def : Count → ℕ → Count → Reader CountedDef
def limit levels taken = do
  c ← val_col
  at ← sign Is
  e ← expr limit levels taken
  give (record { col = c; expr = e.0 }, e.1)

-- [ "," def ]
unfoldable pub comma_def : Count → ℕ → Count → Reader (Option CountedDef)
comma_def limit levels taken = comma_then (def limit levels taken)

-- one more behind the others
abbrev pub def_behind : CountedDefs → Option CountedDef → Option CountedDefs
def_behind xs None = None
def_behind xs (Some x) = Some (xs.0 ++ x.0 ∷ [], x.1)

-- [ "," def ] behind others
abbrev pub more_def : Count → ℕ → CountedDefs → Reader (Option CountedDefs)
more_def limit levels xs = do
  x ← comma_def limit levels xs.1
  give (def_behind xs x)

-- { "," def } behind others
unfoldable pub defs_from : Count → ℕ → CountedDefs → Reader CountedDefs
defs_from limit levels xs = turns (more_def limit levels) xs

-- defs = def { "," def }
unfoldable pub defs : Count → ℕ → Count → Reader CountedDefs
defs limit levels taken = do
  x ← def limit levels taken
  defs_from limit levels (x.0 ∷ [], x.1)

-- key_def = key_col "=" expr
unfoldable pub key_def : Count → ℕ → Count → Reader (AstKeyDef × Count)
key_def limit levels taken = do
  c ← key_col
  at ← sign Is
  e ← expr limit levels taken
  give (record { col = c; expr = e.0 }, e.1)

-- ---- table = "join" operand operand | "union" operand operand | "agg" operand "by" [ names ]
-- ----       | "map" operand "to" defs | "filter" operand "where" expr | "promote" operand "to" key_def
-- ----       | "rename" operand pair { "," pair } | operand

-- an operator word behind so many others of its statement
unfoldable pub operator_word : Count → Count → Reader ℕ
operator_word limit taken = if nat_lt taken.operators limit.operators then skip else refuse TooMany

-- two operands behind an operator word
abbrev pub two_by : (AstNode → AstNode → AstOp) → (Count → Reader Counted) → Count → ℕ → Reader Counted
two_by what operand taken at = do
  a ← operand (one_operator taken)
  b ← operand a.1
  give (node at (what a.0 b.0), b.1)

-- "join" operand operand, where at most limit operator words are taken
abbrev pub join_with : Count → (Count → Reader Counted) → Count → Reader Counted
join_with limit operand taken = operator_word limit taken >>= two_by op.Join operand taken

-- "union" operand operand, likewise
abbrev pub union_with : Count → (Count → Reader Counted) → Count → Reader Counted
union_with limit operand taken = operator_word limit taken >>= two_by op.Union operand taken

-- an operand behind an operator word at a place, and the rest behind the operand
abbrev pub one_by : (ℕ → Counted → Reader Counted) → (Count → Reader Counted) → Count → ℕ → Reader Counted
one_by rest operand taken at = do
  a ← operand (one_operator taken)
  rest at a

-- "by" [ names ], behind the operand of an agg
abbrev pub agg_rest : ℕ → Counted → Reader Counted
agg_rest at a = do
  by ← keyword key.By
  ns ← some_names
  give (node at (op.Agg a.0 ns), a.1)

-- "agg" operand "by" [ names ], likewise
abbrev pub agg_with : Count → (Count → Reader Counted) → Count → Reader Counted
agg_with limit operand taken = operator_word limit taken >>= one_by agg_rest operand taken

-- "to" defs, behind the operand of a map
abbrev pub map_rest : Count → ℕ → ℕ → Counted → Reader Counted
map_rest limit levels at a = do
  to ← keyword key.To
  ds ← defs limit levels a.1
  give (node at (op.Map a.0 ds.0), ds.1)

-- "map" operand "to" defs, likewise
abbrev pub map_with : Count → ℕ → (Count → Reader Counted) → Count → Reader Counted
map_with limit levels operand taken = operator_word limit taken >>= one_by (map_rest limit levels) operand taken

-- "where" expr, behind the operand of a filter
abbrev pub filter_rest : Count → ℕ → ℕ → Counted → Reader Counted
filter_rest limit levels at a = do
  wh ← keyword key.Where
  e ← expr limit levels a.1
  give (node at (op.Filter a.0 e.0), e.1)

-- "filter" operand "where" expr, likewise
abbrev pub filter_with : Count → ℕ → (Count → Reader Counted) → Count → Reader Counted
filter_with limit levels operand taken = operator_word limit taken >>= one_by (filter_rest limit levels) operand taken

-- "to" key_def, behind the operand of a promote
abbrev pub promote_rest : Count → ℕ → ℕ → Counted → Reader Counted
promote_rest limit levels at a = do
  to ← keyword key.To
  c ← key_def limit levels a.1
  give (node at (op.Promote a.0 c.0), c.1)

-- "promote" operand "to" key_def, likewise
abbrev pub promote_with : Count → ℕ → (Count → Reader Counted) → Count → Reader Counted
promote_with limit levels operand taken = operator_word limit taken >>= one_by (promote_rest limit levels) operand taken

-- pair { "," pair }, behind the operand of a rename
abbrev pub rename_rest : ℕ → Counted → Reader Counted
rename_rest at a = do
  ps ← pairs
  give (node at (op.Rename a.0 ps), a.1)

-- "rename" operand pair { "," pair }, likewise
abbrev pub rename_with : Count → (Count → Reader Counted) → Count → Reader Counted
rename_with limit operand taken = operator_word limit taken >>= one_by rename_rest operand taken

-- table, by the word that is next
abbrev pub table_by : Count → ℕ → (Count → Reader Counted) → Count → Option Lexeme → Reader Counted
table_by limit levels operand taken (Some (lex.Key key.Join)) = join_with limit operand taken
table_by limit levels operand taken (Some (lex.Key key.Union)) = union_with limit operand taken
table_by limit levels operand taken (Some (lex.Key key.Agg)) = agg_with limit operand taken
table_by limit levels operand taken (Some (lex.Key key.Map)) = map_with limit levels operand taken
table_by limit levels operand taken (Some (lex.Key key.Filter)) = filter_with limit levels operand taken
table_by limit levels operand taken (Some (lex.Key key.Promote)) = promote_with limit levels operand taken
table_by limit levels operand taken (Some (lex.Key key.Rename)) = rename_with limit operand taken
table_by limit levels operand taken w = operand taken

-- table, where so much was counted before and so many levels may be opened in expressions
abbrev pub table_with : Count → ℕ → (Count → Reader Counted) → Count → Reader Counted
table_with limit levels operand taken = peek >>= table_by limit levels operand taken

-- "(" table ")", with the same numbers as operand
unfoldable pub inside : Count → ℕ → Count → Reader Counted
inside limit zero taken = refuse TooMany
inside limit (suc levels) taken = do
  at ← skip
  x ← table_with limit levels (operand_with (inside limit levels)) taken
  end ← sign Close
  give x

-- An operand. A statement may have so much of what is counted as limit says, and so many levels may still be opened; taken was
-- counted before it.
unfoldable pub operand : Count → ℕ → Count → Reader Counted
operand limit levels taken = operand_with (inside limit levels) taken

-- the same of a table
unfoldable pub table : Count → ℕ → Count → Reader Counted
table limit levels taken = table_with limit levels (operand limit levels) taken

-- ---- statement = NAME "=" table ";" | "print" NAME [ "by" [ names ] ] ";"

-- [ "by" [ names ] ], by the word that is next
abbrev pub some_order_by : Option Lexeme → Reader (Option AstBy)
some_order_by (Some (lex.Key key.By)) = do
  at ← skip
  ns ← some_names
  give (Some (record { at = at; names = ns }))
some_order_by w = give None

-- [ "by" [ names ] ]
unfoldable pub some_order : Reader (Option AstBy)
some_order = peek >>= some_order_by

-- statement, by the word that is next
abbrev pub statement_by : Limits → Option Lexeme → Reader AstStatement
statement_by limits (Some (lex.Name n)) = do
  x ← name
  is ← sign Is
  t ← table limits.counted limits.levels none_counted
  end ← sign Semi
  give (st.Assign x.at x t.0)
statement_by limits (Some (lex.Key key.Print)) = do
  at ← skip
  x ← name
  by ← some_order
  end ← sign Semi
  give (st.Print at x by)
statement_by limits w = refuse Unexpected

-- statement = NAME "=" table ";" | "print" NAME [ "by" [ names ] ] ";"
unfoldable pub statement : Limits → Reader AstStatement
statement limits = peek >>= statement_by limits

-- ---- script = { statement }

-- what a word without room for a statement is refused for: it could begin one, or could not
abbrev pub no_room : Lexeme → Kind
no_room (lex.Name n) = TooMany
no_room (lex.Key key.Print) = TooMany
no_room w = Unexpected

-- the next statement, by the word that is next; none at the end
abbrev pub next_by : Limits → Bool → Option Lexeme → Reader (Option AstStatement)
next_by limits room None = give None
next_by limits true (Some w) = do
  x ← statement limits
  give (Some x)
next_by limits false (Some w) = refuse (no_room w)

-- the next statement, where there is room for one
unfoldable pub next_statement : Limits → Bool → Reader (Option AstStatement)
next_statement limits room = peek >>= next_by limits room

-- statements behind others
unfoldable pub statements : Limits → List AstStatement → Reader (List AstStatement)
statements limits xs = list_from (λ ys. next_statement limits (nat_lt (length ys) limits.statements)) xs

-- the tree of statements
abbrev pub tree_of : List AstStatement → Ast
tree_of xs = record { statements = xs }

-- a script within limits
unfoldable pub script : Limits → Reader Ast
script limits = do
  xs ← statements limits []
  give (tree_of xs)
