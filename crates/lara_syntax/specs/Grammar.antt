-- The grammar: which words stand for which tree. `X x ts rest` says that ts is x, and behind it rest.
use Rattle.std.specs.Prelude.{◌≤◌, ℕ, suc, List, [], ◌∷◌, length, Option, Some, None}
use Rattle.lara_key.specs.declared.key.KeyType.{KeyType}
use Rattle.lara_semiring.specs.declared.value.ValType.{ValType}
use Rattle.lara_syntax.specs.declared.item.Keyword.TheVariants as key
use Rattle.lara_syntax.specs.declared.item.Sign.TheVariants.{Is, Semi, Comma, Colon, OpenBracket, CloseBracket, OpenBrace, CloseBrace, Open, Close}
use Rattle.lara_syntax.specs.declared.count.Count.{Count}
use Rattle.lara_syntax.specs.declared.ast.Ast.{Ast}
use Rattle.lara_syntax.specs.declared.ast.AstName.{AstName}
use Rattle.lara_syntax.specs.declared.ast.AstBy.{AstBy}
use Rattle.lara_syntax.specs.declared.ast.AstKeyCol.{AstKeyCol}
use Rattle.lara_syntax.specs.declared.ast.AstValCol.{AstValCol}
use Rattle.lara_syntax.specs.AstTypes.{AstColumns}
use Rattle.lara_syntax.specs.declared.ast.AstLit.{AstLit}
use Rattle.lara_syntax.specs.declared.ast.AstEntry.{AstEntry}
use Rattle.lara_syntax.specs.declared.ast.AstNode.{AstNode}
use Rattle.lara_syntax.specs.declared.ast.AstOp.TheVariants as op
use Rattle.lara_syntax.specs.declared.ast_expr.AstExpr.{AstExpr}
use Rattle.lara_syntax.specs.declared.ast_part.AstDef.{AstDef}
use Rattle.lara_syntax.specs.declared.ast_part.AstKeyDef.{AstKeyDef}
use Rattle.lara_syntax.specs.declared.ast_part.AstPair.{AstPair}
use Rattle.lara_syntax.specs.declared.ast.AstStatement.{AstStatement}
use Rattle.lara_syntax.specs.declared.ast.AstStatement.TheVariants as st
use Rattle.lara_syntax.specs.Limits.{Limits, none_counted, one_operator, together, IsWithin}
use Rattle.lara_syntax.specs.Steps.{Items}
use Rattle.lara_syntax.specs.Places.{node, first_at}
use Rattle.lara_syntax.specs.ExprGrammar.{Expr}
use Rattle.lara_syntax.specs.WordGrammar.{Mark, Key, Named, Lit, KeyTyped, ValTyped, Many, Commas, Maybe}

-- ---- columns

-- key_col = NAME ":" keytype
pub data KeyCol : AstKeyCol → Items → Items → Type 0 where
  key_col : (c : ℕ) (x : AstName) (t : KeyType) (ts us vs rest : Items)
      → Named x ts us → Mark Colon c us vs → KeyTyped t vs rest
      → KeyCol (record { name = x; ty = t }) ts rest

-- val_col = NAME ":" valtype
pub data ValCol : AstValCol → Items → Items → Type 0 where
  val_col : (c : ℕ) (x : AstName) (t : ValType) (ts us vs rest : Items)
      → Named x ts us → Mark Colon c us vs → ValTyped t vs rest
      → ValCol (record { name = x; ty = t }) ts rest

-- type = "[" [ key_col { "," key_col } ] ":" val_col { "," val_col } "]"
pub data TypeOf : AstColumns → Items → Items → Type 0 where
  columns : (a b c : ℕ) (ks : List AstKeyCol) (vs : List AstValCol) (t1 t2 t3 t4 t5 rest : Items)
      → Mark OpenBracket a t1 t2 → Maybe (Commas KeyCol) ks t2 t3 → Mark Colon b t3 t4 → Commas ValCol vs t4 t5 → Mark CloseBracket c t5 rest
      → TypeOf (record { keys = ks; vals = vs }) t1 rest

-- ---- entries

-- entry = [ lit { "," lit } ] ":" lit { "," lit }
pub data Entry : AstEntry → Items → Items → Type 0 where
  entry : (c : ℕ) (ks row : List AstLit) (ts us vs rest : Items)
      → Maybe (Commas Lit) ks ts us → Mark Colon c us vs → Commas Lit row vs rest
      → Entry (record { at = first_at ks c; key = ks; row = row }) ts rest

-- ";" entry
pub data SemiEntry : AstEntry → Items → Items → Type 0 where
  semi_entry : (c : ℕ) (e : AstEntry) (ts us rest : Items) → Mark Semi c ts us → Entry e us rest → SemiEntry e ts rest

-- [ ";" ]
pub data SomeSemi : Items → Items → Type 0 where
  no_semi : (rest : Items) → SomeSemi rest rest
  semi : (c : ℕ) (ts rest : Items) → Mark Semi c ts rest → SomeSemi ts rest

-- entries = entry { ";" entry } [ ";" ]
pub data Entries : List AstEntry → Items → Items → Type 0 where
  entries : (e : AstEntry) (es : List AstEntry) (ts us vs rest : Items) → Entry e ts us → Many SemiEntry es us vs → SomeSemi vs rest → Entries (e ∷ es) ts rest

-- ---- pairs of names

-- pair = NAME "to" NAME
pub data Pair : AstPair → Items → Items → Type 0 where
  pair : (at : ℕ) (x y : AstName) (ts us vs rest : Items)
      → Named x ts us → Key key.To at us vs → Named y vs rest
      → Pair (record { old = x; new = y }) ts rest

-- ---- definitions, with the levels that may be opened in them and what they count

-- def = val_col "=" expr
pub data Def (d : ℕ) : Count → AstDef → Items → Items → Type 0 where
  def : (n : Count) (at : ℕ) (c : AstValCol) (e : AstExpr) (ts us vs rest : Items)
      → ValCol c ts us → Mark Is at us vs → Expr d n e vs rest
      → Def d n (record { col = c; expr = e }) ts rest

-- { "," def }
pub data MoreDefs (d : ℕ) : Count → List AstDef → Items → Items → Type 0 where
  no_defs : (rest : Items) → MoreDefs d none_counted [] rest rest
  more_defs : (m n : Count) (at : ℕ) (x : AstDef) (xs : List AstDef) (ts us vs rest : Items)
      → Mark Comma at ts us → Def d m x us vs → MoreDefs d n xs vs rest
      → MoreDefs d (together m n) (x ∷ xs) ts rest

-- defs = def { "," def }
pub data Defs (d : ℕ) : Count → List AstDef → Items → Items → Type 0 where
  defs : (m n : Count) (x : AstDef) (xs : List AstDef) (ts us rest : Items)
      → Def d m x ts us → MoreDefs d n xs us rest
      → Defs d (together m n) (x ∷ xs) ts rest

-- key_def = key_col "=" expr
pub data KeyDef (d : ℕ) : Count → AstKeyDef → Items → Items → Type 0 where
  key_def : (n : Count) (at : ℕ) (c : AstKeyCol) (e : AstExpr) (ts us vs rest : Items)
      → KeyCol c ts us → Mark Is at us vs → Expr d n e vs rest
      → KeyDef d n (record { col = c; expr = e }) ts rest

-- ---- tables

-- a table that stands on no other: leaf = NAME | "load" NAME | "table" type "{" [ entries ] "}"
pub data Leaf : AstNode → Items → Items → Type 0 where
  named : (x : AstName) (ts rest : Items) → Named x ts rest → Leaf (node x.at (op.Named x)) ts rest
  load : (at : ℕ) (x : AstName) (ts us rest : Items) → Key key.Load at ts us → Named x us rest → Leaf (node at (op.Load x)) ts rest
  literal : (at a b : ℕ) (ty : AstColumns) (es : List AstEntry) (t1 t2 t3 t4 t5 rest : Items)
      → Key key.Table at t1 t2 → TypeOf ty t2 t3 → Mark OpenBrace a t3 t4 → Maybe Entries es t4 t5 → Mark CloseBrace b t5 rest
      → Leaf (node at (op.Literal ty es)) t1 rest

-- A number: how many levels may be opened. A count: what they have of what is counted.
mutual
  -- operand = leaf | "(" table ")"
  pub data Operand : ℕ → Count → AstNode → Items → Items → Type 0 where
    leaf : (d : ℕ) (x : AstNode) (ts rest : Items) → Leaf x ts rest → Operand d none_counted x ts rest
    inside : (d : ℕ) (n : Count) (a b : ℕ) (x : AstNode) (t1 t2 t3 rest : Items)
        → Mark Open a t1 t2 → Table d n x t2 t3 → Mark Close b t3 rest
        → Operand (suc d) n x t1 rest

  -- table = "join" operand operand | "union" operand operand | "agg" operand "by" [ names ]
  --       | "map" operand "to" defs | "filter" operand "where" expr | "promote" operand "to" key_def
  --       | "rename" operand pair { "," pair } | operand
  pub data Table : ℕ → Count → AstNode → Items → Items → Type 0 where
    join : (d : ℕ) (m n : Count) (at : ℕ) (x y : AstNode) (t1 t2 t3 rest : Items)
        → Key key.Join at t1 t2 → Operand d m x t2 t3 → Operand d n y t3 rest
        → Table d (one_operator (together m n)) (node at (op.Join x y)) t1 rest
    union : (d : ℕ) (m n : Count) (at : ℕ) (x y : AstNode) (t1 t2 t3 rest : Items)
        → Key key.Union at t1 t2 → Operand d m x t2 t3 → Operand d n y t3 rest
        → Table d (one_operator (together m n)) (node at (op.Union x y)) t1 rest
    agg : (d : ℕ) (n : Count) (at by : ℕ) (x : AstNode) (ns : List AstName) (t1 t2 t3 t4 rest : Items)
        → Key key.Agg at t1 t2 → Operand d n x t2 t3 → Key key.By by t3 t4 → Maybe (Commas Named) ns t4 rest
        → Table d (one_operator n) (node at (op.Agg x ns)) t1 rest
    map : (d : ℕ) (m n : Count) (at to : ℕ) (x : AstNode) (ds : List AstDef) (t1 t2 t3 t4 rest : Items)
        → Key key.Map at t1 t2 → Operand d m x t2 t3 → Key key.To to t3 t4 → Defs d n ds t4 rest
        → Table d (one_operator (together m n)) (node at (op.Map x ds)) t1 rest
    filter : (d : ℕ) (m n : Count) (at wh : ℕ) (x : AstNode) (e : AstExpr) (t1 t2 t3 t4 rest : Items)
        → Key key.Filter at t1 t2 → Operand d m x t2 t3 → Key key.Where wh t3 t4 → Expr d n e t4 rest
        → Table d (one_operator (together m n)) (node at (op.Filter x e)) t1 rest
    promote : (d : ℕ) (m n : Count) (at to : ℕ) (x : AstNode) (c : AstKeyDef) (t1 t2 t3 t4 rest : Items)
        → Key key.Promote at t1 t2 → Operand d m x t2 t3 → Key key.To to t3 t4 → KeyDef d n c t4 rest
        → Table d (one_operator (together m n)) (node at (op.Promote x c)) t1 rest
    rename : (d : ℕ) (n : Count) (at : ℕ) (x : AstNode) (ps : List AstPair) (t1 t2 t3 rest : Items)
        → Key key.Rename at t1 t2 → Operand d n x t2 t3 → Commas Pair ps t3 rest
        → Table d (one_operator n) (node at (op.Rename x ps)) t1 rest
    operand : (d : ℕ) (n : Count) (x : AstNode) (ts rest : Items) → Operand d n x ts rest → Table d n x ts rest

-- ---- statements

-- [ "by" [ names ] ], names = NAME { "," NAME }
pub data SomeOrder : Option AstBy → Items → Items → Type 0 where
  no_order : (rest : Items) → SomeOrder None rest rest
  order : (at : ℕ) (ns : List AstName) (ts us rest : Items) → Key key.By at ts us → Maybe (Commas Named) ns us rest → SomeOrder (Some (record { at = at; names = ns })) ts rest

-- statement = NAME "=" table ";" | "print" NAME [ "by" [ names ] ] ";"
pub data Statement (limits : Limits) : AstStatement → Items → Items → Type 0 where
  assign : (a b : ℕ) (n : Count) (x : AstName) (t : AstNode) (t1 t2 t3 t4 rest : Items)
      → Named x t1 t2 → Mark Is a t2 t3 → Table limits.levels n t t3 t4 → IsWithin n limits.counted → Mark Semi b t4 rest
      → Statement limits (st.Assign x.at x t) t1 rest
  print : (at b : ℕ) (x : AstName) (by : Option AstBy) (t1 t2 t3 t4 rest : Items)
      → Key key.Print at t1 t2 → Named x t2 t3 → SomeOrder by t3 t4 → Mark Semi b t4 rest
      → Statement limits (st.Print at x by) t1 rest

-- script = { statement }, within limits
abbrev pub Script : Limits → Ast → Items → Type 0
Script limits tree ts = Many (Statement limits) tree.statements ts [] × (length tree.statements ≤ limits.statements)
