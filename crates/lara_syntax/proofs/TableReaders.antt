-- Each rule of tables and statements is a reader, and what takes a word.
use Rattle.std.proofs.Common.{◌≡◌, ℕ, zero, suc, ◌<◌, List, [], ◌∷◌, ◌++◌, length, Option, Some, None, Ok, Err, refl, ap, arith, Bool, true, false, nat_lt}
use Rattle.lara_syntax.specs.declared.item.Lexeme.{Lexeme}
use Rattle.lara_syntax.specs.declared.item.Lexeme.TheVariants as lex
use Rattle.lara_syntax.specs.declared.item.Keyword.TheVariants as key
use Rattle.lara_syntax.specs.declared.item.Sign.TheVariants.{Is, Semi, Open, Close}
use Rattle.lara_data.specs.declared.refusal.Kind.TheVariants.{Unexpected, TooMany}
use Rattle.lara_syntax.specs.declared.fault.Fault.{Fault}
use Rattle.lara_syntax.specs.declared.ast.Ast.{Ast}
use Rattle.lara_syntax.specs.declared.ast.AstName.{AstName}
use Rattle.lara_syntax.specs.declared.ast.AstNode.{AstNode}
use Rattle.lara_syntax.specs.declared.ast.AstOp.{AstOp}
use Rattle.lara_syntax.specs.declared.ast.AstOp.TheVariants as op
use Rattle.lara_syntax.specs.declared.ast.AstStatement.{AstStatement}
use Rattle.lara_syntax.specs.declared.ast.AstStatement.TheVariants as st
use Rattle.std.proofs.lemmas.List.{length-append}
use Rattle.lara_syntax.specs.Limits.{Limits, none_counted, one_operator}
use Rattle.lara_syntax.specs.declared.count.Count.{Count}
use Rattle.lara_syntax.specs.Steps.{Items, Read, Reader, onward, ◌>>=◌, give, refuse, peek, skip, head_word, Fails}
use Rattle.lara_syntax.specs.ExprReading.{expr}
use Rattle.lara_syntax.proofs.ExprReaders.{expr-reads}
use Rattle.lara_syntax.specs.declared.ast_expr.AstExpr.{AstExpr}
use Rattle.lara_syntax.specs.declared.ast_part.AstDef.{AstDef}
use Rattle.lara_syntax.specs.declared.fault.Fault.TheVariants as faults
use Rattle.lara_syntax.specs.Reading.{key_col, val_col, CountedDef, CountedDefs, def, comma_def, def_behind, more_def, defs_from, defs, key_def, map_rest, filter_rest, promote_rest, some_names, leaf, Counted, operand_by, operand_with, pairs, operator_word, two_by, one_by, agg_rest, rename_rest, table_by, table_with, inside, operand, table, some_order, some_order_by, statement, statement_by, no_room, next_by, next_statement, statements, tree_of, script}
use Rattle.lara_syntax.specs.WordReading.{sign, keyword, name, name_by}
use Rattle.lara_syntax.proofs.Levels.{inside_rest}
use Rattle.lara_syntax.proofs.Turns.{Shortens, TakesOne, turns-some, turns-none, turns-fail, read_of, err_ok, none_some, rest_is, list-some, list-none, list-fail}
use Rattle.lara_syntax.proofs.Readers.{IsReader, reads_bind, reads_give, reads_refuse, reads_peek, reads_skip, reads_list, reads_turns, skip_shortens, bind_ok}
use Rattle.lara_syntax.proofs.RuleReaders.{reads_cond, comma-reads, comma-one, key_col-reads, val_col-reads, sign-reads, keyword-reads, name-reads, some_names-reads, pairs-reads, leaf-reads}

-- ---- definitions

-- what is made of an expression
pub made-reads : {A : Type 0} (limit : Count) (levels : ℕ) (taken : Count) (make : AstExpr → A) → IsReader {A = A × Count} (expr limit levels taken >>= λ e. give (make e.0, e.1))
made-reads {A = A} limit levels taken make = reads_bind (expr limit levels taken) (λ e. give (make e.0, e.1)) (expr-reads limit levels taken) (λ e. reads_give {A = A × Count} (make e.0, e.1))

pub def-reads : (limit : Count) (levels : ℕ) (taken : Count) → IsReader (def limit levels taken)
unfolding def
def-reads limit levels taken = reads_bind val_col _ val_col-reads (λ c. reads_bind (sign Is) _ (sign-reads Is) (λ at. reads_bind (expr limit levels taken) _ (expr-reads limit levels taken) (λ e. reads_give _)))

pub comma_def-reads : (limit : Count) (levels : ℕ) (taken : Count) → IsReader (comma_def limit levels taken)
unfolding comma_def
comma_def-reads limit levels taken = comma-reads (def limit levels taken) (def-reads limit levels taken)

pub comma_def-one : (limit : Count) (levels : ℕ) (taken : Count) → TakesOne (comma_def limit levels taken)
unfolding comma_def
comma_def-one limit levels taken = comma-one (def limit levels taken) (def-reads limit levels taken)

pub more_def-reads : (limit : Count) (levels : ℕ) (xs : CountedDefs) → IsReader (more_def limit levels xs)
more_def-reads limit levels xs = reads_bind (comma_def limit levels xs.1) (λ x. give (def_behind xs x)) (comma_def-reads limit levels xs.1) (λ x. reads_give _)

shorter_by : (r : Read (Option CountedDef)) (xs ys : CountedDefs) (ts u : Items) → ((x : CountedDef) → r ≡ read_of (Some x) u → length u < length ts) → onward r (λ x. give (def_behind xs x)) ≡ read_of (Some ys) u → length u < length ts
shorter_by (Ok (None, w)) xs ys ts u h e = absurd (none_some w u ys e)
shorter_by (Ok (Some x, w)) xs ys ts u h e = h x (ap (λ (t : Items). read_of (Some x) t) (rest_is _ w _ u e))
shorter_by (Err d) xs ys ts u h e = absurd (err_ok {A = Option CountedDefs} d _ e)

-- each definition takes a word
pub more_def-shorter : (limit : Count) (levels : ℕ) → Shortens (more_def limit levels)
more_def-shorter limit levels = record { shorter = λ xs ts ys u e. shorter_by (comma_def limit levels xs.1 ts) xs ys ts u (λ x h. (comma_def-one limit levels xs.1).shorter ts x u h) e }

pub defs_from-reads : (limit : Count) (levels : ℕ) (xs : CountedDefs) → IsReader (defs_from limit levels xs)
unfolding defs_from
defs_from-reads limit levels xs = reads_turns (more_def limit levels) (more_def-shorter limit levels) (more_def-reads limit levels) xs

pub defs-reads : (limit : Count) (levels : ℕ) (taken : Count) → IsReader (defs limit levels taken)
unfolding defs
defs-reads limit levels taken = reads_bind (def limit levels taken) _ (def-reads limit levels taken) (λ x. defs_from-reads limit levels (x.0 ∷ [], x.1))

pub key_def-reads : (limit : Count) (levels : ℕ) (taken : Count) → IsReader (key_def limit levels taken)
unfolding key_def
key_def-reads limit levels taken = reads_bind key_col _ key_col-reads (λ c. reads_bind (sign Is) _ (sign-reads Is) (λ at. reads_bind (expr limit levels taken) _ (expr-reads limit levels taken) (λ e. reads_give _)))

-- ---- the loop of definitions

pub defs-some : (limit : Count) (levels : ℕ) (xs : List AstDef) (taken : Count) (ts : Items) (x : CountedDef) (u : Items) → comma_def limit levels taken ts ≡ Ok (Some x, u) → defs_from limit levels (xs, taken) ts ≡ defs_from limit levels (xs ++ x.0 ∷ [], x.1) u
unfolding defs_from
defs-some limit levels xs taken ts x u e = turns-some (more_def limit levels) (more_def-shorter limit levels) (xs, taken) ts (xs ++ x.0 ∷ [], x.1) u (rw e refl)

pub defs-none : (limit : Count) (levels : ℕ) (xs : List AstDef) (taken : Count) (ts : Items) (o : Option CountedDef) (u : Items) → comma_def limit levels taken ts ≡ Ok (o, u) → o ≡ None → defs_from limit levels (xs, taken) ts ≡ Ok ((xs, taken), u)
unfolding defs_from
defs-none limit levels xs taken ts o u e n = turns-none (more_def limit levels) (more_def-shorter limit levels) (xs, taken) ts u (rw (e, n) refl)

pub defs-fail : (limit : Count) (levels : ℕ) (xs : List AstDef) (taken : Count) (ts : Items) (e : Fault) → Fails e (comma_def limit levels taken ts) → Fails e (defs_from limit levels (xs, taken) ts)
unfolding defs_from
defs-fail limit levels xs taken ts faults.Memory h = tt
defs-fail limit levels xs taken ts (faults.Stopped d) h = turns-fail (more_def limit levels) (more_def-shorter limit levels) (xs, taken) ts (faults.Stopped d) (rw h refl)

pub ruleset def_laws = (comma_def-one, defs-some, defs-none, defs-fail)

-- ---- operands and tables

-- a leaf with the count before it
abbrev pub counted : Count → AstNode → Reader Counted
counted taken x = give (x, taken)

pub counted-reads : (taken : Count) → IsReader (leaf >>= counted taken)
counted-reads taken = reads_bind leaf (counted taken) leaf-reads (λ x. reads_give {A = Counted} (x, taken))

-- what is a reader whatever the count
abbrev pub AreReaders : (Count → Reader Counted) → Type 0
AreReaders p = (taken : Count) → IsReader (p taken)

operand_by-reads : (i : Count → Reader Counted) → AreReaders i → (taken : Count) (w : Option Lexeme) → IsReader (operand_by i taken w)
operand_by-reads i ii taken (Some (lex.Sign Open)) = ii taken
operand_by-reads i ii taken w = counted-reads taken

operand_with-reads : (i : Count → Reader Counted) → AreReaders i → AreReaders (operand_with i)
operand_with-reads i ii taken = reads_bind peek (operand_by i taken) reads_peek (operand_by-reads i ii taken)

pub operator_word-reads : (limit taken : Count) → IsReader (operator_word limit taken)
unfolding operator_word
operator_word-reads limit taken = reads_cond (nat_lt taken.operators limit.operators) skip (refuse TooMany) reads_skip (reads_refuse TooMany)

pub two_by-reads : (what : AstNode → AstNode → AstOp) (o : Count → Reader Counted) → AreReaders o → (taken : Count) (at : ℕ) → IsReader (two_by what o taken at)
two_by-reads what o io taken at = reads_bind (o (one_operator taken)) _ (io (one_operator taken)) (λ a. reads_bind (o a.1) _ (io a.1) (λ b. reads_give _))

-- what is behind the operand of an operator is a reader
abbrev pub RestReads : (ℕ → Counted → Reader Counted) → Type 0
RestReads rest = (at : ℕ) (a : Counted) → IsReader (rest at a)

pub one_by-reads : (rest : ℕ → Counted → Reader Counted) → RestReads rest → (o : Count → Reader Counted) → AreReaders o → (taken : Count) (at : ℕ) → IsReader (one_by rest o taken at)
one_by-reads rest ir o io taken at = reads_bind (o (one_operator taken)) (rest at) (io (one_operator taken)) (ir at)

pub agg_rest-reads : RestReads agg_rest
agg_rest-reads at a = reads_bind (keyword key.By) _ (keyword-reads key.By) (λ by. reads_bind some_names _ some_names-reads (λ ns. reads_give _))

pub map_rest-reads : (limit : Count) (levels : ℕ) → RestReads (map_rest limit levels)
map_rest-reads limit levels at a = reads_bind (keyword key.To) _ (keyword-reads key.To) (λ to. reads_bind (defs limit levels a.1) _ (defs-reads limit levels a.1) (λ ds. reads_give _))

pub filter_rest-reads : (limit : Count) (levels : ℕ) → RestReads (filter_rest limit levels)
filter_rest-reads limit levels at a = reads_bind (keyword key.Where) _ (keyword-reads key.Where) (λ wh. reads_bind (expr limit levels a.1) _ (expr-reads limit levels a.1) (λ e. reads_give _))

pub promote_rest-reads : (limit : Count) (levels : ℕ) → RestReads (promote_rest limit levels)
promote_rest-reads limit levels at a = reads_bind (keyword key.To) _ (keyword-reads key.To) (λ to. reads_bind (key_def limit levels a.1) _ (key_def-reads limit levels a.1) (λ c. reads_give _))

pub rename_rest-reads : RestReads rename_rest
rename_rest-reads at a = reads_bind pairs _ pairs-reads (λ ps. reads_give _)

-- an operator word, and what is behind it
pub operator-reads : (limit taken : Count) (f : ℕ → Reader Counted) → ((at : ℕ) → IsReader (f at)) → IsReader (operator_word limit taken >>= f)
operator-reads limit taken f ir = reads_bind (operator_word limit taken) f (operator_word-reads limit taken) ir

table_by-reads : (limit : Count) (levels : ℕ) (o : Count → Reader Counted) → AreReaders o → (taken : Count) (w : Option Lexeme) → IsReader (table_by limit levels o taken w)
table_by-reads limit levels o io taken (Some (lex.Key key.Join)) = operator-reads limit taken (two_by op.Join o taken) (two_by-reads op.Join o io taken)
table_by-reads limit levels o io taken (Some (lex.Key key.Union)) = operator-reads limit taken (two_by op.Union o taken) (two_by-reads op.Union o io taken)
table_by-reads limit levels o io taken (Some (lex.Key key.Agg)) = operator-reads limit taken (one_by agg_rest o taken) (one_by-reads agg_rest agg_rest-reads o io taken)
table_by-reads limit levels o io taken (Some (lex.Key key.Map)) = operator-reads limit taken (one_by (map_rest limit levels) o taken) (one_by-reads (map_rest limit levels) (map_rest-reads limit levels) o io taken)
table_by-reads limit levels o io taken (Some (lex.Key key.Filter)) = operator-reads limit taken (one_by (filter_rest limit levels) o taken) (one_by-reads (filter_rest limit levels) (filter_rest-reads limit levels) o io taken)
table_by-reads limit levels o io taken (Some (lex.Key key.Promote)) = operator-reads limit taken (one_by (promote_rest limit levels) o taken) (one_by-reads (promote_rest limit levels) (promote_rest-reads limit levels) o io taken)
table_by-reads limit levels o io taken (Some (lex.Key key.Rename)) = operator-reads limit taken (one_by rename_rest o taken) (one_by-reads rename_rest rename_rest-reads o io taken)
table_by-reads limit levels o io taken w = io taken

table_with-reads : (limit : Count) (levels : ℕ) (o : Count → Reader Counted) → AreReaders o → AreReaders (table_with limit levels o)
table_with-reads limit levels o io taken = reads_bind peek (table_by limit levels o taken) reads_peek (table_by-reads limit levels o io taken)

-- a table in brackets behind its (
bracketed-reads : (p : Reader Counted) → IsReader p → IsReader (p >>= λ x. sign Close >>= λ end. give x)
bracketed-reads p ip = reads_bind p _ ip (λ x. reads_bind (sign Close) _ (sign-reads Close) (λ end. reads_give x))

pub inside-reads : (limit : Count) (levels : ℕ) → AreReaders (inside limit levels)
unfolding inside
inside-reads limit zero taken = reads_refuse TooMany
inside-reads limit (suc levels) taken = reads_bind _ _ reads_skip (λ at. bracketed-reads (table_with limit levels (operand_with (inside limit levels)) taken) (table_with-reads limit levels (operand_with (inside limit levels)) (operand_with-reads (inside limit levels) (inside-reads limit levels)) taken))

pub operand-reads : (limit : Count) (levels : ℕ) → AreReaders (operand limit levels)
unfolding operand
operand-reads limit levels = operand_with-reads (inside limit levels) (inside-reads limit levels)

pub table-reads : (limit : Count) (levels : ℕ) → AreReaders (table limit levels)
unfolding table
table-reads limit levels = table_with-reads limit levels (operand limit levels) (operand-reads limit levels)

pub inside_rest-reads : (limit : Count) (levels : ℕ) (taken : Count) (at : ℕ) → IsReader (inside_rest limit levels taken at)
inside_rest-reads limit levels taken at = bracketed-reads (table limit levels taken) (table-reads limit levels taken)

-- ---- statements

some_order_by-reads : (w : Option Lexeme) → IsReader (some_order_by w)
some_order_by-reads (Some (lex.Key key.By)) = reads_bind _ _ reads_skip (λ at. reads_bind _ _ some_names-reads (λ ns. reads_give _))
some_order_by-reads w = reads_give None

pub some_order-reads : IsReader some_order
unfolding some_order
some_order-reads = reads_bind peek some_order_by reads_peek some_order_by-reads

-- an assignment behind its table, and behind its name
abbrev pub assign_end : AstName → Counted → Reader AstStatement
assign_end x t = sign Semi >>= λ end. give (st.Assign x.at x t.0)

pub assign_end-reads : (x : AstName) (t : Counted) → IsReader (assign_end x t)
assign_end-reads x t = reads_bind (sign Semi) (λ end. give (st.Assign x.at x t.0)) (sign-reads Semi) (λ end. reads_give _)

abbrev pub assign_rest : Limits → AstName → Reader AstStatement
assign_rest limits x = sign Is >>= λ is. table limits.counted limits.levels none_counted >>= assign_end x

pub assign_rest-reads : (limits : Limits) (x : AstName) → IsReader (assign_rest limits x)
assign_rest-reads limits x = reads_bind _ _ (sign-reads Is) (λ is. reads_bind (table limits.counted limits.levels none_counted) (assign_end x) (table-reads limits.counted limits.levels none_counted) (assign_end-reads x))

-- a print behind its first word
abbrev pub print_rest : ℕ → Reader AstStatement
print_rest at = name >>= λ x. some_order >>= λ by. sign Semi >>= λ end. give (st.Print at x by)

pub print_rest-reads : (at : ℕ) → IsReader (print_rest at)
print_rest-reads at = reads_bind _ _ name-reads (λ x. reads_bind _ _ some_order-reads (λ by. reads_bind _ _ (sign-reads Semi) (λ end. reads_give _)))

statement_by-reads : (limits : Limits) (w : Option Lexeme) → IsReader (statement_by limits w)
statement_by-reads limits (Some (lex.Name n)) = reads_bind name (assign_rest limits) name-reads (assign_rest-reads limits)
statement_by-reads limits (Some (lex.Key key.Print)) = reads_bind _ _ reads_skip print_rest-reads
statement_by-reads limits w = reads_refuse Unexpected

pub statement-reads : (limits : Limits) → IsReader (statement limits)
unfolding statement
statement-reads limits = reads_bind peek (statement_by limits) reads_peek (statement_by-reads limits)

-- a name takes a word
name_one : (w : Option Lexeme) (ts : Items) (x : AstName) (u : Items) → name_by w ts ≡ read_of x u → length u < length ts
name_one (Some (lex.Name n)) ts x u e = skip_shortens _ (λ at. reads_give _) ts x u e
name_one w ts x u e = absurd (err_ok {A = AstName} _ (x, u) e)

statement_by-one : (limits : Limits) (w : Option Lexeme) (ts : Items) (x : AstStatement) (u : Items) → statement_by limits w ts ≡ read_of x u → length u < length ts
unfolding name
statement_by-one limits (Some (lex.Name n)) ts x u e =
    let h = bind_ok (name ts) (assign_rest limits) (x, u) e in
    let f = (assign_rest-reads limits h.0).front h.1 x u h.3 in
    let l = name_one (head_word ts) ts h.0 h.1 h.2 in
    omega (arith, l, ap length f.1, length-append f.0 u)
statement_by-one limits (Some (lex.Key key.Print)) ts x u e = skip_shortens _ print_rest-reads ts x u e
statement_by-one limits w ts x u e = absurd (err_ok {A = AstStatement} _ (x, u) e)

pub statement-one : (limits : Limits) (ts : Items) (x : AstStatement) (u : Items) → statement limits ts ≡ read_of x u → length u < length ts
unfolding statement
statement-one limits ts x u e = statement_by-one limits (head_word ts) ts x u e

next_by-one : (limits : Limits) (room : Bool) (w : Option Lexeme) (ts : Items) (x : AstStatement) (u : Items) → next_by limits room w ts ≡ read_of (Some x) u → length u < length ts
next_by-one limits room None ts x u e = absurd (none_some ts u x e)
next_by-one limits true (Some w) ts x u e =
    let h = bind_ok (statement limits ts) (λ y. give (Some y)) (Some x, u) e in
    let r = rest_is (Some h.0) h.1 (Some x) u h.3 in
    let l = statement-one limits ts h.0 h.1 h.2 in
    omega (arith, l, ap length r)
next_by-one limits false (Some w) ts x u e = absurd (err_ok {A = Option AstStatement} _ (Some x, u) e)

pub next_statement-one : (limits : Limits) (room : Bool) → TakesOne (next_statement limits room)
unfolding next_statement
next_statement-one limits room = record { shorter = λ ts x u e. next_by-one limits room (head_word ts) ts x u e }

next_by-reads : (limits : Limits) (room : Bool) (w : Option Lexeme) → IsReader (next_by limits room w)
next_by-reads limits room None = reads_give None
next_by-reads limits true (Some w) = reads_bind (statement limits) _ (statement-reads limits) (λ x. reads_give _)
next_by-reads limits false (Some w) = reads_refuse (no_room w)

pub next_statement-reads : (limits : Limits) (room : Bool) → IsReader (next_statement limits room)
unfolding next_statement
next_statement-reads limits room = reads_bind peek (next_by limits room) reads_peek (next_by-reads limits room)

-- whether there is room behind others
abbrev pub has_room : Limits → List AstStatement → Bool
has_room limits xs = nat_lt (length xs) limits.statements

-- the statement behind others
abbrev pub next_behind : Limits → List AstStatement → Reader (Option AstStatement)
next_behind limits xs = next_statement limits (has_room limits xs)

pub next_behind-one : (limits : Limits) (xs : List AstStatement) → TakesOne (next_behind limits xs)
next_behind-one limits xs = next_statement-one limits (has_room limits xs)

pub next_behind-reads : (limits : Limits) (xs : List AstStatement) → IsReader (next_behind limits xs)
next_behind-reads limits xs = next_statement-reads limits (has_room limits xs)

pub statements-reads : (limits : Limits) (xs : List AstStatement) → IsReader (statements limits xs)
unfolding statements
statements-reads limits xs = reads_list (next_behind limits) (next_behind-one limits) (next_behind-reads limits) xs

-- the tree of the statements
abbrev pub tree_given : List AstStatement → Reader Ast
tree_given xs = give (tree_of xs)

pub tree_given-reads : (xs : List AstStatement) → IsReader (tree_given xs)
tree_given-reads xs = reads_give (tree_of xs)

pub script-reads : (limits : Limits) → IsReader (script limits)
unfolding script
script-reads limits = reads_bind (statements limits []) tree_given (statements-reads limits []) tree_given-reads

-- ---- the loop of statements

pub statements-some : (limits : Limits) (xs : List AstStatement) (ts : Items) (x : AstStatement) (u : Items) → next_statement limits (nat_lt (length xs) limits.statements) ts ≡ Ok (Some x, u) → statements limits xs ts ≡ statements limits (xs ++ x ∷ []) u
unfolding statements
statements-some limits xs ts x u e = list-some (next_behind limits) (next_behind-one limits) xs ts x u e

pub statements-none : (limits : Limits) (xs : List AstStatement) (ts : Items) (o : Option AstStatement) (u : Items) → next_statement limits (nat_lt (length xs) limits.statements) ts ≡ Ok (o, u) → o ≡ None → statements limits xs ts ≡ Ok (xs, u)
unfolding statements
statements-none limits xs ts o u e n = list-none (next_behind limits) (next_behind-one limits) xs ts o u e n

pub statements-fail : (limits : Limits) (xs : List AstStatement) (ts : Items) (e : Fault) → Fails e (next_statement limits (nat_lt (length xs) limits.statements) ts) → Fails e (statements limits xs ts)
unfolding statements
statements-fail limits xs ts e h = list-fail (next_behind limits) (next_behind-one limits) xs ts e h

pub ruleset statement_laws = (next_statement-one, statements-some, statements-none, statements-fail)
