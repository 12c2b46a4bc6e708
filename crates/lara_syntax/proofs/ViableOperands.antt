-- What stands before a refused word can go on: operands and tables.
use Rattle.std.proofs.Common.{ℕ, zero, suc, [], ◌∷◌, Option, Some, refl, sym, subst, Bool, true, false, cond, nat_lt, ◌++◌, ◌≡◌, None, ap, ◌∙◌}
use Rattle.lara_syntax.specs.declared.item.Lexeme.{Lexeme}
use Rattle.lara_syntax.specs.declared.item.Lexeme.TheVariants as lex
use Rattle.lara_syntax.specs.declared.item.Keyword.TheVariants as key
use Rattle.lara_syntax.specs.declared.item.Sign.TheVariants.{Is, Open, Close}
use Rattle.lara_data.specs.declared.refusal.Kind.TheVariants.{TooMany}
use Rattle.lara_syntax.specs.declared.ast.AstNode.{AstNode}
use Rattle.lara_syntax.specs.declared.ast.AstOp.{AstOp}
use Rattle.lara_syntax.specs.declared.ast.AstOp.TheVariants as op
use Rattle.lara_syntax.specs.declared.count.Count.{Count}
use Rattle.lara_syntax.specs.Limits.{one_operator}
use Rattle.lara_syntax.specs.Steps.{Reader, ◌>>=◌, give, refuse, skip, head_word, Items, turns}
use Rattle.lara_syntax.specs.Reading as r
use Rattle.lara_syntax.specs.WordReading as words
use Rattle.lara_syntax.specs.Places.{node}
use Rattle.lara_syntax.specs.Reading.{Counted, CountedDefs, CountedDef}
use Rattle.lara_syntax.specs.WordReading.{sign}
use Rattle.lara_syntax.proofs.Levels.{inside_rest}
use Rattle.lara_syntax.proofs.Turns.{rest_is, err_ok, read_of, none_some, value_is}
use Rattle.lara_syntax.proofs.Readers.{IsReader, reads_bind, reads_give, skip_shortens, reads_turns, bind_ok}
use Rattle.lara_syntax.proofs.RuleReaders.{sign-reads, some_names-reads, pairs-reads, leaf-reads, keyword-reads, val_col-reads, key_col-reads}
use Rattle.lara_syntax.proofs.TableReaders.{counted, two_by-reads, RestReads, one_by-reads, agg_rest-reads, rename_rest-reads, inside_rest-reads, operand-reads, table-reads, defs-reads, key_def-reads, map_rest-reads, more_def-shorter, def-reads, made-reads, filter_rest-reads, more_def-reads, promote_rest-reads, comma_def-reads}
use Rattle.lara_syntax.proofs.Complete.{head_is, AfterNames, AfterTable, table_names, table_comma, no_comma}
use Rattle.lara_syntax.proofs.Viable.{IsViable, IsCase, case_viable, case_refuse, viable_bind, viable_give, viable_choice, same_end, viable_narrow}
use Rattle.lara_syntax.proofs.ViableTurns.{Keeps, IsTurn, turns_starts, viable_turns}
use Rattle.lara_syntax.proofs.ViableWords.{name_spelled, a_name, any, token, skip_takes, keyword_viable, viable_behind, Takes, quiet_takes, first_takes, sign_viable, sign_starts, comma_viable, comma_keeps}
use Rattle.lara_syntax.proofs.ViableTables.{some_names_viable, pairs_viable, leaf_viable, leaf_takes, a_node, val_col_viable, key_col_viable}
use Rattle.lara_syntax.proofs.ExprChains.{Looser}
use Rattle.lara_syntax.proofs.CompleteTables.{AfterDef, def_expr, table_def}
use Rattle.lara_syntax.specs.declared.item.Keyword.{Keyword}
use Rattle.lara_syntax.specs.ExprReading.{expr}
use Rattle.lara_syntax.specs.WordGrammar.{CommaThen, comma_then}
use Rattle.lara_syntax.specs.declared.ast_expr.AstExpr.{AstExpr}
use Rattle.lara_syntax.proofs.ExprReaders.{expr-reads}
use Rattle.lara_syntax.proofs.ViableExprs.{expr_viable}
use Rattle.lara_syntax.proofs.SoundWords.{comma_sound, comma_none, some_is}

-- ---- operator words

operator_by_takes : (b : Bool) → Takes (cond b skip (refuse TooMany))
operator_by_takes true ts x u e = skip_takes ts x u e
operator_by_takes false ts x u e = absurd (err_ok {A = ℕ} _ (x, u) e)

operator_takes : (limit taken : Count) → Takes (r.operator_word limit taken)
unfolding r.operator_word
operator_takes limit taken = operator_by_takes (nat_lt taken.operators limit.operators)

operator_case_by : {A : Type 0} (F : Option Lexeme → Type 0) (b : Bool) (f : ℕ → Reader A) → ((at : ℕ) → IsReader (f at)) → ((at : ℕ) → IsViable F (f at)) → IsCase F (cond b skip (refuse TooMany) >>= f)
operator_case_by F true f reads viable = case_viable F (skip >>= f) (viable_behind F f reads viable)
operator_case_by F false f reads viable = case_refuse F TooMany

-- what is behind an operator word, where there is room for it
operator_case : {A : Type 0} (F : Option Lexeme → Type 0) (limit taken : Count) (f : ℕ → Reader A) → ((at : ℕ) → IsReader (f at)) → ((at : ℕ) → IsViable F (f at)) → IsCase F (r.operator_word limit taken >>= f)
unfolding r.operator_word
operator_case F limit taken f reads viable = operator_case_by F (nat_lt taken.operators limit.operators) f reads viable

-- ---- definitions

-- what is made of an expression
made_viable : {A : Type 0} (F : Option Lexeme → Type 0) → ((w : Option Lexeme) → F w → Looser 0 w) → (make : AstExpr → A) (limit : Count) (levels : ℕ) (taken : Count) → IsViable {A = A × Count} F (expr limit levels taken >>= λ e. give (make e.0, e.1))
made_viable {A = A} F sub make limit levels taken = viable_bind F (Looser 0) (expr limit levels taken) (λ e. give (make e.0, e.1)) (expr-reads limit levels taken) (λ e. reads_give {A = A × Count} (make e.0, e.1)) (expr_viable limit levels taken) (λ e. viable_give F (make e.0, e.1)) (λ e ts y v k a. sub (head_word ts) (same_end F (make e.0, e.1) ts y v k a))

-- a column, "=" and an expression
defined_viable : {C D : Type 0} (F : Option Lexeme → Type 0) → ((w : Option Lexeme) → F w → Looser 0 w) → (col : Reader C) → IsReader col → IsViable any col → (make : C → AstExpr → D) (limit : Count) (levels : ℕ) (taken : Count) → IsViable {A = D × Count} F (col >>= λ c. sign Is >>= λ at. expr limit levels taken >>= λ e. give (make c e.0, e.1))
defined_viable F sub col ic vc make limit levels taken =
    viable_bind F any col (λ c. sign Is >>= λ at. expr limit levels taken >>= λ e. give (make c e.0, e.1)) ic (λ c. reads_bind (sign Is) _ (sign-reads Is) (λ at. made-reads limit levels taken (make c))) vc
    (λ c. viable_bind F any (sign Is) (λ at. expr limit levels taken >>= λ e. give (make c e.0, e.1)) (sign-reads Is) (λ at. made-reads limit levels taken (make c)) (sign_viable any Is) (λ at. made_viable F sub (make c) limit levels taken) (λ at ts y v e a. tt))
    (λ c ts y v e a. tt)

def_viable : (limit : Count) (levels : ℕ) (taken : Count) → IsViable AfterDef (r.def limit levels taken)
unfolding r.def
def_viable limit levels taken = defined_viable AfterDef def_expr r.val_col val_col-reads (val_col_viable any) (λ c e. record { col = c; expr = e }) limit levels taken

key_def_viable : (limit : Count) (levels : ℕ) (taken : Count) → IsViable AfterTable (r.key_def limit levels taken)
unfolding r.key_def
key_def_viable limit levels taken = defined_viable AfterTable (λ w a. def_expr w (table_def w a)) r.key_col key_col-reads (key_col_viable any) (λ c e. record { col = c; expr = e }) limit levels taken

comma_def_viable : (limit : Count) (levels : ℕ) (taken : Count) → IsViable AfterTable (r.comma_def limit levels taken)
unfolding r.comma_def
comma_def_viable limit levels taken = comma_viable AfterTable table_comma (r.def limit levels taken) (def-reads limit levels taken) (viable_narrow AfterTable AfterDef table_def (r.def limit levels taken) (def_viable limit levels taken))

comma_def_keeps : (limit : Count) (levels : ℕ) (taken : Count) → Keeps AfterDef (r.comma_def limit levels taken)
unfolding r.comma_def
comma_def_keeps limit levels taken = comma_keeps AfterDef (r.def limit levels taken) (def-reads limit levels taken) (def_viable limit levels taken)

comma_def_ends : (limit : Count) (levels : ℕ) (taken : Count) (v : Items) → AfterTable (head_word v) → r.comma_def limit levels taken v ≡ read_of None v
unfolding r.comma_def
comma_def_ends limit levels taken v after = no_comma (r.def limit levels taken) v (table_comma (head_word v) after)

comma_def_none : (limit : Count) (levels : ℕ) (taken : Count) (ts u : Items) → r.comma_def limit levels taken ts ≡ read_of None u → ts ≡ u
unfolding r.comma_def
comma_def_none limit levels taken ts u e = comma_none (r.def limit levels taken) ts u e

-- a comma is next
comma_next : {A : Type 0} (X : A → Items → Items → Type 0) (x : A) (ts u : Items) → CommaThen X x ts u → AfterDef (head_word ts)
comma_next X x ts u (comma_then at y a b c h k) = subst AfterDef (sym (head_is _ at a b h)) tt

comma_def_begins : (limit : Count) (levels : ℕ) (taken : Count) (ts : Items) (x : CountedDef) (u : Items) → r.comma_def limit levels taken ts ≡ read_of (Some x) u → AfterDef (head_word ts)
unfolding r.comma_def
comma_def_begins limit levels taken ts x u e = comma_next (λ y vs w. Unit {0}) x ts u (comma_sound (λ y vs w. Unit {0}) (r.def limit levels taken) (λ vs y w h. tt) ts x u e)

-- what was read, behind others
behind_some : (xs : CountedDefs) (o : Option CountedDef) (m : Items) (t : CountedDefs) (u : Items) → read_of (r.def_behind xs o) m ≡ read_of (Some t) u → (x : CountedDef) × (o ≡ Some x) × ((xs.0 ++ x.0 ∷ [], x.1) ≡ t) × (m ≡ u)
behind_some xs None m t u e = absurd (none_some m u t e)
behind_some xs (Some x) m t u e = (x, refl, some_is (xs.0 ++ x.0 ∷ [], x.1) t (value_is (Some (xs.0 ++ x.0 ∷ [], x.1)) m (Some t) u e), rest_is (Some (xs.0 ++ x.0 ∷ [], x.1)) m (Some t) u e)

behind_none : (xs : CountedDefs) (o : Option CountedDef) (m u : Items) → read_of (r.def_behind xs o) m ≡ read_of None u → (o ≡ None) × (m ≡ u)
behind_none xs None m u e = (refl, rest_is {A = Option CountedDefs} None m None u e)
behind_none xs (Some x) m u e = absurd (none_some u m (xs.0 ++ x.0 ∷ [], x.1) (sym e))

-- a turn that gave some, and one that gave none
record Gave (limit : Count) (levels : ℕ) (xs : CountedDefs) (ts : Items) (t : CountedDefs) (u : Items) : Type 0 where
  pub x : CountedDef
  pub made : (xs.0 ++ x.0 ∷ [], x.1) ≡ t
  pub read : r.comma_def limit levels xs.1 ts ≡ read_of (Some x) u

gave : (limit : Count) (levels : ℕ) (xs : CountedDefs) (ts : Items) (t : CountedDefs) (u : Items) → r.more_def limit levels xs ts ≡ read_of (Some t) u → Gave limit levels xs ts t u
gave limit levels xs ts t u e =
    let a = bind_ok (r.comma_def limit levels xs.1 ts) (λ o. give (r.def_behind xs o)) (Some t, u) e in
    let b = behind_some xs a.0 a.1 t u a.3 in
    record { x = b.0; made = b.2; read = a.2 ∙ ap (λ (o : Option CountedDef). read_of o a.1) b.1 ∙ ap (λ (q : Items). read_of (Some b.0) q) b.3 }

gave_none : (limit : Count) (levels : ℕ) (xs : CountedDefs) (ts u : Items) → r.more_def limit levels xs ts ≡ read_of None u → ts ≡ u
gave_none limit levels xs ts u e =
    let a = bind_ok (r.comma_def limit levels xs.1 ts) (λ o. give (r.def_behind xs o)) (None, u) e in
    let b = behind_none xs a.0 a.1 u a.3 in
    comma_def_none limit levels xs.1 ts a.1 (a.2 ∙ ap (λ (o : Option CountedDef). read_of o a.1) b.0) ∙ b.1

more_def_keeps : (limit : Count) (levels : ℕ) (xs : CountedDefs) → Keeps AfterDef (r.more_def limit levels xs)
more_def_keeps limit levels xs before u v t e after =
    let g = gave limit levels xs (before ++ u) t u e in
    let k : r.comma_def limit levels xs.1 (before ++ v) ≡ read_of (Some g.x) v = comma_def_keeps limit levels xs.1 before u v g.x g.read after in
    rw k (ap (λ (ys : CountedDefs). read_of (Some ys) v) g.made)

more_def_turn : (limit : Count) (levels : ℕ) → IsTurn AfterTable AfterDef (r.more_def limit levels)
more_def_turn limit levels = record {
  shortens = more_def-shorter limit levels;
  reader = more_def-reads limit levels;
  ends = λ xs v after. rw (comma_def_ends limit levels xs.1 v after) refl;
  rests = λ xs ts u e after. table_def (head_word ts) (subst (λ q. AfterTable (head_word q)) (sym (gave_none limit levels xs ts u e)) after);
  begins = λ xs ts t u e. let g = gave limit levels xs ts t u e in comma_def_begins limit levels xs.1 ts g.x u g.read;
  keeps = more_def_keeps limit levels;
  viable = λ xs. viable_bind AfterTable AfterTable (r.comma_def limit levels xs.1) (λ o. give (r.def_behind xs o)) (comma_def-reads limit levels xs.1) (λ o. reads_give (r.def_behind xs o)) (comma_def_viable limit levels xs.1) (λ o. viable_give AfterTable (r.def_behind xs o)) (λ o. same_end AfterTable (r.def_behind xs o));
}

defs_viable : (limit : Count) (levels : ℕ) (taken : Count) → IsViable AfterTable (r.defs limit levels taken)
unfolding r.defs r.defs_from
defs_viable limit levels taken =
    viable_bind AfterTable AfterDef (r.def limit levels taken) (λ x. turns (r.more_def limit levels) (x.0 ∷ [], x.1)) (def-reads limit levels taken) (λ x. reads_turns (r.more_def limit levels) (more_def-shorter limit levels) (more_def-reads limit levels) (x.0 ∷ [], x.1)) (def_viable limit levels taken)
    (λ x. viable_turns AfterTable AfterDef (r.more_def limit levels) (more_def_turn limit levels) (x.0 ∷ [], x.1)) (λ x ts y v e a. turns_starts AfterTable AfterDef (r.more_def limit levels) (more_def_turn limit levels) (x.0 ∷ [], x.1) y ts v e a)

-- ---- operands

counted_viable : (F : Option Lexeme → Type 0) (taken : Count) → IsViable F (r.leaf >>= counted taken)
counted_viable F taken = viable_bind F any r.leaf (counted taken) leaf-reads (λ x. reads_give {A = Counted} (x, taken)) (leaf_viable any) (λ x. viable_give {A = Counted} F (x, taken)) (λ x ts y v e a. tt)

counted_takes : (taken : Count) → Takes (r.leaf >>= counted taken)
counted_takes taken = first_takes r.leaf (counted taken) leaf_takes (λ x. reads_give {A = Counted} (x, taken))

abbrev InsideCase : Count → ℕ → Type 1
InsideCase limit levels = (F : Option Lexeme → Type 0) (taken : Count) → IsCase F (r.inside limit levels taken)

inside_takes : (limit : Count) (levels : ℕ) (taken : Count) → Takes (r.inside limit levels taken)
unfolding r.inside r.table r.operand
inside_takes limit zero taken ts x u e = absurd (err_ok {A = Counted} _ (x, u) e)
inside_takes limit (suc levels) taken ts x u e = skip_shortens (inside_rest limit levels taken) (inside_rest-reads limit levels taken) ts x u e

operand_by_takes : (limit : Count) (levels : ℕ) (taken : Count) (w : Option Lexeme) → Takes (r.operand_by (r.inside limit levels) taken w)
operand_by_takes limit levels taken (Some (lex.Sign Open)) = inside_takes limit levels taken
operand_by_takes limit levels taken w = counted_takes taken

operand_takes : (limit : Count) (levels : ℕ) (taken : Count) → Takes (r.operand limit levels taken)
unfolding r.operand
operand_takes limit levels taken ts x u e = operand_by_takes limit levels taken (head_word ts) ts x u e

operand_cases : (limit : Count) (levels : ℕ) → InsideCase limit levels → (F : Option Lexeme → Type 0) (taken : Count) (w : Option Lexeme) → IsCase F (r.operand_by (r.inside limit levels) taken w)
operand_cases limit levels ic F taken (Some (lex.Sign Open)) = ic F taken
operand_cases limit levels ic F taken w = case_viable F _ (counted_viable F taken)

operand_from : (limit : Count) (levels : ℕ) → InsideCase limit levels → (F : Option Lexeme → Type 0) (taken : Count) → IsViable F (r.operand limit levels taken)
unfolding r.operand r.leaf words.name
operand_from limit levels ic F taken = viable_choice F (r.operand_by (r.inside limit levels) taken) (operand_cases limit levels ic F taken) (quiet_takes F (r.operand limit levels taken) (operand_takes limit levels taken)) (token (lex.Name a_name) ∷ []) (name_spelled, tt) (a_node, taken) (λ v after. refl)

-- ---- tables

two_viable : (limit : Count) (levels : ℕ) → InsideCase limit levels → (what : AstNode → AstNode → AstOp) (taken : Count) (at : ℕ) → IsViable AfterTable (r.two_by what (r.operand limit levels) taken at)
two_viable limit levels ic what taken at =
    let o = r.operand limit levels in
    let or = operand-reads limit levels in
    viable_bind AfterTable any (o (one_operator taken)) (λ a. o a.1 >>= λ b. give (node at (what a.0 b.0), b.1)) (or (one_operator taken)) (λ a. reads_bind (o a.1) _ (or a.1) (λ b. reads_give _)) (operand_from limit levels ic any (one_operator taken))
    (λ a. viable_bind AfterTable AfterTable (o a.1) (λ b. give (node at (what a.0 b.0), b.1)) (or a.1) (λ b. reads_give _) (operand_from limit levels ic AfterTable a.1) (λ b. viable_give AfterTable _) (λ b. same_end AfterTable _))
    (λ a ts y v e f. tt)

abbrev RestViable : (ℕ → Counted → Reader Counted) → Type 0
RestViable rest = (at : ℕ) (a : Counted) → IsViable AfterTable (rest at a)

one_viable : (limit : Count) (levels : ℕ) → InsideCase limit levels → (rest : ℕ → Counted → Reader Counted) → RestReads rest → RestViable rest → (taken : Count) (at : ℕ) → IsViable AfterTable (r.one_by rest (r.operand limit levels) taken at)
one_viable limit levels ic rest reads viable taken at =
    viable_bind AfterTable any (r.operand limit levels (one_operator taken)) (rest at) (operand-reads limit levels (one_operator taken)) (reads at) (operand_from limit levels ic any (one_operator taken)) (viable at) (λ a ts y v e f. tt)

agg_rest_viable : RestViable r.agg_rest
agg_rest_viable at a =
    viable_bind AfterTable any (words.keyword key.By) (λ by. r.some_names >>= λ ns. give (node at (op.Agg a.0 ns), a.1)) (keyword-reads key.By) (λ by. reads_bind r.some_names _ some_names-reads (λ ns. reads_give _)) (keyword_viable any key.By)
    (λ by. viable_bind AfterTable AfterNames r.some_names (λ ns. give (node at (op.Agg a.0 ns), a.1)) some_names-reads (λ ns. reads_give _) some_names_viable (λ ns. viable_give AfterTable _) (λ ns ts y v e f. table_names (head_word ts) (same_end AfterTable _ ts y v e f)))
    (λ by ts y v e f. tt)

-- a keyword, and what is behind it
keyword_behind : (k : Keyword) (p : Reader Counted) → IsReader p → IsViable AfterTable p → IsViable AfterTable (words.keyword k >>= λ at. p)
keyword_behind k p ip vp = viable_bind AfterTable any (words.keyword k) (λ at. p) (keyword-reads k) (λ at. ip) (keyword_viable any k) (λ at. vp) (λ at ts y v e f. tt)

map_rest_viable : (limit : Count) (levels : ℕ) → RestViable (r.map_rest limit levels)
map_rest_viable limit levels at a =
    keyword_behind key.To (r.defs limit levels a.1 >>= λ ds. give (node at (op.Map a.0 ds.0), ds.1)) (reads_bind (r.defs limit levels a.1) _ (defs-reads limit levels a.1) (λ ds. reads_give _))
    (viable_bind AfterTable AfterTable (r.defs limit levels a.1) (λ ds. give (node at (op.Map a.0 ds.0), ds.1)) (defs-reads limit levels a.1) (λ ds. reads_give _) (defs_viable limit levels a.1) (λ ds. viable_give AfterTable _) (λ ds. same_end AfterTable _))

filter_rest_viable : (limit : Count) (levels : ℕ) → RestViable (r.filter_rest limit levels)
filter_rest_viable limit levels at a = keyword_behind key.Where (expr limit levels a.1 >>= λ e. give (node at (op.Filter a.0 e.0), e.1)) (made-reads limit levels a.1 (λ e. node at (op.Filter a.0 e))) (made_viable AfterTable (λ w b. def_expr w (table_def w b)) (λ e. node at (op.Filter a.0 e)) limit levels a.1)

promote_rest_viable : (limit : Count) (levels : ℕ) → RestViable (r.promote_rest limit levels)
promote_rest_viable limit levels at a =
    keyword_behind key.To (r.key_def limit levels a.1 >>= λ c. give (node at (op.Promote a.0 c.0), c.1)) (reads_bind (r.key_def limit levels a.1) _ (key_def-reads limit levels a.1) (λ c. reads_give _))
    (viable_bind AfterTable AfterTable (r.key_def limit levels a.1) (λ c. give (node at (op.Promote a.0 c.0), c.1)) (key_def-reads limit levels a.1) (λ c. reads_give _) (key_def_viable limit levels a.1) (λ c. viable_give AfterTable _) (λ c. same_end AfterTable _))

rename_rest_viable : RestViable r.rename_rest
rename_rest_viable at a = viable_bind AfterTable AfterTable r.pairs (λ ps. give (node at (op.Rename a.0 ps), a.1)) pairs-reads (λ ps. reads_give _) (pairs_viable AfterTable table_comma) (λ ps. viable_give AfterTable _) (λ ps. same_end AfterTable _)

-- an operator with one operand
one_case : (limit : Count) (levels : ℕ) → InsideCase limit levels → (rest : ℕ → Counted → Reader Counted) → RestReads rest → RestViable rest → (taken : Count) → IsCase AfterTable (r.operator_word limit taken >>= r.one_by rest (r.operand limit levels) taken)
one_case limit levels ic rest reads viable taken = operator_case AfterTable limit taken (r.one_by rest (r.operand limit levels) taken) (one_by-reads rest reads (r.operand limit levels) (operand-reads limit levels) taken) (one_viable limit levels ic rest reads viable taken)

one_takes : (limit : Count) (levels : ℕ) (rest : ℕ → Counted → Reader Counted) → RestReads rest → (taken : Count) → Takes (r.operator_word limit taken >>= r.one_by rest (r.operand limit levels) taken)
one_takes limit levels rest reads taken = first_takes (r.operator_word limit taken) (r.one_by rest (r.operand limit levels) taken) (operator_takes limit taken) (one_by-reads rest reads (r.operand limit levels) (operand-reads limit levels) taken)

table_cases : (limit : Count) (levels : ℕ) → InsideCase limit levels → (taken : Count) (w : Option Lexeme) → IsCase AfterTable (r.table_by limit levels (r.operand limit levels) taken w)
table_cases limit levels ic taken (Some (lex.Key key.Join)) = operator_case AfterTable limit taken (r.two_by op.Join (r.operand limit levels) taken) (two_by-reads op.Join (r.operand limit levels) (operand-reads limit levels) taken) (two_viable limit levels ic op.Join taken)
table_cases limit levels ic taken (Some (lex.Key key.Union)) = operator_case AfterTable limit taken (r.two_by op.Union (r.operand limit levels) taken) (two_by-reads op.Union (r.operand limit levels) (operand-reads limit levels) taken) (two_viable limit levels ic op.Union taken)
table_cases limit levels ic taken (Some (lex.Key key.Agg)) = one_case limit levels ic r.agg_rest agg_rest-reads agg_rest_viable taken
table_cases limit levels ic taken (Some (lex.Key key.Map)) = one_case limit levels ic (r.map_rest limit levels) (map_rest-reads limit levels) (map_rest_viable limit levels) taken
table_cases limit levels ic taken (Some (lex.Key key.Filter)) = one_case limit levels ic (r.filter_rest limit levels) (filter_rest-reads limit levels) (filter_rest_viable limit levels) taken
table_cases limit levels ic taken (Some (lex.Key key.Promote)) = one_case limit levels ic (r.promote_rest limit levels) (promote_rest-reads limit levels) (promote_rest_viable limit levels) taken
table_cases limit levels ic taken (Some (lex.Key key.Rename)) = one_case limit levels ic r.rename_rest rename_rest-reads rename_rest_viable taken
table_cases limit levels ic taken w = case_viable AfterTable (r.operand limit levels taken) (operand_from limit levels ic AfterTable taken)

table_by_takes : (limit : Count) (levels : ℕ) (taken : Count) (w : Option Lexeme) → Takes (r.table_by limit levels (r.operand limit levels) taken w)
table_by_takes limit levels taken (Some (lex.Key key.Join)) = first_takes (r.operator_word limit taken) (r.two_by op.Join (r.operand limit levels) taken) (operator_takes limit taken) (two_by-reads op.Join (r.operand limit levels) (operand-reads limit levels) taken)
table_by_takes limit levels taken (Some (lex.Key key.Union)) = first_takes (r.operator_word limit taken) (r.two_by op.Union (r.operand limit levels) taken) (operator_takes limit taken) (two_by-reads op.Union (r.operand limit levels) (operand-reads limit levels) taken)
table_by_takes limit levels taken (Some (lex.Key key.Agg)) = one_takes limit levels r.agg_rest agg_rest-reads taken
table_by_takes limit levels taken (Some (lex.Key key.Map)) = one_takes limit levels (r.map_rest limit levels) (map_rest-reads limit levels) taken
table_by_takes limit levels taken (Some (lex.Key key.Filter)) = one_takes limit levels (r.filter_rest limit levels) (filter_rest-reads limit levels) taken
table_by_takes limit levels taken (Some (lex.Key key.Promote)) = one_takes limit levels (r.promote_rest limit levels) (promote_rest-reads limit levels) taken
table_by_takes limit levels taken (Some (lex.Key key.Rename)) = one_takes limit levels r.rename_rest rename_rest-reads taken
table_by_takes limit levels taken w = operand_takes limit levels taken

table_takes : (limit : Count) (levels : ℕ) (taken : Count) → Takes (r.table limit levels taken)
unfolding r.table
table_takes limit levels taken ts x u e = table_by_takes limit levels taken (head_word ts) ts x u e

table_from : (limit : Count) (levels : ℕ) → InsideCase limit levels → (taken : Count) → IsViable AfterTable (r.table limit levels taken)
unfolding r.table r.operand r.leaf words.name
table_from limit levels ic taken = viable_choice AfterTable (r.table_by limit levels (r.operand limit levels) taken) (table_cases limit levels ic taken) (quiet_takes AfterTable (r.table limit levels taken) (table_takes limit levels taken)) (token (lex.Name a_name) ∷ []) (name_spelled, tt) (a_node, taken) (λ v after. refl)

inside_rest_viable : (limit : Count) (levels : ℕ) → InsideCase limit levels → (F : Option Lexeme → Type 0) (taken : Count) (at : ℕ) → IsViable F (inside_rest limit levels taken at)
inside_rest_viable limit levels ic F taken at =
    viable_bind F AfterTable (r.table limit levels taken) (λ x. sign Close >>= λ end. give x) (table-reads limit levels taken) (λ x. reads_bind (sign Close) _ (sign-reads Close) (λ end. reads_give x)) (table_from limit levels ic taken)
    (λ x. viable_bind F any (sign Close) (λ end. give x) (sign-reads Close) (λ end. reads_give x) (sign_viable any Close) (λ end. viable_give F x) (λ end ts y v e a. tt))
    (λ x ts y v e a. subst AfterTable (sym (sign_starts F Close (λ end. give x) ts y v e a)) tt)

inside_case : (limit : Count) (levels : ℕ) → InsideCase limit levels
unfolding r.inside r.table r.operand
inside_case limit zero F taken = case_refuse F TooMany
inside_case limit (suc levels) F taken = case_viable F _ (viable_behind F (inside_rest limit levels taken) (inside_rest-reads limit levels taken) (inside_rest_viable limit levels (inside_case limit levels) F taken))

pub table_viable : (limit : Count) (levels : ℕ) (taken : Count) → IsViable AfterTable (r.table limit levels taken)
table_viable limit levels taken = table_from limit levels (inside_case limit levels) taken
