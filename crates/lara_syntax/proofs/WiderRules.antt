-- Each rule with wider limits: it gives the same, or goes past the word of which there are too many.
use Rattle.std.proofs.Common.{inl, inr, ◌≡◌, ℕ, zero, suc, ◌<◌, ◌≤◌, List, [], ◌∷◌, ◌++◌, length, Option, Some, None, Ok, Err, refl, sym, ap, subst, arith, Bool, true, false, cond, nat_lt}
use Rattle.std.proofs.lemmas.List.{length-append}
use Rattle.std.proofs.lemmas.Bool.{ltb-true, lt-ltb}
use Rattle.lara_data.specs.declared.refusal.Kind.TheVariants.{Unexpected, TooMany}
use Rattle.lara_syntax.specs.declared.item.Item.{Item}
use Rattle.lara_syntax.specs.declared.item.Lexeme.{Lexeme}
use Rattle.lara_syntax.specs.declared.item.Lexeme.TheVariants as lex
use Rattle.lara_syntax.specs.declared.item.Keyword.TheVariants as key
use Rattle.lara_syntax.specs.declared.item.Sign.TheVariants.{Is, Semi, Open, Close}
use Rattle.lara_syntax.specs.declared.fault.Stop.{Stop}
use Rattle.lara_syntax.specs.declared.fault.Fault.TheVariants as faults
use Rattle.lara_syntax.specs.declared.ast.AstName.{AstName}
use Rattle.lara_syntax.specs.declared.ast.AstNode.{AstNode}
use Rattle.lara_syntax.specs.declared.ast.AstOp.{AstOp}
use Rattle.lara_syntax.specs.declared.ast.AstOp.TheVariants as op
use Rattle.lara_syntax.specs.declared.ast.AstStatement.{AstStatement}
use Rattle.lara_syntax.specs.declared.ast.AstStatement.TheVariants as st
use Rattle.lara_syntax.specs.Limits.{Limits, none_counted, one_operator, IsWithin}
use Rattle.lara_syntax.specs.declared.count.Count.{Count}
use Rattle.lara_syntax.specs.Steps.{Items, Read, Reader, onward, ◌>>=◌, give, refuse, skip, head_word, turns}
use Rattle.lara_syntax.specs.Reading as r
use Rattle.lara_syntax.specs.WordReading as words
use Rattle.lara_syntax.specs.Places.{node}
use Rattle.lara_syntax.specs.Reading.{Counted, CountedDefs, CountedDef}
use Rattle.lara_syntax.specs.WordReading.{sign, keyword}
use Rattle.lara_syntax.proofs.Levels.{inside_rest}
use Rattle.lara_syntax.proofs.Counts.{AreWithin}
use Rattle.lara_syntax.proofs.Turns.{read_of, erred}
use Rattle.lara_syntax.proofs.Readers.{IsReader, reads_bind, reads_give, reads_turns}
use Rattle.lara_syntax.proofs.RuleReaders.{sign-reads, some_names-reads}
use Rattle.lara_syntax.proofs.TableReaders.{AreReaders, counted, two_by-reads, RestReads, one_by-reads, agg_rest-reads, rename_rest-reads, inside_rest-reads, operand-reads, table-reads, assign_end, assign_end-reads, assign_rest, assign_rest-reads, print_rest, print_rest-reads, has_room, next_behind, next_behind-one, statements-reads, tree_given, tree_given-reads, statements-some, statements-none, statements-fail, defs-reads, key_def-reads, map_rest-reads, made-reads, filter_rest-reads, promote_rest-reads, def-reads, more_def-shorter, more_def-reads}
use Rattle.lara_syntax.proofs.Complete.{chosen, step}
use Rattle.lara_syntax.proofs.PlainRules.{Plain, plain_bind, plain_give, plain_skip, plain_refuse, sign-plain, name-plain, some_names-plain, leaf-plain, keyword-plain, pairs-plain, some_order-plain, key_col-plain, val_col-plain}
use Rattle.lara_syntax.proofs.Room.{room_left}
use Rattle.lara_syntax.proofs.Wider.{Less, LessCount, Fits, Past, Wider, Widens, always, past_read, past_onward, wider_onward, widens_bind, widens_give, widens_plain, wider_of}
use Rattle.lara_syntax.specs.declared.item.Keyword.{Keyword}
use Rattle.lara_syntax.specs.declared.ast_expr.AstExpr.{AstExpr}
use Rattle.lara_syntax.specs.ExprReading.{expr}
use Rattle.lara_syntax.proofs.WiderTurns.{some_of, turns_widen, comma_widens}
use Rattle.lara_syntax.proofs.ExprWider.{expr_widens}

-- ---- definitions

-- what is made of an expression
made_widens : {A : Type 0} (limit more : Count) (levels deeper : ℕ) → LessCount limit more → levels < deeper → (taken : Count) → IsWithin taken limit → (make : AstExpr → A) → Widens {A = A × Count} (AreWithin limit) (expr limit levels taken >>= λ e. give (make e.0, e.1)) (expr more deeper taken >>= λ e. give (make e.0, e.1))
made_widens {A = A} limit more levels deeper lt deep taken le make = widens_bind (AreWithin limit) (AreWithin limit) (expr limit levels taken) (expr more deeper taken) (λ e. give (make e.0, e.1)) (λ e. give (make e.0, e.1)) (expr_widens limit more levels deeper lt deep taken le) (λ e h. widens_give (AreWithin limit) (make e.0, e.1) h) (λ e. reads_give {A = A × Count} (make e.0, e.1))

-- a column, "=" and an expression
defined_widens : {C D : Type 0} (col : Reader C) → Plain col → (make : C → AstExpr → D) (limit more : Count) (levels deeper : ℕ) → LessCount limit more → levels < deeper → (taken : Count) → IsWithin taken limit
    → Widens {A = D × Count} (AreWithin limit) (col >>= λ c. sign Is >>= λ at. expr limit levels taken >>= λ e. give (make c e.0, e.1)) (col >>= λ c. sign Is >>= λ at. expr more deeper taken >>= λ e. give (make c e.0, e.1))
defined_widens col plain make limit more levels deeper lt deep taken le =
    widens_bind always (AreWithin limit) col col (λ c. sign Is >>= λ at. expr limit levels taken >>= λ e. give (make c e.0, e.1)) (λ c. sign Is >>= λ at. expr more deeper taken >>= λ e. give (make c e.0, e.1)) (widens_plain col plain)
    (λ c h. widens_bind always (AreWithin limit) (sign Is) (sign Is) (λ at. expr limit levels taken >>= λ e. give (make c e.0, e.1)) (λ at. expr more deeper taken >>= λ e. give (make c e.0, e.1)) (widens_plain (sign Is) (sign-plain Is))
    (λ at k. made_widens limit more levels deeper lt deep taken le (make c)) (λ at. made-reads more deeper taken (make c)))
    (λ c. reads_bind (sign Is) _ (sign-reads Is) (λ at. made-reads more deeper taken (make c)))

def_widens : (limit more : Count) (levels deeper : ℕ) → LessCount limit more → levels < deeper → (taken : Count) → IsWithin taken limit → Widens (AreWithin limit) (r.def limit levels taken) (r.def more deeper taken)
unfolding r.def
def_widens limit more levels deeper lt deep taken le = defined_widens r.val_col val_col-plain (λ c e. record { col = c; expr = e }) limit more levels deeper lt deep taken le

key_def_widens : (limit more : Count) (levels deeper : ℕ) → LessCount limit more → levels < deeper → (taken : Count) → IsWithin taken limit → Widens (AreWithin limit) (r.key_def limit levels taken) (r.key_def more deeper taken)
unfolding r.key_def
key_def_widens limit more levels deeper lt deep taken le = defined_widens r.key_col key_col-plain (λ c e. record { col = c; expr = e }) limit more levels deeper lt deep taken le

comma_def_widens : (limit more : Count) (levels deeper : ℕ) → LessCount limit more → levels < deeper → (taken : Count) → IsWithin taken limit → Widens (some_of (AreWithin limit)) (r.comma_def limit levels taken) (r.comma_def more deeper taken)
unfolding r.comma_def
comma_def_widens limit more levels deeper lt deep taken le = comma_widens (AreWithin limit) (r.def limit levels taken) (r.def more deeper taken) (def-reads more deeper taken) (def_widens limit more levels deeper lt deep taken le)

behind_widens : (limit : Count) (xs : CountedDefs) (o : Option CountedDef) → some_of (AreWithin limit) o → Widens (some_of (AreWithin limit)) (give (r.def_behind xs o)) (give (r.def_behind xs o))
behind_widens limit xs None h = widens_give (some_of (AreWithin limit)) None tt
behind_widens limit xs (Some x) h = widens_give (some_of (AreWithin limit)) (Some (xs.0 ++ x.0 ∷ [], x.1)) h

more_def_widens : (limit more : Count) (levels deeper : ℕ) → LessCount limit more → levels < deeper → (xs : CountedDefs) → IsWithin xs.1 limit → Widens (some_of (AreWithin limit)) (r.more_def limit levels xs) (r.more_def more deeper xs)
more_def_widens limit more levels deeper lt deep xs le = widens_bind (some_of (AreWithin limit)) (some_of (AreWithin limit)) (r.comma_def limit levels xs.1) (r.comma_def more deeper xs.1) (λ o. give (r.def_behind xs o)) (λ o. give (r.def_behind xs o)) (comma_def_widens limit more levels deeper lt deep xs.1 le) (behind_widens limit xs) (λ o. reads_give (r.def_behind xs o))

defs_widens : (limit more : Count) (levels deeper : ℕ) → LessCount limit more → levels < deeper → (taken : Count) → IsWithin taken limit → Widens (AreWithin limit) (r.defs limit levels taken) (r.defs more deeper taken)
unfolding r.defs r.defs_from
defs_widens limit more levels deeper lt deep taken le =
    widens_bind (AreWithin limit) (AreWithin limit) (r.def limit levels taken) (r.def more deeper taken) (λ x. turns (r.more_def limit levels) (x.0 ∷ [], x.1)) (λ x. turns (r.more_def more deeper) (x.0 ∷ [], x.1)) (def_widens limit more levels deeper lt deep taken le)
    (λ x h. turns_widen (AreWithin limit) (r.more_def limit levels) (r.more_def more deeper) (more_def-shorter limit levels) (more_def-shorter more deeper) (more_def-reads more deeper) (more_def_widens limit more levels deeper lt deep) (x.0 ∷ [], x.1) h)
    (λ x. reads_turns (r.more_def more deeper) (more_def-shorter more deeper) (more_def-reads more deeper) (x.0 ∷ [], x.1))

-- ---- operators

abbrev pub CountWidens : Count → (Count → Reader Counted) → (Count → Reader Counted) → Type 0
CountWidens limit p q = (taken : Count) → IsWithin taken limit → Widens (AreWithin limit) (p taken) (q taken)

operator_wider : (b c : Bool) (P : Type 0) → (b ≡ true → P) → c ≡ true → (t : Item) (us : Items) → Wider (λ (at : ℕ). P) (cond b skip (refuse TooMany) (t ∷ us)) (cond c skip (refuse TooMany) (t ∷ us))
operator_wider true true P f e t us = inl (refl, f refl)
operator_wider false true P f e t us = inr (record { left = suc (length us); kind = TooMany }, refl, refl, omega arith)
operator_wider b false P f e t us = absurd cc

operator_widens : (limit more taken : Count) → LessCount limit more → IsWithin taken limit → (ts : Items) (w : Lexeme) → head_word ts ≡ Some w → Wider (λ (at : ℕ). taken.operators < limit.operators) (r.operator_word limit taken ts) (r.operator_word more taken ts)
unfolding r.operator_word
operator_widens limit more taken lt le [] w h = absurd cc
operator_widens limit more taken lt le (t ∷ us) w h = operator_wider (nat_lt taken.operators limit.operators) (nat_lt taken.operators more.operators) (taken.operators < limit.operators) (ltb-true taken.operators limit.operators) (lt-ltb taken.operators more.operators (omega (arith, lt.0, le.0))) t us

two_widens : (limit : Count) (what : AstNode → AstNode → AstOp) (o q : Count → Reader Counted) → AreReaders q → CountWidens limit o q → (taken : Count) → IsWithin taken limit → (at : ℕ) → taken.operators < limit.operators → Widens (AreWithin limit) (r.two_by what o taken at) (r.two_by what q taken at)
two_widens limit what o q iq w taken le at lt =
    widens_bind (AreWithin limit) (AreWithin limit) (o (one_operator taken)) (q (one_operator taken)) (λ a. o a.1 >>= λ b. give (node at (what a.0 b.0), b.1)) (λ a. q a.1 >>= λ b. give (node at (what a.0 b.0), b.1)) (w (one_operator taken) (omega (arith, lt), le.1))
    (λ a ha. widens_bind (AreWithin limit) (AreWithin limit) (o a.1) (q a.1) (λ b. give (node at (what a.0 b.0), b.1)) (λ b. give (node at (what a.0 b.0), b.1)) (w a.1 ha) (λ b hb. widens_give (AreWithin limit) (node at (what a.0 b.0), b.1) hb) (λ b. reads_give _))
    (λ a. reads_bind (q a.1) _ (iq a.1) (λ b. reads_give _))

-- what is behind the operand of an operator
abbrev RestWidens : Count → (ℕ → Counted → Reader Counted) → (ℕ → Counted → Reader Counted) → Type 0
RestWidens limit rest wide = (at : ℕ) (a : Counted) → IsWithin a.1 limit → Widens (AreWithin limit) (rest at a) (wide at a)

one_widens : (limit : Count) (rest wide : ℕ → Counted → Reader Counted) → RestReads wide → RestWidens limit rest wide → (o q : Count → Reader Counted) → CountWidens limit o q → (taken : Count) → IsWithin taken limit → (at : ℕ) → taken.operators < limit.operators → Widens (AreWithin limit) (r.one_by rest o taken at) (r.one_by wide q taken at)
one_widens limit rest wide reads widens o q w taken le at lt = widens_bind (AreWithin limit) (AreWithin limit) (o (one_operator taken)) (q (one_operator taken)) (rest at) (wide at) (w (one_operator taken) (omega (arith, lt), le.1)) (widens at) (reads at)

-- a rest without limits
rest_widens : {A : Type 0} (limit : Count) (p : Reader A) (f : A → Counted) → Plain p → ((x : A) → IsWithin (f x).1 limit) → Widens (AreWithin limit) (p >>= λ x. give (f x)) (p >>= λ x. give (f x))
rest_widens limit p f plain le = widens_bind always (AreWithin limit) p p (λ x. give (f x)) (λ x. give (f x)) (widens_plain p plain) (λ x h. widens_give (AreWithin limit) (f x) (le x)) (λ x. reads_give (f x))

agg_names-reads : (at : ℕ) (a : Counted) → IsReader (r.some_names >>= λ ns. give {A = Counted} (node at (op.Agg a.0 ns), a.1))
agg_names-reads at a = reads_bind r.some_names _ some_names-reads (λ ns. reads_give _)

agg_rest_widens : (limit : Count) → RestWidens limit r.agg_rest r.agg_rest
agg_rest_widens limit at a ha =
    widens_bind always (AreWithin limit) (words.keyword key.By) (words.keyword key.By) (λ by. r.some_names >>= λ ns. give (node at (op.Agg a.0 ns), a.1)) (λ by. r.some_names >>= λ ns. give (node at (op.Agg a.0 ns), a.1)) (widens_plain (words.keyword key.By) (keyword-plain key.By))
    (λ by hb. rest_widens limit r.some_names (λ ns. (node at (op.Agg a.0 ns), a.1)) some_names-plain (λ ns. ha)) (λ by. agg_names-reads at a)

rename_rest_widens : (limit : Count) → RestWidens limit r.rename_rest r.rename_rest
rename_rest_widens limit at a ha = rest_widens limit r.pairs (λ ps. (node at (op.Rename a.0 ps), a.1)) pairs-plain (λ ps. ha)

-- a keyword behind an operand, and what is behind that
keyword_widens : (limit : Count) (k : Keyword) (p q : Reader Counted) → IsReader q → Widens (AreWithin limit) p q → Widens (AreWithin limit) (keyword k >>= λ at. p) (keyword k >>= λ at. q)
keyword_widens limit k p q iq w = widens_bind always (AreWithin limit) (keyword k) (keyword k) (λ at. p) (λ at. q) (widens_plain (keyword k) (keyword-plain k)) (λ at h. w) (λ at. iq)

map_rest_widens : (limit more : Count) (levels deeper : ℕ) → LessCount limit more → levels < deeper → RestWidens limit (r.map_rest limit levels) (r.map_rest more deeper)
map_rest_widens limit more levels deeper lt deep at a ha =
    keyword_widens limit key.To (r.defs limit levels a.1 >>= λ ds. give (node at (op.Map a.0 ds.0), ds.1)) (r.defs more deeper a.1 >>= λ ds. give (node at (op.Map a.0 ds.0), ds.1)) (reads_bind (r.defs more deeper a.1) _ (defs-reads more deeper a.1) (λ ds. reads_give _))
    (widens_bind (AreWithin limit) (AreWithin limit) (r.defs limit levels a.1) (r.defs more deeper a.1) (λ ds. give (node at (op.Map a.0 ds.0), ds.1)) (λ ds. give (node at (op.Map a.0 ds.0), ds.1)) (defs_widens limit more levels deeper lt deep a.1 ha) (λ ds h. widens_give (AreWithin limit) (node at (op.Map a.0 ds.0), ds.1) h) (λ ds. reads_give _))

filter_rest_widens : (limit more : Count) (levels deeper : ℕ) → LessCount limit more → levels < deeper → RestWidens limit (r.filter_rest limit levels) (r.filter_rest more deeper)
filter_rest_widens limit more levels deeper lt deep at a ha =
    keyword_widens limit key.Where (expr limit levels a.1 >>= λ e. give (node at (op.Filter a.0 e.0), e.1)) (expr more deeper a.1 >>= λ e. give (node at (op.Filter a.0 e.0), e.1)) (made-reads more deeper a.1 (λ e. node at (op.Filter a.0 e)))
    (made_widens limit more levels deeper lt deep a.1 ha (λ e. node at (op.Filter a.0 e)))

promote_rest_widens : (limit more : Count) (levels deeper : ℕ) → LessCount limit more → levels < deeper → RestWidens limit (r.promote_rest limit levels) (r.promote_rest more deeper)
promote_rest_widens limit more levels deeper lt deep at a ha =
    keyword_widens limit key.To (r.key_def limit levels a.1 >>= λ c. give (node at (op.Promote a.0 c.0), c.1)) (r.key_def more deeper a.1 >>= λ c. give (node at (op.Promote a.0 c.0), c.1)) (reads_bind (r.key_def more deeper a.1) _ (key_def-reads more deeper a.1) (λ c. reads_give _))
    (widens_bind (AreWithin limit) (AreWithin limit) (r.key_def limit levels a.1) (r.key_def more deeper a.1) (λ c. give (node at (op.Promote a.0 c.0), c.1)) (λ c. give (node at (op.Promote a.0 c.0), c.1)) (key_def_widens limit more levels deeper lt deep a.1 ha) (λ c h. widens_give (AreWithin limit) (node at (op.Promote a.0 c.0), c.1) h) (λ c. reads_give _))

-- an operator word, and what is behind it
operator_behind : (limit more taken : Count) → LessCount limit more → IsWithin taken limit → (f g : ℕ → Reader Counted) → ((at : ℕ) → taken.operators < limit.operators → Widens (AreWithin limit) (f at) (g at)) → ((at : ℕ) → IsReader (g at)) → (ts : Items) (w : Lexeme) → head_word ts ≡ Some w
    → Wider (AreWithin limit) ((r.operator_word limit taken >>= f) ts) ((r.operator_word more taken >>= g) ts)
operator_behind limit more taken lt le f g fg ig ts w h = wider_onward (λ at. taken.operators < limit.operators) (AreWithin limit) f g fg ig (r.operator_word limit taken ts) (r.operator_word more taken ts) (operator_widens limit more taken lt le ts w h)

table_by_widens : (limit more : Count) (levels deeper : ℕ) → levels < deeper → (o q : Count → Reader Counted) → LessCount limit more → AreReaders q → CountWidens limit o q → (taken : Count) → IsWithin taken limit → (w : Option Lexeme) (ts : Items) → head_word ts ≡ w → Wider (AreWithin limit) (r.table_by limit levels o taken w ts) (r.table_by more deeper q taken w ts)
table_by_widens limit more levels deeper deep o q lt iq w taken le (Some (lex.Key key.Join)) ts h = operator_behind limit more taken lt le (r.two_by op.Join o taken) (r.two_by op.Join q taken) (two_widens limit op.Join o q iq w taken le) (two_by-reads op.Join q iq taken) ts (lex.Key key.Join) h
table_by_widens limit more levels deeper deep o q lt iq w taken le (Some (lex.Key key.Union)) ts h = operator_behind limit more taken lt le (r.two_by op.Union o taken) (r.two_by op.Union q taken) (two_widens limit op.Union o q iq w taken le) (two_by-reads op.Union q iq taken) ts (lex.Key key.Union) h
table_by_widens limit more levels deeper deep o q lt iq w taken le (Some (lex.Key key.Agg)) ts h = operator_behind limit more taken lt le (r.one_by r.agg_rest o taken) (r.one_by r.agg_rest q taken) (one_widens limit r.agg_rest r.agg_rest agg_rest-reads (agg_rest_widens limit) o q w taken le) (one_by-reads r.agg_rest agg_rest-reads q iq taken) ts (lex.Key key.Agg) h
table_by_widens limit more levels deeper deep o q lt iq w taken le (Some (lex.Key key.Map)) ts h = operator_behind limit more taken lt le (r.one_by (r.map_rest limit levels) o taken) (r.one_by (r.map_rest more deeper) q taken) (one_widens limit (r.map_rest limit levels) (r.map_rest more deeper) (map_rest-reads more deeper) (map_rest_widens limit more levels deeper lt deep) o q w taken le) (one_by-reads (r.map_rest more deeper) (map_rest-reads more deeper) q iq taken) ts (lex.Key key.Map) h
table_by_widens limit more levels deeper deep o q lt iq w taken le (Some (lex.Key key.Filter)) ts h = operator_behind limit more taken lt le (r.one_by (r.filter_rest limit levels) o taken) (r.one_by (r.filter_rest more deeper) q taken) (one_widens limit (r.filter_rest limit levels) (r.filter_rest more deeper) (filter_rest-reads more deeper) (filter_rest_widens limit more levels deeper lt deep) o q w taken le) (one_by-reads (r.filter_rest more deeper) (filter_rest-reads more deeper) q iq taken) ts (lex.Key key.Filter) h
table_by_widens limit more levels deeper deep o q lt iq w taken le (Some (lex.Key key.Promote)) ts h = operator_behind limit more taken lt le (r.one_by (r.promote_rest limit levels) o taken) (r.one_by (r.promote_rest more deeper) q taken) (one_widens limit (r.promote_rest limit levels) (r.promote_rest more deeper) (promote_rest-reads more deeper) (promote_rest_widens limit more levels deeper lt deep) o q w taken le) (one_by-reads (r.promote_rest more deeper) (promote_rest-reads more deeper) q iq taken) ts (lex.Key key.Promote) h
table_by_widens limit more levels deeper deep o q lt iq w taken le (Some (lex.Key key.Rename)) ts h = operator_behind limit more taken lt le (r.one_by r.rename_rest o taken) (r.one_by r.rename_rest q taken) (one_widens limit r.rename_rest r.rename_rest rename_rest-reads (rename_rest_widens limit) o q w taken le) (one_by-reads r.rename_rest rename_rest-reads q iq taken) ts (lex.Key key.Rename) h
table_by_widens limit more levels deeper deep o q lt iq w taken le v ts h = w taken le ts

-- ---- levels

abbrev InsideWidens : Count → Count → ℕ → ℕ → Type 0
InsideWidens limit more levels deeper = (taken : Count) → IsWithin taken limit → (ts : Items) → head_word ts ≡ Some (lex.Sign Open) → Wider (AreWithin limit) (r.inside limit levels taken ts) (r.inside more deeper taken ts)

operand_by_widens : (limit more : Count) (levels deeper : ℕ) → InsideWidens limit more levels deeper → (taken : Count) → IsWithin taken limit → (w : Option Lexeme) (ts : Items) → head_word ts ≡ w → Wider (AreWithin limit) (r.operand_by (r.inside limit levels) taken w ts) (r.operand_by (r.inside more deeper) taken w ts)
operand_by_widens limit more levels deeper iw taken le (Some (lex.Sign Open)) ts h = iw taken le ts h
operand_by_widens limit more levels deeper iw taken le w ts h = widens_bind always (AreWithin limit) r.leaf r.leaf (counted taken) (counted taken) (widens_plain r.leaf leaf-plain) (λ x hx. widens_give (AreWithin limit) (x, taken) le) (λ x. reads_give {A = Counted} (x, taken)) ts

operand_widens : (limit more : Count) (levels deeper : ℕ) → InsideWidens limit more levels deeper → CountWidens limit (r.operand limit levels) (r.operand more deeper)
unfolding r.operand
operand_widens limit more levels deeper iw taken le ts = operand_by_widens limit more levels deeper iw taken le (head_word ts) ts refl

table_from : (limit more : Count) (levels deeper : ℕ) → LessCount limit more → levels < deeper → InsideWidens limit more levels deeper → CountWidens limit (r.table limit levels) (r.table more deeper)
unfolding r.table
table_from limit more levels deeper lt deep iw taken le ts = table_by_widens limit more levels deeper deep (r.operand limit levels) (r.operand more deeper) lt (operand-reads more deeper) (operand_widens limit more levels deeper iw) taken le (head_word ts) ts refl

-- a table in brackets is closed
closed_widens : (limit : Count) (x : Counted) → IsWithin x.1 limit → Widens (AreWithin limit) (sign Close >>= λ end. give x) (sign Close >>= λ end. give x)
closed_widens limit x le = widens_bind always (AreWithin limit) (sign Close) (sign Close) (λ end. give x) (λ end. give x) (widens_plain (sign Close) (sign-plain Close)) (λ end he. widens_give (AreWithin limit) x le) (λ end. reads_give x)

inside_widens : (limit more : Count) (levels deeper : ℕ) → LessCount limit more → levels < deeper → InsideWidens limit more levels deeper
unfolding r.inside r.table r.operand
inside_widens limit more levels zero lt deep taken le ts h = absurd (omega (arith, deep))
inside_widens limit more levels (suc deeper) lt deep taken le [] h = absurd cc
inside_widens limit more zero (suc deeper) lt deep taken le (t ∷ us) h =
    inr (record { left = suc (length us); kind = TooMany }, refl, refl, past_read (inside_rest more deeper taken t.at) (inside_rest-reads more deeper taken t.at) (suc (length us)) us (omega arith) (inside_rest more deeper taken t.at us) refl)
inside_widens limit more (suc levels) (suc deeper) lt deep taken le (t ∷ us) h =
    widens_bind (AreWithin limit) (AreWithin limit) (r.table limit levels taken) (r.table more deeper taken) (λ x. sign Close >>= λ end. give x) (λ x. sign Close >>= λ end. give x) (table_from limit more levels deeper lt (omega (arith, deep)) (inside_widens limit more levels deeper lt (omega (arith, deep))) taken le)
    (closed_widens limit) (λ x. reads_bind (sign Close) _ (sign-reads Close) (λ end. reads_give x)) us

table_widens : (limit more : Count) (levels deeper : ℕ) → LessCount limit more → levels < deeper → CountWidens limit (r.table limit levels) (r.table more deeper)
table_widens limit more levels deeper lt deep = table_from limit more levels deeper lt deep (inside_widens limit more levels deeper lt deep)

-- ---- statements

print_rest-plain : (at : ℕ) → Plain (print_rest at)
print_rest-plain at = plain_bind words.name _ name-plain (λ x. plain_bind r.some_order _ some_order-plain (λ by. plain_bind (sign Semi) _ (sign-plain Semi) (λ b. plain_give _)))

assign_widens : (a b : Limits) → Less a b → (x : AstName) → Widens always (assign_rest a x) (assign_rest b x)
assign_widens a b less x =
    widens_bind always always (sign Is) (sign Is) (λ is. r.table a.counted a.levels none_counted >>= assign_end x) (λ is. r.table b.counted b.levels none_counted >>= assign_end x) (widens_plain (sign Is) (sign-plain Is))
    (λ is h. widens_bind (AreWithin a.counted) always (r.table a.counted a.levels none_counted) (r.table b.counted b.levels none_counted) (assign_end x) (assign_end x) (table_widens a.counted b.counted a.levels b.levels less.2 less.1 none_counted (omega arith, omega arith))
    (λ t k. widens_plain (assign_end x t) (plain_bind (sign Semi) (λ end. give (st.Assign x.at x t.0)) (sign-plain Semi) (λ end. plain_give _))) (assign_end-reads x))
    (λ is. reads_bind (r.table b.counted b.levels none_counted) (assign_end x) (table-reads b.counted b.levels none_counted) (assign_end-reads x))

statement_by_widens : (a b : Limits) → Less a b → (w : Option Lexeme) → Widens always (r.statement_by a w) (r.statement_by b w)
statement_by_widens a b less (Some (lex.Name n)) = widens_bind always always words.name words.name (assign_rest a) (assign_rest b) (widens_plain words.name name-plain) (λ x h. assign_widens a b less x) (assign_rest-reads b)
statement_by_widens a b less (Some (lex.Key key.Print)) = widens_plain (skip >>= print_rest) (plain_bind skip print_rest plain_skip print_rest-plain)
statement_by_widens a b less w = widens_plain (refuse Unexpected) plain_refuse

statement_widens : (a b : Limits) → Less a b → Widens always (r.statement a) (r.statement b)
unfolding r.statement
statement_widens a b less ts = statement_by_widens a b less (head_word ts) ts

-- a word of a statement's begin is read
name_begins : (limits : Limits) (n : List ℕ) (t : Item) (us : Items) → t.lexeme ≡ lex.Name n → Past (suc (length us)) (r.statement limits (t ∷ us))
unfolding r.statement words.name
name_begins limits n t us e =
    let x : AstName = record { name = n; at = t.at } in
    let next = ap (λ (l : Lexeme). Some l) e in
    let named : words.name (t ∷ us) ≡ read_of x us = chosen words.name_by (t ∷ us) (Some (lex.Name n)) (read_of x us) next refl in
    let read : r.statement limits (t ∷ us) ≡ assign_rest limits x us = chosen (r.statement_by limits) (t ∷ us) (Some (lex.Name n)) (assign_rest limits x us) next (step words.name (assign_rest limits) (t ∷ us) x us (assign_rest limits x us) named refl) in
    subst (λ (q : Read AstStatement). Past (suc (length us)) q) (sym read) (past_read (assign_rest limits x) (assign_rest-reads limits x) (suc (length us)) us (omega arith) (assign_rest limits x us) refl)

print_begins : (limits : Limits) (t : Item) (us : Items) → t.lexeme ≡ lex.Key key.Print → Past (suc (length us)) (r.statement limits (t ∷ us))
unfolding r.statement
print_begins limits t us e =
    let read : r.statement limits (t ∷ us) ≡ print_rest t.at us = chosen (r.statement_by limits) (t ∷ us) (Some (lex.Key key.Print)) (print_rest t.at us) (ap (λ (l : Lexeme). Some l) e) refl in
    subst (λ (q : Read AstStatement). Past (suc (length us)) q) (sym read) (past_read (print_rest t.at) (print_rest-reads t.at) (suc (length us)) us (omega arith) (print_rest t.at us) refl)

abbrev some_statement : AstStatement → Reader (Option AstStatement)
some_statement x = give (Some x)

-- a statement more than there is room for
full_wider : (b : Limits) (w : Lexeme) (t : Item) (us : Items) → t.lexeme ≡ w → Wider always (r.next_by b false (Some w) (t ∷ us)) (onward (r.statement b (t ∷ us)) some_statement)
unfolding r.statement
full_wider b (lex.Name n) t us e = inr (record { left = suc (length us); kind = TooMany }, refl, refl, past_onward (suc (length us)) (r.statement b (t ∷ us)) some_statement (λ x. reads_give (Some x)) (name_begins b n t us e))
full_wider b (lex.Key key.Print) t us e = inr (record { left = suc (length us); kind = TooMany }, refl, refl, past_onward (suc (length us)) (r.statement b (t ∷ us)) some_statement (λ x. reads_give (Some x)) (print_begins b t us e))
full_wider b w t us e = inl (ap (λ (l : Lexeme). onward (r.statement_by b (Some l) (t ∷ us)) some_statement) (sym e), refl)

next_by_widens : (a b : Limits) → Less a b → (room more_room : Bool) → more_room ≡ true → (ts : Items) → Wider always (r.next_by a room (head_word ts) ts) (r.next_by b more_room (head_word ts) ts)
next_by_widens a b less room false e ts = absurd cc
next_by_widens a b less room true e [] = inl (refl, tt)
next_by_widens a b less true true e (t ∷ us) = widens_bind always always (r.statement a) (r.statement b) some_statement some_statement (statement_widens a b less) (λ x h. widens_give always (Some x) tt) (λ x. reads_give (Some x)) (t ∷ us)
next_by_widens a b less false true e (t ∷ us) = full_wider b t.lexeme t us refl

next_widens : (a b : Limits) → Less a b → (acc : List AstStatement) → length acc ≤ a.statements → Widens always (next_behind a acc) (next_behind b acc)
unfolding r.next_statement
next_widens a b less acc le ts = next_by_widens a b less (has_room a acc) (has_room b acc) (lt-ltb (length acc) b.statements (omega (arith, le, less.0))) ts

-- ---- scripts

-- what the loop with wider limits does, where this one stops at a word of which there are too many
past_next : (b : Limits) (n : ℕ) (acc : List AstStatement) (ts : Items) (p : Read (Option AstStatement)) → next_behind b acc ts ≡ p → Past n p → Past n (r.statements b acc ts)
past_next b n acc ts (Ok (None, m)) h lt = subst (λ (q : Read (List AstStatement)). Past n q) (sym (statements-none b acc ts None m h refl)) lt
past_next b n acc ts (Ok (Some x, m)) h lt = subst (λ (q : Read (List AstStatement)). Past n q) (sym (statements-some b acc ts x m h)) (past_read (r.statements b (acc ++ x ∷ [])) (statements-reads b (acc ++ x ∷ [])) n m lt (r.statements b (acc ++ x ∷ []) m) refl)
past_next b n acc ts (Err c) h lt = subst (λ (q : Read (List AstStatement)). Past n q) (sym (statements-fail b acc ts (faults.Stopped c) h)) lt

abbrev LoopWidens : Limits → Limits → ℕ → Type 0
LoopWidens a b n = (acc : List AstStatement) (ts : Items) → length ts < n → length acc ≤ a.statements → Wider always (r.statements a acc ts) (r.statements b acc ts)

same_next : (a b : Limits) (n : ℕ) → LoopWidens a b n → (acc : List AstStatement) (ts : Items) (o : Read (Option AstStatement)) → next_behind a acc ts ≡ o → next_behind b acc ts ≡ o → ((d : Stop) → o ≡ erred d → d.kind ≡ Unexpected) → length ts < suc n → Wider always (r.statements a acc ts) (r.statements b acc ts)
same_next a b n next acc ts (Ok (None, m)) h k fits lt =
    wider_of always (r.statements a acc ts) (read_of acc m) (r.statements b acc ts) (read_of acc m) (statements-none a acc ts None m h refl) (statements-none b acc ts None m k refl) (inl (refl, tt))
same_next a b n next acc ts (Ok (Some x, m)) h k fits lt =
    let room = room_left a acc ts x m h in
    wider_of always (r.statements a acc ts) (r.statements a (acc ++ x ∷ []) m) (r.statements b acc ts) (r.statements b (acc ++ x ∷ []) m) (statements-some a acc ts x m h) (statements-some b acc ts x m k)
    (next (acc ++ x ∷ []) m (omega (arith, lt, (next_behind-one a acc).shorter ts x m h)) (omega (arith, room, length-append acc (x ∷ []))))
same_next a b n next acc ts (Err c) h k fits lt =
    wider_of always (r.statements a acc ts) (erred c) (r.statements b acc ts) (erred c) (statements-fail a acc ts (faults.Stopped c) h) (statements-fail b acc ts (faults.Stopped c) k) (inl (refl, fits c refl))

fits_kind : {A : Type 0} (o : Read A) → Fits always o → (d : Stop) → o ≡ erred d → d.kind ≡ Unexpected
fits_kind o fits d e = subst (λ (q : Read _). Fits always q) e fits

loop_by : (a b : Limits) (n : ℕ) → LoopWidens a b n → (acc : List AstStatement) (ts : Items) → length ts < suc n → Wider always (next_behind a acc ts) (next_behind b acc ts) → Wider always (r.statements a acc ts) (r.statements b acc ts)
loop_by a b n next acc ts lt (inl h) = same_next a b n next acc ts (next_behind a acc ts) refl (sym h.0) (fits_kind (next_behind a acc ts) h.1) lt
loop_by a b n next acc ts lt (inr h) = inr (h.0, statements-fail a acc ts (faults.Stopped h.0) h.1, h.2, past_next b h.0.left acc ts (next_behind b acc ts) refl h.3)

loop_widens : (a b : Limits) → Less a b → (n : ℕ) → LoopWidens a b n
loop_widens a b less zero acc ts lt le = absurd (omega arith)
loop_widens a b less (suc n) acc ts lt le = loop_by a b n (loop_widens a b less n) acc ts lt (next_widens a b less acc le ts)

statements_widen : (a b : Limits) → Less a b → Widens always (r.statements a []) (r.statements b [])
statements_widen a b less ts = loop_widens a b less (suc (length ts)) [] ts (omega arith) (omega arith)

pub script_widens : (a b : Limits) → Less a b → Widens always (r.script a) (r.script b)
unfolding r.script
script_widens a b less = widens_bind always always (r.statements a []) (r.statements b []) tree_given tree_given (statements_widen a b less) (λ xs h. widens_give always (r.tree_of xs) tt) tree_given-reads
