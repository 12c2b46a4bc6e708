-- What stands before a refused word can go on: expressions.
use Rattle.std.proofs.Common.{◌≡◌, ℕ, zero, suc, [], ◌∷◌, Option, Some, None, Bool, true, false, cond, nat_lt, refl, sym, ap, subst, ◌∙◌, arith}
use Rattle.lara_data.specs.declared.expr.TwoOp.{TwoOp}
use Rattle.lara_data.specs.declared.expr.FunOp.{FunOp}
use Rattle.lara_data.specs.declared.refusal.Kind.TheVariants.{TooMany}
use Rattle.lara_syntax.specs.declared.item.Lexeme.{Lexeme}
use Rattle.lara_syntax.specs.declared.item.Lexeme.TheVariants as lex
use Rattle.lara_syntax.specs.declared.item.Keyword.{Keyword}
use Rattle.lara_syntax.specs.declared.item.Keyword.TheVariants as key
use Rattle.lara_syntax.specs.declared.item.Sign.TheVariants.{Open, Close}
use Rattle.lara_syntax.specs.declared.count.Count.{Count}
use Rattle.lara_syntax.specs.declared.ast_expr.AstExpr.{AstExpr}
use Rattle.lara_syntax.specs.declared.ast_expr.AstForm.TheVariants as form
use Rattle.lara_syntax.specs.Limits.{one_sign}
use Rattle.lara_syntax.specs.ExprGrammar.{expr_at, two_at, literal_form}
use Rattle.lara_syntax.specs.ExprReading as r
use Rattle.lara_syntax.specs.ExprReading.{CountedExpr, ExprReader}
use Rattle.lara_syntax.specs.WordReading.{sign, keyword, name, lit, next_as}
use Rattle.lara_syntax.specs.Steps.{Items, Reader, ◌>>=◌, give, refuse, skip, turns, head_word}
use Rattle.lara_syntax.proofs.Turns.{TakesOne, read_of, rest_is, value_is, err_ok, none_some}
use Rattle.lara_syntax.proofs.Readers.{IsReader, reads_bind, reads_give, reads_skip, skip_shortens, bind_ok}
use Rattle.lara_syntax.proofs.RuleReaders.{sign-reads, keyword-reads, name-reads, lit-reads}
use Rattle.lara_syntax.proofs.Complete.{step, head_is}
use Rattle.lara_syntax.proofs.SoundWords.{keyword_sound}
use Rattle.lara_syntax.proofs.Viable.{same_end, viable_narrow, IsViable, IsCase, Starts, case_viable, case_refuse, viable_bind, viable_give, viable_choice}
use Rattle.lara_syntax.proofs.ViableLoop.{keeps_viable, keeps_none, keeps_choice, viable_item}
use Rattle.lara_syntax.proofs.ViableTurns.{Keeps, IsTurn, turns_starts, viable_turns}
use Rattle.lara_syntax.proofs.ViableWords.{name_spelled, a_name, any, token, viable_behind, Takes, quiet_takes, first_takes, sign_viable, sign_starts, keyword_viable, name_takes, name_viable, lit_takes, lit_viable}
use Rattle.lara_syntax.proofs.ExprReaders.{ReadEach, right_of, right_of-reads, joined-shortens, some_of, operated-reads, operated-shorter, turns-reads, paired-reads, call_rest-reads, brackets_rest-reads, negated_rest-reads, branches_rest-reads, deeper_expr-reads, deeper_not-reads, atom-reads, product_with-reads, sum_with-reads, cat_with-reads, conjunction_with-reads, negation-reads}
use Rattle.lara_syntax.proofs.ExprLoops.{chain-ends}
use Rattle.lara_syntax.proofs.ExprChains.{next_two-is, next_two-none, Looser, looser_than, looser_word}
use Rattle.lara_syntax.proofs.ExprComplete.{Below, by_levels}
use Rattle.lara_syntax.proofs.ExprWider.{second_branch, first_branch, second_branch-reads, first_branch-reads}

-- ---- what may follow

-- p is viable, where what may follow binds less than so tightly
abbrev pub PartViable : ℕ → ExprReader → Type 0
PartViable t p = (taken : Count) → IsViable (Looser t) (p taken)

tighter : (t : ℕ) (w : Option Lexeme) → Looser t w → Looser (suc t) w
tighter t w h = looser_than t (suc t) (omega arith) w h

looser_viable : (t : ℕ) (p : ExprReader) → PartViable (suc t) p → PartViable t p
looser_viable t p v taken = viable_narrow (Looser t) (Looser (suc t)) (tighter t) (p taken) (v taken)

-- ---- an operator and the part behind it

right_viable : (F : Option Lexeme → Type 0) (p : ExprReader) → ReadEach p → ((taken : Count) → IsViable F (p taken)) → (left : CountedExpr) (op : TwoOp) (at : ℕ) → IsViable F (right_of p left op at)
right_viable F p ip vp left op at = viable_bind F F (p (one_sign left.1)) (λ b. give (two_at at op left.0 b.0, b.1)) (ip (one_sign left.1)) (λ b. reads_give _) (vp (one_sign left.1)) (λ b. viable_give F _) (λ b. same_end F _)

room_case : {A : Type 0} (F : Option Lexeme → Type 0) (b : Bool) (f : ℕ → Reader A) → ((at : ℕ) → IsReader (f at)) → ((at : ℕ) → IsViable F (f at)) → IsCase F (cond b skip (refuse TooMany) >>= f)
room_case F true f reads viable = case_viable F (skip >>= f) (viable_behind F f reads viable)
room_case F false f reads viable = case_refuse F TooMany

joined_case : (F : Option Lexeme → Type 0) (limit : Count) (p : ExprReader) → ReadEach p → ((taken : Count) → IsViable F (p taken)) → (left : CountedExpr) (op : TwoOp) → IsCase F (r.joined limit p left op)
unfolding r.operator_sign
joined_case F limit p ip vp left op = room_case F (nat_lt (left.1).signs limit.signs) (right_of p left op) (right_of-reads p ip left op) (right_viable F p ip vp left op)

some_joined_viable : (F : Option Lexeme → Type 0) (p : ExprReader) → ReadEach p → ((taken : Count) → IsViable F (p taken)) → (left : CountedExpr) (op : TwoOp) → IsViable F ((skip >>= right_of p left op) >>= some_of)
some_joined_viable F p ip vp left op =
    viable_bind F F (skip >>= right_of p left op) some_of (reads_bind skip (right_of p left op) reads_skip (right_of-reads p ip left op)) (λ x. reads_give (Some x)) (viable_behind F (right_of p left op) (right_of-reads p ip left op) (right_viable F p ip vp left op)) (λ x. viable_give F (Some x)) (λ x. same_end F (Some x))

some_room_case : (F : Option Lexeme → Type 0) (b : Bool) (p : ExprReader) → ReadEach p → ((taken : Count) → IsViable F (p taken)) → (left : CountedExpr) (op : TwoOp) → IsCase F ((cond b skip (refuse TooMany) >>= right_of p left op) >>= some_of)
some_room_case F true p ip vp left op = case_viable F _ (some_joined_viable F p ip vp left op)
some_room_case F false p ip vp left op = case_refuse F TooMany

some_room_keeps : (F : Option Lexeme → Type 0) (b : Bool) (p : ExprReader) → ReadEach p → ((taken : Count) → IsViable F (p taken)) → (left : CountedExpr) (op : TwoOp) → Keeps F ((cond b skip (refuse TooMany) >>= right_of p left op) >>= some_of)
some_room_keeps F true p ip vp left op before u v x e after = keeps_viable F ((skip >>= right_of p left op) >>= some_of) (some_joined_viable F p ip vp left op) before u v x e after
some_room_keeps F false p ip vp left op before u v x e after = absurd (err_ok {A = Option CountedExpr} _ (Some x, u) e)

operated_case : (F : Option Lexeme → Type 0) (limit : Count) (p : ExprReader) → ReadEach p → ((taken : Count) → IsViable F (p taken)) → (left : CountedExpr) (o : Option TwoOp) → IsCase F (r.operated_by limit p left o)
unfolding r.operator_sign
operated_case F limit p ip vp left None = case_viable F (give None) (viable_give F None)
operated_case F limit p ip vp left (Some op) = some_room_case F (nat_lt (left.1).signs limit.signs) p ip vp left op

operated_keeps : (F : Option Lexeme → Type 0) (limit : Count) (p : ExprReader) → ReadEach p → ((taken : Count) → IsViable F (p taken)) → (left : CountedExpr) (o : Option TwoOp) → Keeps F (r.operated_by limit p left o)
unfolding r.operator_sign
operated_keeps F limit p ip vp left None = keeps_none F
operated_keeps F limit p ip vp left (Some op) = some_room_keeps F (nat_lt (left.1).signs limit.signs) p ip vp left op

-- ---- chains

operated_one : (t : ℕ) (limit : Count) (p : ExprReader) → ReadEach p → (left : CountedExpr) → TakesOne (r.operated t limit p left)
operated_one t limit p ip left = record { shorter = λ ts x u e. (operated-shorter t limit p ip).shorter left ts x u e }

operated_ends : (t : ℕ) (limit : Count) (p : ExprReader) (left : CountedExpr) (v : Items) → Looser t (head_word v) → r.operated t limit p left v ≡ read_of None v
operated_ends t limit p left v after = ap (λ (o : Option TwoOp). r.operated_by limit p left o v) (next_two-none t (head_word v) after)

-- the word of an operator that binds so tightly
operator_begins : (t : ℕ) (w : Option Lexeme) (op : TwoOp) → r.next_two t w ≡ Some op → Looser (suc t) w
operator_begins t w op n = let i = next_two-is t w op n in subst (λ (o : Option Lexeme). Looser (suc t) o) (sym i.0) (looser_word op (suc t) (omega (arith, i.1)))

rests_by : (t : ℕ) (limit : Count) (p : ExprReader) (left : CountedExpr) (o : Option TwoOp) (ts u : Items) → r.next_two t (head_word ts) ≡ o → r.operated_by limit p left o ts ≡ read_of None u → Looser t (head_word u) → Looser (suc t) (head_word ts)
rests_by t limit p left None ts u n e after = tighter t (head_word ts) (subst (λ (q : Items). Looser t (head_word q)) (sym (rest_is {A = Option CountedExpr} None ts None u e)) after)
rests_by t limit p left (Some op) ts u n e after = operator_begins t (head_word ts) op n

begins_by : (t : ℕ) (limit : Count) (p : ExprReader) (left : CountedExpr) (o : Option TwoOp) (ts : Items) (x : CountedExpr) (u : Items) → r.next_two t (head_word ts) ≡ o → r.operated_by limit p left o ts ≡ read_of (Some x) u → Looser (suc t) (head_word ts)
begins_by t limit p left None ts x u n e = absurd (none_some ts u x e)
begins_by t limit p left (Some op) ts x u n e = operator_begins t (head_word ts) op n

chain_step : (t : ℕ) (limit : Count) (p : ExprReader) → ReadEach p → PartViable (suc t) p → IsTurn (Looser t) (Looser (suc t)) (r.operated t limit p)
chain_step t limit p ip vp = record {
  shortens = operated-shorter t limit p ip;
  reader = operated-reads t limit p ip;
  ends = operated_ends t limit p;
  rests = λ left ts u e after. rests_by t limit p left (r.next_two t (head_word ts)) ts u refl e after;
  begins = λ left ts x u e. begins_by t limit p left (r.next_two t (head_word ts)) ts x u refl e;
  keeps = λ left. keeps_choice (Looser (suc t)) (λ w. r.operated_by limit p left (r.next_two t w)) (operated_one t limit p ip left) (λ w. operated_keeps (Looser (suc t)) limit p ip vp left (r.next_two t w));
  viable = λ left. viable_item (Looser t) (λ w. r.operated_by limit p left (r.next_two t w)) (operated_one t limit p ip left) (operated_ends t limit p left) (λ w. operated_case (Looser t) limit p ip (looser_viable t p vp) left (r.next_two t w));
}

chain_viable : (t : ℕ) (limit : Count) (p : ExprReader) → ReadEach p → PartViable (suc t) p → PartViable t (r.chain t limit p)
chain_viable t limit p ip vp taken =
    let s = chain_step t limit p ip vp in
    viable_bind (Looser t) (Looser (suc t)) (p taken) (turns (r.operated t limit p)) (ip taken) (turns-reads t limit p ip) (vp taken) (viable_turns (Looser t) (Looser (suc t)) (r.operated t limit p) s) (λ left ts y v e after. turns_starts (Looser t) (Looser (suc t)) (r.operated t limit p) s left y ts v e after)

pair_starts : (t : ℕ) (limit : Count) (p : ExprReader) (left : CountedExpr) (o : Option TwoOp) (ts : Items) (y : CountedExpr) (v : Items) → r.next_two t (head_word ts) ≡ o → r.pair_by limit p left o ts ≡ read_of y v → Looser t (head_word v) → Looser (suc t) (head_word ts)
pair_starts t limit p left None ts y v n e after = tighter t (head_word ts) (subst (λ (q : Items). Looser t (head_word q)) (sym (rest_is left ts y v e)) after)
pair_starts t limit p left (Some op) ts y v n e after = operator_begins t (head_word ts) op n

pair_ends : (t : ℕ) (limit : Count) (p : ExprReader) (left : CountedExpr) (v : Items) → Looser t (head_word v) → r.paired t limit p left v ≡ read_of left v
pair_ends t limit p left v after = ap (λ (o : Option TwoOp). r.pair_by limit p left o v) (next_two-none t (head_word v) after)

pair_quiet : (t : ℕ) (limit : Count) (p : ExprReader) → ReadEach p → (left : CountedExpr) (o : Option TwoOp) (u v : Items) (x : CountedExpr) → r.pair_by limit p left o u ≡ read_of x u → Looser t (head_word v) → r.paired t limit p left v ≡ read_of x v
pair_quiet t limit p ip left None u v x e after = pair_ends t limit p left v after ∙ ap (λ (q : CountedExpr). read_of q v) (value_is left u x u e)
pair_quiet t limit p ip left (Some op) u v x e after = absurd (omega (arith, joined-shortens limit p ip left op u x u e))

pair_case : (F : Option Lexeme → Type 0) (limit : Count) (p : ExprReader) → ReadEach p → ((taken : Count) → IsViable F (p taken)) → (left : CountedExpr) (o : Option TwoOp) → IsCase F (r.pair_by limit p left o)
pair_case F limit p ip vp left None = case_viable F (give left) (viable_give F left)
pair_case F limit p ip vp left (Some op) = joined_case F limit p ip vp left op

paired_viable : (t : ℕ) (limit : Count) (p : ExprReader) → ReadEach p → PartViable (suc t) p → (left : CountedExpr) → IsViable (Looser t) (r.paired t limit p left)
paired_viable t limit p ip vp left =
    viable_choice (Looser t) (λ w. r.pair_by limit p left (r.next_two t w)) (λ w. pair_case (Looser t) limit p ip (looser_viable t p vp) left (r.next_two t w)) (λ u v x e after. pair_quiet t limit p ip left (r.next_two t (head_word u)) u v x e after) [] tt left (pair_ends t limit p left)

pair_viable : (t : ℕ) (limit : Count) (p : ExprReader) → ReadEach p → PartViable (suc t) p → PartViable t (r.pair t limit p)
pair_viable t limit p ip vp taken =
    viable_bind (Looser t) (Looser (suc t)) (p taken) (r.paired t limit p) (ip taken) (paired-reads t limit p ip) (vp taken) (paired_viable t limit p ip vp) (λ left ts y v e after. pair_starts t limit p left (r.next_two t (head_word ts)) ts y v refl e after)

-- ---- words that open a level

opened_case : {A : Type 0} (F : Option Lexeme → Type 0) (levels : ℕ) (f : ℕ → Reader A) → ((at : ℕ) → IsReader (f at)) → ((e : ℕ) → levels ≡ suc e → (at : ℕ) → IsViable F (f at)) → IsCase F (r.opening levels >>= f)
unfolding r.opening
opened_case F zero f reads viable = case_refuse F TooMany
opened_case F (suc levels) f reads viable = case_viable F (skip >>= f) (viable_behind F f reads (viable levels refl))

opened_takes : {A : Type 0} (levels : ℕ) (f : ℕ → Reader A) → ((at : ℕ) → IsReader (f at)) → Takes (r.opening levels >>= f)
unfolding r.opening
opened_takes {A = A} zero f reads ts y u e = absurd (err_ok {A = A} _ (y, u) e)
opened_takes (suc levels) f reads ts y u e = skip_shortens f reads ts y u e

-- what begins with the keyword k
keyword_starts : {B : Type 0} (F : Option Lexeme → Type 0) (k : Keyword) (f : ℕ → Reader B) → Starts F (λ w. w ≡ Some (lex.Key k)) (keyword k >>= f)
keyword_starts F k f ts y v e after = let a = bind_ok (keyword k ts) f (y, v) e in head_is (lex.Key k) a.0 ts a.1 (keyword_sound k ts a.0 a.1 a.2)

-- ---- each rule, where what is a level deeper is viable

abbrev LevelViable : Count → ℕ → Type 0
LevelViable limit d = PartViable 0 (r.expr limit d) × PartViable 2 (r.negation limit d)

deeper_viable : (F : Option Lexeme → Type 0) (limit : Count) (e : ℕ) (taken : Count) → IsViable F (r.expr limit e taken) → IsViable F (r.deeper_expr limit (suc e) taken)
unfolding r.deeper_expr r.expr r.disjunction r.negation r.comparison r.atom
deeper_viable F limit e taken v = v

deeper_not_viable : (F : Option Lexeme → Type 0) (limit : Count) (e : ℕ) (taken : Count) → IsViable F (r.negation limit e taken) → IsViable F (r.deeper_not limit (suc e) taken)
unfolding r.deeper_not r.negation r.comparison r.atom
deeper_not_viable F limit e taken v = v

inner_viable : (limit : Count) (d e : ℕ) → d ≡ suc e → Below (LevelViable limit) d → PartViable 0 (r.deeper_expr limit d)
inner_viable limit d e same below taken = subst (λ (q : ℕ). IsViable (Looser 0) (r.deeper_expr limit q taken)) (sym same) (deeper_viable (Looser 0) limit e taken ((below e same).0 taken))

inner_not_viable : (limit : Count) (d e : ℕ) → d ≡ suc e → Below (LevelViable limit) d → PartViable 2 (r.deeper_not limit d)
inner_not_viable limit d e same below taken = subst (λ (q : ℕ). IsViable (Looser 2) (r.deeper_not limit q taken)) (sym same) (deeper_not_viable (Looser 2) limit e taken ((below e same).1 taken))

-- what is closed by `)`
closed_viable : (F : Option Lexeme → Type 0) (y : CountedExpr) → IsViable F (sign Close >>= λ end. give y)
closed_viable F y = viable_bind F any (sign Close) (λ end. give y) (sign-reads Close) (λ end. reads_give y) (sign_viable any Close) (λ end. viable_give F y) (λ end ts z v e a. tt)

closed-reads : (y : CountedExpr) → IsReader (sign Close >>= λ end. give y)
closed-reads y = reads_bind (sign Close) _ (sign-reads Close) (λ end. reads_give y)

-- an expression in front of `)`
to_close : (F : Option Lexeme → Type 0) (i : ExprReader) → ReadEach i → PartViable 0 i → (taken : Count) (f : CountedExpr → CountedExpr) → IsViable F (i taken >>= λ x. sign Close >>= λ end. give (f x))
to_close F i ii vi taken f =
    viable_bind F (Looser 0) (i taken) (λ x. sign Close >>= λ end. give (f x)) (ii taken) (λ x. closed-reads (f x)) (vi taken) (λ x. closed_viable F (f x))
    (λ x ts y v e a. subst (Looser 0) (sym (sign_starts F Close (λ end. give (f x)) ts y v e a)) tt)

call_rest_viable : (F : Option Lexeme → Type 0) (f : FunOp) (i : ExprReader) → ReadEach i → PartViable 0 i → (taken : Count) (at : ℕ) → IsViable F (r.call_rest f i taken at)
call_rest_viable F f i ii vi taken at =
    viable_bind F any (sign Open) (λ from. i taken >>= λ x. sign Close >>= λ end. give (expr_at at (form.Fun f x.0), x.1)) (sign-reads Open) (λ from. reads_bind (i taken) _ (ii taken) (λ x. closed-reads _)) (sign_viable any Open)
    (λ from. to_close F i ii vi taken (λ x. (expr_at at (form.Fun f x.0), x.1))) (λ from ts y v e a. tt)

negated_rest_viable : (F : Option Lexeme → Type 0) (i : ExprReader) → ReadEach i → ((taken : Count) → IsViable F (i taken)) → (taken : Count) (at : ℕ) → IsViable F (r.negated_rest i taken at)
negated_rest_viable F i ii vi taken at = viable_bind F F (i taken) (λ x. give (expr_at at (form.Not x.0), x.1)) (ii taken) (λ x. reads_give _) (vi taken) (λ x. viable_give F _) (λ x. same_end F _)

second_branch_viable : (at : ℕ) (i : ExprReader) → ReadEach i → PartViable 0 i → (c x : CountedExpr) → IsViable (Looser 0) (second_branch at i c x)
second_branch_viable at i ii vi c x =
    viable_bind (Looser 0) any (keyword key.Else) (λ to. i x.1 >>= λ y. give (expr_at at (form.If c.0 x.0 y.0), y.1)) (keyword-reads key.Else) (λ to. reads_bind (i x.1) _ (ii x.1) (λ y. reads_give _)) (keyword_viable any key.Else)
    (λ to. viable_bind (Looser 0) (Looser 0) (i x.1) (λ y. give (expr_at at (form.If c.0 x.0 y.0), y.1)) (ii x.1) (λ y. reads_give _) (vi x.1) (λ y. viable_give (Looser 0) _) (λ y. same_end (Looser 0) _))
    (λ to ts y v e a. tt)

first_branch_viable : (at : ℕ) (i : ExprReader) → ReadEach i → PartViable 0 i → (c : CountedExpr) → IsViable (Looser 0) (first_branch at i c)
first_branch_viable at i ii vi c =
    viable_bind (Looser 0) any (keyword key.Then) (λ from. i c.1 >>= second_branch at i c) (keyword-reads key.Then) (λ from. reads_bind (i c.1) _ (ii c.1) (second_branch-reads at i ii c)) (keyword_viable any key.Then)
    (λ from. viable_bind (Looser 0) (Looser 0) (i c.1) (second_branch at i c) (ii c.1) (second_branch-reads at i ii c) (vi c.1) (second_branch_viable at i ii vi c)
    (λ x ts y v e a. subst (Looser 0) (sym (keyword_starts (Looser 0) key.Else (λ to. i x.1 >>= λ z. give (expr_at at (form.If c.0 x.0 z.0), z.1)) ts y v e a)) tt))
    (λ from ts y v e a. tt)

branches_rest_viable : (i : ExprReader) → ReadEach i → PartViable 0 i → (taken : Count) (at : ℕ) → IsViable (Looser 0) (r.branches_rest i taken at)
branches_rest_viable i ii vi taken at =
    viable_bind (Looser 0) (Looser 0) (i taken) (first_branch at i) (ii taken) (first_branch-reads at i ii) (vi taken) (first_branch_viable at i ii vi)
    (λ c ts y v e a. subst (Looser 0) (sym (keyword_starts (Looser 0) key.Then (λ from. i c.1 >>= second_branch at i c) ts y v e a)) tt)

-- ---- what each rule takes

call_by_takes : (limit : Count) (levels : ℕ) (taken : Count) (o : Option FunOp) → Takes (r.call_by levels (r.deeper_expr limit levels) taken o)
call_by_takes limit levels taken (Some f) = opened_takes levels (r.call_rest f (r.deeper_expr limit levels) taken) (call_rest-reads f (r.deeper_expr limit levels) (deeper_expr-reads limit levels) taken)
call_by_takes limit levels taken None = first_takes lit (λ x. give (expr_at x.at (literal_form x.value), taken)) lit_takes (λ x. reads_give _)

atom_by_takes : (limit : Count) (levels : ℕ) (taken : Count) (w : Option Lexeme) → Takes (r.atom_by levels (r.deeper_expr limit levels) taken w)
atom_by_takes limit levels taken (Some (lex.Name n)) = first_takes name (λ x. give (expr_at x.at (form.Column x.name), taken)) name_takes (λ x. reads_give _)
atom_by_takes limit levels taken (Some (lex.Sign Open)) = opened_takes levels (r.brackets_rest (r.deeper_expr limit levels) taken) (brackets_rest-reads (r.deeper_expr limit levels) (deeper_expr-reads limit levels) taken)
atom_by_takes limit levels taken w = call_by_takes limit levels taken (next_as r.fun_of w)

atom_takes : (limit : Count) (levels : ℕ) (taken : Count) → Takes (r.atom limit levels taken)
unfolding r.atom
atom_takes limit levels taken ts x u e = atom_by_takes limit levels taken (head_word ts) ts x u e

-- each of a family takes a word
abbrev TakeEach : ExprReader → Type 0
TakeEach p = (taken : Count) → Takes (p taken)

chain_takes : (t : ℕ) (limit : Count) (p : ExprReader) → ReadEach p → TakeEach p → TakeEach (r.chain t limit p)
chain_takes t limit p ip tp taken = first_takes (p taken) (turns (r.operated t limit p)) (tp taken) (turns-reads t limit p ip)

comparison_takes : (limit : Count) (levels : ℕ) → TakeEach (r.comparison limit levels)
unfolding r.comparison
comparison_takes limit levels =
    let a = r.atom limit levels in
    let ia = atom-reads limit levels in
    let prod = chain_takes 5 limit a ia (atom_takes limit levels) in
    let sum = chain_takes 4 limit (r.product_with limit a) (product_with-reads limit a ia) prod in
    let cat = chain_takes 3 limit (r.sum_with limit a) (sum_with-reads limit a ia) sum in
    λ taken. first_takes (r.cat_with limit a taken) (r.paired 2 limit (r.cat_with limit a)) (cat taken) (paired-reads 2 limit (r.cat_with limit a) (cat_with-reads limit a ia))

negation_by_takes : (limit : Count) (levels : ℕ) (taken : Count) (w : Option Lexeme) → Takes (r.negation_by levels (r.deeper_not limit levels) (r.comparison limit levels) taken w)
negation_by_takes limit levels taken (Some (lex.Key key.Not)) = opened_takes levels (r.negated_rest (r.deeper_not limit levels) taken) (negated_rest-reads (r.deeper_not limit levels) (deeper_not-reads limit levels) taken)
negation_by_takes limit levels taken w = comparison_takes limit levels taken

negation_takes : (limit : Count) (levels : ℕ) → TakeEach (r.negation limit levels)
unfolding r.negation
negation_takes limit levels taken ts x u e = negation_by_takes limit levels taken (head_word ts) ts x u e

disjunction_takes : (limit : Count) (levels : ℕ) → TakeEach (r.disjunction limit levels)
unfolding r.disjunction
disjunction_takes limit levels =
    let n = r.negation limit levels in
    let ns = negation-reads limit levels in
    chain_takes 0 limit (r.conjunction_with limit n) (conjunction_with-reads limit n ns) (chain_takes 1 limit n ns (negation_takes limit levels))

expr_by_takes : (limit : Count) (levels : ℕ) (taken : Count) (w : Option Lexeme) → Takes (r.expr_by levels (r.deeper_expr limit levels) (r.disjunction limit levels) taken w)
expr_by_takes limit levels taken (Some (lex.Key key.If)) = opened_takes levels (r.branches_rest (r.deeper_expr limit levels) taken) (branches_rest-reads (r.deeper_expr limit levels) (deeper_expr-reads limit levels) taken)
expr_by_takes limit levels taken w = disjunction_takes limit levels taken

pub expr_takes : (limit : Count) (levels : ℕ) (taken : Count) → Takes (r.expr limit levels taken)
unfolding r.expr
expr_takes limit levels taken ts x u e = expr_by_takes limit levels taken (head_word ts) ts x u e

-- ---- the column `a` is each rule

abbrev pub a_column : AstExpr
a_column = expr_at 0 (form.Column a_name)

-- `a`, with these words behind it
abbrev a_then : Items → Items
a_then v = token (lex.Name a_name) ∷ v

chain_lone : (t : ℕ) (limit : Count) (p : ExprReader) → ReadEach p → (taken : Count) (ts : Items) (x : CountedExpr) (u : Items) → Looser t (head_word u) → p taken ts ≡ read_of x u → r.chain t limit p taken ts ≡ read_of x u
chain_lone t limit p ip taken ts x u after e = step (p taken) (turns (r.operated t limit p)) ts x u (read_of x u) e (chain-ends t limit p ip x u (next_two-none t (head_word u) after))

pair_lone : (t : ℕ) (limit : Count) (p : ExprReader) (taken : Count) (ts : Items) (x : CountedExpr) (u : Items) → Looser t (head_word u) → p taken ts ≡ read_of x u → r.pair t limit p taken ts ≡ read_of x u
pair_lone t limit p taken ts x u after e = step (p taken) (r.paired t limit p) ts x u (read_of x u) e (pair_ends t limit p x u after)

atom_a : (limit : Count) (levels : ℕ) (taken : Count) (v : Items) → r.atom limit levels taken (a_then v) ≡ read_of (a_column, taken) v
unfolding r.atom name
atom_a limit levels taken v = refl

comparison_a : (limit : Count) (levels : ℕ) (taken : Count) (v : Items) → Looser 2 (head_word v) → r.comparison limit levels taken (a_then v) ≡ read_of (a_column, taken) v
unfolding r.comparison
comparison_a limit levels taken v after =
    let a = r.atom limit levels in
    let ia = atom-reads limit levels in
    let x : CountedExpr = (a_column, taken) in
    let ts = a_then v in
    let w = head_word v in
    pair_lone 2 limit (r.cat_with limit a) taken ts x v after
    (chain_lone 3 limit (r.sum_with limit a) (sum_with-reads limit a ia) taken ts x v (looser_than 2 3 (omega arith) w after)
    (chain_lone 4 limit (r.product_with limit a) (product_with-reads limit a ia) taken ts x v (looser_than 2 4 (omega arith) w after)
    (chain_lone 5 limit a ia taken ts x v (looser_than 2 5 (omega arith) w after) (atom_a limit levels taken v))))

negation_a : (limit : Count) (levels : ℕ) (taken : Count) (v : Items) → Looser 2 (head_word v) → r.negation limit levels taken (a_then v) ≡ read_of (a_column, taken) v
unfolding r.negation
negation_a limit levels taken v after = comparison_a limit levels taken v after

disjunction_a : (limit : Count) (levels : ℕ) (taken : Count) (v : Items) → Looser 0 (head_word v) → r.disjunction limit levels taken (a_then v) ≡ read_of (a_column, taken) v
unfolding r.disjunction
disjunction_a limit levels taken v after =
    let n = r.negation limit levels in
    let ns = negation-reads limit levels in
    let x : CountedExpr = (a_column, taken) in
    let ts = a_then v in
    let w = head_word v in
    chain_lone 0 limit (r.conjunction_with limit n) (conjunction_with-reads limit n ns) taken ts x v after
    (chain_lone 1 limit n ns taken ts x v (looser_than 0 1 (omega arith) w after) (negation_a limit levels taken v (looser_than 0 2 (omega arith) w after)))

expr_a : (limit : Count) (levels : ℕ) (taken : Count) (v : Items) → Looser 0 (head_word v) → r.expr limit levels taken (a_then v) ≡ read_of (a_column, taken) v
unfolding r.expr
expr_a limit levels taken v after = disjunction_a limit levels taken v after

-- ---- rules

call_by_case : (F : Option Lexeme → Type 0) (limit : Count) (levels : ℕ) → Below (LevelViable limit) levels → (taken : Count) (o : Option FunOp) → IsCase F (r.call_by levels (r.deeper_expr limit levels) taken o)
call_by_case F limit levels below taken (Some f) =
    let i = r.deeper_expr limit levels in
    let ii = deeper_expr-reads limit levels in
    opened_case F levels (r.call_rest f i taken) (call_rest-reads f i ii taken) (λ e same. call_rest_viable F f i ii (inner_viable limit levels e same below) taken)
call_by_case F limit levels below taken None =
    case_viable F _ (viable_bind F any lit (λ x. give (expr_at x.at (literal_form x.value), taken)) lit-reads (λ x. reads_give _) (lit_viable any) (λ x. viable_give F _) (λ x ts y v e a. tt))

atom_case : (F : Option Lexeme → Type 0) (limit : Count) (levels : ℕ) → Below (LevelViable limit) levels → (taken : Count) (w : Option Lexeme) → IsCase F (r.atom_by levels (r.deeper_expr limit levels) taken w)
atom_case F limit levels below taken (Some (lex.Name n)) =
    case_viable F _ (viable_bind F any name (λ x. give (expr_at x.at (form.Column x.name), taken)) name-reads (λ x. reads_give _) (name_viable any) (λ x. viable_give F _) (λ x ts y v e a. tt))
atom_case F limit levels below taken (Some (lex.Sign Open)) =
    let i = r.deeper_expr limit levels in
    let ii = deeper_expr-reads limit levels in
    opened_case F levels (r.brackets_rest i taken) (brackets_rest-reads i ii taken) (λ e same at. to_close F i ii (inner_viable limit levels e same below) taken (λ x. x))
atom_case F limit levels below taken w = call_by_case F limit levels below taken (next_as r.fun_of w)

atom_from : (limit : Count) (levels : ℕ) → Below (LevelViable limit) levels → PartViable 6 (r.atom limit levels)
unfolding r.atom
atom_from limit levels below taken =
    viable_choice (Looser 6) (r.atom_by levels (r.deeper_expr limit levels) taken) (atom_case (Looser 6) limit levels below taken) (quiet_takes (Looser 6) (r.atom limit levels taken) (atom_takes limit levels taken)) (token (lex.Name a_name) ∷ []) (name_spelled, tt) (a_column, taken) (λ v after. atom_a limit levels taken v)

comparison_from : (limit : Count) (levels : ℕ) → Below (LevelViable limit) levels → PartViable 2 (r.comparison limit levels)
unfolding r.comparison
comparison_from limit levels below =
    let a = r.atom limit levels in
    let ia = atom-reads limit levels in
    let prod = chain_viable 5 limit a ia (atom_from limit levels below) in
    let sum = chain_viable 4 limit (r.product_with limit a) (product_with-reads limit a ia) prod in
    let cat = chain_viable 3 limit (r.sum_with limit a) (sum_with-reads limit a ia) sum in
    pair_viable 2 limit (r.cat_with limit a) (cat_with-reads limit a ia) cat

negation_case : (limit : Count) (levels : ℕ) → Below (LevelViable limit) levels → (taken : Count) (w : Option Lexeme) → IsCase (Looser 2) (r.negation_by levels (r.deeper_not limit levels) (r.comparison limit levels) taken w)
negation_case limit levels below taken (Some (lex.Key key.Not)) =
    let i = r.deeper_not limit levels in
    let ii = deeper_not-reads limit levels in
    opened_case (Looser 2) levels (r.negated_rest i taken) (negated_rest-reads i ii taken) (λ e same. negated_rest_viable (Looser 2) i ii (inner_not_viable limit levels e same below) taken)
negation_case limit levels below taken w = case_viable (Looser 2) (r.comparison limit levels taken) (comparison_from limit levels below taken)

negation_from : (limit : Count) (levels : ℕ) → Below (LevelViable limit) levels → PartViable 2 (r.negation limit levels)
unfolding r.negation
negation_from limit levels below taken =
    viable_choice (Looser 2) (r.negation_by levels (r.deeper_not limit levels) (r.comparison limit levels) taken) (negation_case limit levels below taken) (quiet_takes (Looser 2) (r.negation limit levels taken) (negation_takes limit levels taken)) (token (lex.Name a_name) ∷ []) (name_spelled, tt) (a_column, taken) (λ v after. negation_a limit levels taken v after)

disjunction_from : (limit : Count) (levels : ℕ) → Below (LevelViable limit) levels → PartViable 0 (r.disjunction limit levels)
unfolding r.disjunction
disjunction_from limit levels below =
    let n = r.negation limit levels in
    let ns = negation-reads limit levels in
    chain_viable 0 limit (r.conjunction_with limit n) (conjunction_with-reads limit n ns) (chain_viable 1 limit n ns (negation_from limit levels below))

expr_case : (limit : Count) (levels : ℕ) → Below (LevelViable limit) levels → (taken : Count) (w : Option Lexeme) → IsCase (Looser 0) (r.expr_by levels (r.deeper_expr limit levels) (r.disjunction limit levels) taken w)
expr_case limit levels below taken (Some (lex.Key key.If)) =
    let i = r.deeper_expr limit levels in
    let ii = deeper_expr-reads limit levels in
    opened_case (Looser 0) levels (r.branches_rest i taken) (branches_rest-reads i ii taken) (λ e same. branches_rest_viable i ii (inner_viable limit levels e same below) taken)
expr_case limit levels below taken w = case_viable (Looser 0) (r.disjunction limit levels taken) (disjunction_from limit levels below taken)

expr_from : (limit : Count) (levels : ℕ) → Below (LevelViable limit) levels → PartViable 0 (r.expr limit levels)
unfolding r.expr
expr_from limit levels below taken =
    viable_choice (Looser 0) (r.expr_by levels (r.deeper_expr limit levels) (r.disjunction limit levels) taken) (expr_case limit levels below taken) (quiet_takes (Looser 0) (r.expr limit levels taken) (expr_takes limit levels taken)) (token (lex.Name a_name) ∷ []) (name_spelled, tt) (a_column, taken) (λ v after. expr_a limit levels taken v after)

level_viable : (limit : Count) (levels : ℕ) → LevelViable limit levels
level_viable limit levels = by_levels (LevelViable limit) (λ l below. (expr_from limit l below, negation_from limit l below)) levels

-- an expression, where no operator follows
pub expr_viable : (limit : Count) (levels : ℕ) (taken : Count) → IsViable (Looser 0) (r.expr limit levels taken)
expr_viable limit levels taken = (level_viable limit levels).0 taken
