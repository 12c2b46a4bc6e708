-- Each rule of expressions is a reader, and what takes a word.
use Rattle.std.proofs.Common.{◌≡◌, ℕ, zero, suc, ◌<◌, length, Option, Some, None, Bool, true, false, cond, nat_lt, subst}
use Rattle.lara_data.specs.declared.expr.TwoOp.{TwoOp}
use Rattle.lara_data.specs.declared.expr.TwoOp.TheVariants as two
use Rattle.lara_data.specs.declared.expr.FunOp.{FunOp}
use Rattle.lara_data.specs.declared.refusal.Kind.TheVariants.{TooMany}
use Rattle.lara_syntax.specs.declared.item.Lexeme.{Lexeme}
use Rattle.lara_syntax.specs.declared.item.Lexeme.TheVariants as lex
use Rattle.lara_syntax.specs.declared.item.Keyword.TheVariants as key
use Rattle.lara_syntax.specs.declared.item.Sign.TheVariants.{Open, Close}
use Rattle.lara_syntax.specs.declared.count.Count.{Count}
use Rattle.lara_syntax.specs.Limits.{one_sign}
use Rattle.lara_syntax.specs.ExprGrammar.{two_at}
use Rattle.lara_syntax.specs.ExprReading as r
use Rattle.lara_syntax.specs.ExprReading.{CountedExpr, ExprReader}
use Rattle.lara_syntax.specs.WordReading.{sign, keyword, name, lit, next_as}
use Rattle.lara_syntax.specs.Steps.{Items, Reader, ◌>>=◌, give, refuse, peek, skip, turns, head_word}
use Rattle.lara_syntax.proofs.Turns.{Shortens, read_of, err_ok, none_some, rest_is}
use Rattle.lara_syntax.proofs.Readers.{IsReader, reads_bind, reads_give, reads_refuse, reads_peek, reads_skip, reads_turns, skip_shortens, bind_ok}
use Rattle.lara_syntax.proofs.RuleReaders.{sign-reads, keyword-reads, name-reads, lit-reads}

-- what is a reader whatever the count
abbrev pub ReadEach : ExprReader → Type 0
ReadEach p = (taken : Count) → IsReader (p taken)

-- ---- operators between two parts

skip_or-reads : (b : Bool) → IsReader (cond b skip (refuse TooMany))
skip_or-reads true = reads_skip
skip_or-reads false = reads_refuse TooMany

pub operator_sign-reads : (limit taken : Count) → IsReader (r.operator_sign limit taken)
unfolding r.operator_sign
operator_sign-reads limit taken = skip_or-reads (nat_lt taken.signs limit.signs)

skip_or-shortens : {B : Type 0} (b : Bool) (f : ℕ → Reader B) → ((at : ℕ) → IsReader (f at)) → (ts : Items) (y : B) (u : Items) → (cond b skip (refuse TooMany) >>= f) ts ≡ read_of y u → length u < length ts
skip_or-shortens true f if ts y u e = skip_shortens f if ts y u e
skip_or-shortens {B = B} false f if ts y u e = absurd (err_ok {A = B} _ (y, u) e)

-- what is behind an operator's word is shorter
pub operator_sign-shortens : {B : Type 0} (limit taken : Count) (f : ℕ → Reader B) → ((at : ℕ) → IsReader (f at)) → (ts : Items) (y : B) (u : Items) → (r.operator_sign limit taken >>= f) ts ≡ read_of y u → length u < length ts
unfolding r.operator_sign
operator_sign-shortens limit taken f if ts y u e = skip_or-shortens (nat_lt taken.signs limit.signs) f if ts y u e

-- the part behind an operator at its place
abbrev pub right_of : ExprReader → CountedExpr → TwoOp → ℕ → Reader CountedExpr
right_of p left op at = p (one_sign left.1) >>= λ right. give (two_at at op left.0 right.0, right.1)

pub right_of-reads : (p : ExprReader) → ReadEach p → (left : CountedExpr) (op : TwoOp) (at : ℕ) → IsReader (right_of p left op at)
right_of-reads p ip left op at = reads_bind (p (one_sign left.1)) _ (ip (one_sign left.1)) (λ x. reads_give _)

pub joined-reads : (limit : Count) (p : ExprReader) → ReadEach p → (left : CountedExpr) (op : TwoOp) → IsReader (r.joined limit p left op)
joined-reads limit p ip left op = reads_bind (r.operator_sign limit left.1) (right_of p left op) (operator_sign-reads limit left.1) (right_of-reads p ip left op)

pub joined-shortens : (limit : Count) (p : ExprReader) → ReadEach p → (left : CountedExpr) (op : TwoOp) (ts : Items) (x : CountedExpr) (u : Items) → r.joined limit p left op ts ≡ read_of x u → length u < length ts
joined-shortens limit p ip left op ts x u e = operator_sign-shortens limit left.1 (right_of p left op) (right_of-reads p ip left op) ts x u e

abbrev pub some_of : CountedExpr → Reader (Option CountedExpr)
some_of x = give (Some x)

operated_by-reads : (limit : Count) (p : ExprReader) → ReadEach p → (left : CountedExpr) (o : Option TwoOp) → IsReader (r.operated_by limit p left o)
operated_by-reads limit p ip left None = reads_give None
operated_by-reads limit p ip left (Some op) = reads_bind (r.joined limit p left op) some_of (joined-reads limit p ip left op) (λ x. reads_give (Some x))

pub operated-reads : (tightly : ℕ) (limit : Count) (p : ExprReader) → ReadEach p → (left : CountedExpr) → IsReader (r.operated tightly limit p left)
operated-reads tightly limit p ip left = reads_bind peek (λ w. r.operated_by limit p left (r.next_two tightly w)) reads_peek (λ w. operated_by-reads limit p ip left (r.next_two tightly w))

operated_by-shorter : (limit : Count) (p : ExprReader) → ReadEach p → (left : CountedExpr) (o : Option TwoOp) (ts : Items) (x : CountedExpr) (u : Items) → r.operated_by limit p left o ts ≡ read_of (Some x) u → length u < length ts
operated_by-shorter limit p ip left None ts x u e = absurd (none_some ts u x e)
operated_by-shorter limit p ip left (Some op) ts x u e =
    let h = bind_ok (r.joined limit p left op ts) some_of (Some x, u) e in
    let rest : h.1 ≡ u = rest_is (Some h.0) h.1 (Some x) u h.3 in
    subst (λ (q : Items). length q < length ts) rest (joined-shortens limit p ip left op ts h.0 h.1 h.2)

pub operated-shorter : (tightly : ℕ) (limit : Count) (p : ExprReader) → ReadEach p → Shortens (r.operated tightly limit p)
operated-shorter tightly limit p ip = record { shorter = λ left ts x u e. operated_by-shorter limit p ip left (r.next_two tightly (head_word ts)) ts x u e }

pub turns-reads : (tightly : ℕ) (limit : Count) (p : ExprReader) → ReadEach p → (left : CountedExpr) → IsReader (turns (r.operated tightly limit p) left)
turns-reads tightly limit p ip left = reads_turns (r.operated tightly limit p) (operated-shorter tightly limit p ip) (operated-reads tightly limit p ip) left

pub chain-reads : (tightly : ℕ) (limit : Count) (p : ExprReader) → ReadEach p → ReadEach (r.chain tightly limit p)
chain-reads tightly limit p ip taken = reads_bind (p taken) (turns (r.operated tightly limit p)) (ip taken) (turns-reads tightly limit p ip)

pair_by-reads : (limit : Count) (p : ExprReader) → ReadEach p → (left : CountedExpr) (o : Option TwoOp) → IsReader (r.pair_by limit p left o)
pair_by-reads limit p ip left None = reads_give left
pair_by-reads limit p ip left (Some op) = joined-reads limit p ip left op

pub paired-reads : (tightly : ℕ) (limit : Count) (p : ExprReader) → ReadEach p → (left : CountedExpr) → IsReader (r.paired tightly limit p left)
paired-reads tightly limit p ip left = reads_bind peek (λ w. r.pair_by limit p left (r.next_two tightly w)) reads_peek (λ w. pair_by-reads limit p ip left (r.next_two tightly w))

pub pair-reads : (tightly : ℕ) (limit : Count) (p : ExprReader) → ReadEach p → ReadEach (r.pair tightly limit p)
pair-reads tightly limit p ip taken = reads_bind (p taken) (r.paired tightly limit p) (ip taken) (paired-reads tightly limit p ip)

-- ---- rules

pub opening-reads : (levels : ℕ) → IsReader (r.opening levels)
unfolding r.opening
opening-reads zero = reads_refuse TooMany
opening-reads (suc levels) = reads_skip

pub call_rest-reads : (f : FunOp) (i : ExprReader) → ReadEach i → (taken : Count) (at : ℕ) → IsReader (r.call_rest f i taken at)
call_rest-reads f i ii taken at = reads_bind (sign Open) _ (sign-reads Open) (λ a. reads_bind (i taken) _ (ii taken) (λ x. reads_bind (sign Close) _ (sign-reads Close) (λ b. reads_give _)))

pub brackets_rest-reads : (i : ExprReader) → ReadEach i → (taken : Count) (at : ℕ) → IsReader (r.brackets_rest i taken at)
brackets_rest-reads i ii taken at = reads_bind (i taken) _ (ii taken) (λ x. reads_bind (sign Close) _ (sign-reads Close) (λ b. reads_give _))

pub call_by-reads : (levels : ℕ) (i : ExprReader) → ReadEach i → (taken : Count) (f : Option FunOp) → IsReader (r.call_by levels i taken f)
call_by-reads levels i ii taken (Some f) = reads_bind (r.opening levels) (r.call_rest f i taken) (opening-reads levels) (call_rest-reads f i ii taken)
call_by-reads levels i ii taken None = reads_bind lit _ lit-reads (λ x. reads_give _)

atom_by-reads : (levels : ℕ) (i : ExprReader) → ReadEach i → (taken : Count) (w : Option Lexeme) → IsReader (r.atom_by levels i taken w)
atom_by-reads levels i ii taken (Some (lex.Name n)) = reads_bind name _ name-reads (λ x. reads_give _)
atom_by-reads levels i ii taken (Some (lex.Sign Open)) = reads_bind (r.opening levels) (r.brackets_rest i taken) (opening-reads levels) (brackets_rest-reads i ii taken)
atom_by-reads levels i ii taken w = call_by-reads levels i ii taken (next_as r.fun_of w)

atom_with-reads : (levels : ℕ) (i : ExprReader) → ReadEach i → ReadEach (r.atom_with levels i)
atom_with-reads levels i ii taken = reads_bind peek (r.atom_by levels i taken) reads_peek (atom_by-reads levels i ii taken)

pub product_with-reads : (limit : Count) (p : ExprReader) → ReadEach p → ReadEach (r.product_with limit p)
product_with-reads limit p ip = chain-reads (r.binding two.Mul) limit p ip

pub sum_with-reads : (limit : Count) (p : ExprReader) → ReadEach p → ReadEach (r.sum_with limit p)
sum_with-reads limit p ip = chain-reads (r.binding two.Add) limit (r.product_with limit p) (product_with-reads limit p ip)

pub cat_with-reads : (limit : Count) (p : ExprReader) → ReadEach p → ReadEach (r.cat_with limit p)
cat_with-reads limit p ip = chain-reads (r.binding two.Cat) limit (r.sum_with limit p) (sum_with-reads limit p ip)

pub comparison_with-reads : (limit : Count) (p : ExprReader) → ReadEach p → ReadEach (r.comparison_with limit p)
comparison_with-reads limit p ip = pair-reads (r.binding two.Eq) limit (r.cat_with limit p) (cat_with-reads limit p ip)

pub negated_rest-reads : (i : ExprReader) → ReadEach i → (taken : Count) (at : ℕ) → IsReader (r.negated_rest i taken at)
negated_rest-reads i ii taken at = reads_bind (i taken) _ (ii taken) (λ x. reads_give _)

negation_by-reads : (levels : ℕ) (i c : ExprReader) → ReadEach i → ReadEach c → (taken : Count) (w : Option Lexeme) → IsReader (r.negation_by levels i c taken w)
negation_by-reads levels i c ii ic taken (Some (lex.Key key.Not)) = reads_bind (r.opening levels) (r.negated_rest i taken) (opening-reads levels) (negated_rest-reads i ii taken)
negation_by-reads levels i c ii ic taken w = ic taken

negation_with-reads : (levels : ℕ) (i c : ExprReader) → ReadEach i → ReadEach c → ReadEach (r.negation_with levels i c)
negation_with-reads levels i c ii ic taken = reads_bind peek (r.negation_by levels i c taken) reads_peek (negation_by-reads levels i c ii ic taken)

pub conjunction_with-reads : (limit : Count) (p : ExprReader) → ReadEach p → ReadEach (r.conjunction_with limit p)
conjunction_with-reads limit p ip = chain-reads (r.binding two.And) limit p ip

pub disjunction_with-reads : (limit : Count) (p : ExprReader) → ReadEach p → ReadEach (r.disjunction_with limit p)
disjunction_with-reads limit p ip = chain-reads (r.binding two.Or) limit (r.conjunction_with limit p) (conjunction_with-reads limit p ip)

pub branches_rest-reads : (i : ExprReader) → ReadEach i → (taken : Count) (at : ℕ) → IsReader (r.branches_rest i taken at)
branches_rest-reads i ii taken at =
    reads_bind (i taken) _ (ii taken) (λ c. reads_bind (keyword key.Then) _ (keyword-reads key.Then) (λ a. reads_bind (i c.1) _ (ii c.1) (λ x. reads_bind (keyword key.Else) _ (keyword-reads key.Else) (λ b. reads_bind (i x.1) _ (ii x.1) (λ y. reads_give _)))))

expr_by-reads : (levels : ℕ) (i o : ExprReader) → ReadEach i → ReadEach o → (taken : Count) (w : Option Lexeme) → IsReader (r.expr_by levels i o taken w)
expr_by-reads levels i o ii io taken (Some (lex.Key key.If)) = reads_bind (r.opening levels) (r.branches_rest i taken) (opening-reads levels) (branches_rest-reads i ii taken)
expr_by-reads levels i o ii io taken w = io taken

expr_with-reads : (levels : ℕ) (i o : ExprReader) → ReadEach i → ReadEach o → ReadEach (r.expr_with levels i o)
expr_with-reads levels i o ii io taken = reads_bind peek (r.expr_by levels i o taken) reads_peek (expr_by-reads levels i o ii io taken)

-- ---- levels

abbrev not_over : Count → ℕ → ExprReader → ExprReader → ExprReader
not_over limit levels i n = r.negation_with levels n (r.comparison_with limit (r.atom_with levels i))

not_over-reads : (limit : Count) (levels : ℕ) (i n : ExprReader) → ReadEach i → ReadEach n → ReadEach (not_over limit levels i n)
not_over-reads limit levels i n ii in' = negation_with-reads levels n (r.comparison_with limit (r.atom_with levels i)) in' (comparison_with-reads limit (r.atom_with levels i) (atom_with-reads levels i ii))

mutual
  unfolding r.deeper_expr

  pub deeper_expr-reads : (limit : Count) (levels : ℕ) → ReadEach (r.deeper_expr limit levels)
  deeper_expr-reads limit zero taken = reads_refuse TooMany
  deeper_expr-reads limit (suc levels) taken =
      let n = not_over limit levels (r.deeper_expr limit levels) (r.deeper_not limit levels) in
      expr_with-reads levels (r.deeper_expr limit levels) (r.disjunction_with limit n) (deeper_expr-reads limit levels) (disjunction_with-reads limit n (not_over-reads limit levels (r.deeper_expr limit levels) (r.deeper_not limit levels) (deeper_expr-reads limit levels) (deeper_not-reads limit levels))) taken

  pub deeper_not-reads : (limit : Count) (levels : ℕ) → ReadEach (r.deeper_not limit levels)
  deeper_not-reads limit zero taken = reads_refuse TooMany
  deeper_not-reads limit (suc levels) taken = not_over-reads limit levels (r.deeper_expr limit levels) (r.deeper_not limit levels) (deeper_expr-reads limit levels) (deeper_not-reads limit levels) taken

pub atom-reads : (limit : Count) (levels : ℕ) → ReadEach (r.atom limit levels)
unfolding r.atom
atom-reads limit levels taken = atom_with-reads levels (r.deeper_expr limit levels) (deeper_expr-reads limit levels) taken

pub comparison-reads : (limit : Count) (levels : ℕ) → ReadEach (r.comparison limit levels)
unfolding r.comparison
comparison-reads limit levels taken = comparison_with-reads limit (r.atom limit levels) (atom-reads limit levels) taken

pub negation-reads : (limit : Count) (levels : ℕ) → ReadEach (r.negation limit levels)
unfolding r.negation
negation-reads limit levels taken = negation_with-reads levels (r.deeper_not limit levels) (r.comparison limit levels) (deeper_not-reads limit levels) (comparison-reads limit levels) taken

pub disjunction-reads : (limit : Count) (levels : ℕ) → ReadEach (r.disjunction limit levels)
unfolding r.disjunction
disjunction-reads limit levels taken = disjunction_with-reads limit (r.negation limit levels) (negation-reads limit levels) taken

pub part-reads : (limit : Count) (levels tightly : ℕ) → ReadEach (r.part limit levels tightly)
unfolding r.part
part-reads limit levels zero taken = conjunction_with-reads limit (r.negation limit levels) (negation-reads limit levels) taken
part-reads limit levels (suc zero) taken = negation-reads limit levels taken
part-reads limit levels (suc (suc zero)) taken = cat_with-reads limit (r.atom limit levels) (atom-reads limit levels) taken
part-reads limit levels (suc (suc (suc zero))) taken = sum_with-reads limit (r.atom limit levels) (atom-reads limit levels) taken
part-reads limit levels (suc (suc (suc (suc zero)))) taken = product_with-reads limit (r.atom limit levels) (atom-reads limit levels) taken
part-reads limit levels tightly taken = atom-reads limit levels taken

pub expr-reads : (limit : Count) (levels : ℕ) → ReadEach (r.expr limit levels)
unfolding r.expr
expr-reads limit levels taken = expr_with-reads levels (r.deeper_expr limit levels) (r.disjunction limit levels) (deeper_expr-reads limit levels) (disjunction-reads limit levels) taken
