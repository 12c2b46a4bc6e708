-- A chain of operators, and what stands one level deeper, as code runs them.
use Rattle.std.proofs.Common.{◌≡◌, ℕ, zero, suc, ◌<◌, ◌≤◌, ◌-◌, Some, None, Ok, refl, ◌∙◌, arith}
use Rattle.lara_data.specs.declared.expr.TwoOp.{TwoOp}
use Rattle.lara_data.specs.declared.refusal.Kind.TheVariants.{TooMany}
use Rattle.lara_syntax.specs.declared.count.Count.{Count}
use Rattle.lara_syntax.specs.declared.fault.Fault.{Fault}
use Rattle.lara_syntax.specs.declared.fault.Fault.TheVariants as faults
use Rattle.lara_syntax.specs.ExprReading as r
use Rattle.lara_syntax.specs.ExprReading.{CountedExpr, ExprReader}
use Rattle.lara_syntax.specs.Steps.{Items, refuse, skip, turns, head_word, Fails}
use Rattle.lara_syntax.proofs.Turns.{turns-step}
use Rattle.lara_syntax.proofs.ExprReaders.{ReadEach, operated-shorter, part-reads}

-- ---- a chain of operators

pub chain-goes : (tightly : ℕ) (limit : Count) (p : ExprReader) → ReadEach p → (left : CountedExpr) (op : TwoOp) (ts : Items) (x : CountedExpr) (u : Items) → r.next_two tightly (head_word ts) ≡ Some op → r.joined limit p left op ts ≡ Ok (x, u) → turns (r.operated tightly limit p) left ts ≡ turns (r.operated tightly limit p) x u
chain-goes tightly limit p ip left op ts x u n e = turns-step (r.operated tightly limit p) (operated-shorter tightly limit p ip) left ts ∙ rw (n, e) refl

pub chain-ends : (tightly : ℕ) (limit : Count) (p : ExprReader) → ReadEach p → (left : CountedExpr) (ts : Items) → r.next_two tightly (head_word ts) ≡ None → turns (r.operated tightly limit p) left ts ≡ Ok (left, ts)
chain-ends tightly limit p ip left ts n = turns-step (r.operated tightly limit p) (operated-shorter tightly limit p ip) left ts ∙ rw n refl

pub chain-fails : (tightly : ℕ) (limit : Count) (p : ExprReader) → ReadEach p → (left : CountedExpr) (op : TwoOp) (ts : Items) (e : Fault) → r.next_two tightly (head_word ts) ≡ Some op → Fails e (r.joined limit p left op ts) → Fails e (turns (r.operated tightly limit p) left ts)
chain-fails tightly limit p ip left op ts faults.Memory n h = tt
chain-fails tightly limit p ip left op ts (faults.Stopped s) n h = turns-step (r.operated tightly limit p) (operated-shorter tightly limit p ip) left ts ∙ rw (n, h) refl

pub ruleset chain_laws = (chain-goes, chain-ends, chain-fails, part-reads)

-- ---- what stands between operators, by how tightly they bind

pub part-or : (limit : Count) (levels tightly : ℕ) (taken : Count) (ts : Items) → tightly ≡ 0 → r.part limit levels tightly taken ts ≡ r.chain 1 limit (r.part limit levels 1) taken ts
unfolding r.part
part-or limit levels tightly taken ts e = rw e refl

pub part-and : (limit : Count) (levels tightly : ℕ) (taken : Count) (ts : Items) → tightly ≡ 1 → r.part limit levels tightly taken ts ≡ r.negation limit levels taken ts
unfolding r.part
part-and limit levels tightly taken ts e = rw e refl

pub part-compare : (limit : Count) (levels tightly : ℕ) (taken : Count) (ts : Items) → tightly ≡ 2 → r.part limit levels tightly taken ts ≡ r.chain 3 limit (r.part limit levels 3) taken ts
unfolding r.part
part-compare limit levels tightly taken ts e = rw e refl

pub part-cat : (limit : Count) (levels tightly : ℕ) (taken : Count) (ts : Items) → tightly ≡ 3 → r.part limit levels tightly taken ts ≡ r.chain 4 limit (r.part limit levels 4) taken ts
unfolding r.part
part-cat limit levels tightly taken ts e = rw e refl

pub part-add : (limit : Count) (levels tightly : ℕ) (taken : Count) (ts : Items) → tightly ≡ 4 → r.part limit levels tightly taken ts ≡ r.chain 5 limit (r.part limit levels 5) taken ts
unfolding r.part
part-add limit levels tightly taken ts e = rw e refl

pub part-mul : (limit : Count) (levels tightly : ℕ) (taken : Count) (ts : Items) → 5 ≤ tightly → r.part limit levels tightly taken ts ≡ r.atom limit levels taken ts
unfolding r.part
part-mul limit levels zero taken ts le = absurd (omega (arith, le))
part-mul limit levels (suc zero) taken ts le = absurd (omega (arith, le))
part-mul limit levels (suc (suc zero)) taken ts le = absurd (omega (arith, le))
part-mul limit levels (suc (suc (suc zero))) taken ts le = absurd (omega (arith, le))
part-mul limit levels (suc (suc (suc (suc zero)))) taken ts le = absurd (omega (arith, le))
part-mul limit levels (suc (suc (suc (suc (suc tightly))))) taken ts le = refl

pub ruleset part_laws = (part-or, part-and, part-compare, part-cat, part-add, part-mul)

-- the rules over these parts
pub disjunction-is : (limit : Count) (levels : ℕ) (taken : Count) (ts : Items) → r.disjunction limit levels taken ts ≡ r.chain 0 limit (r.part limit levels 0) taken ts
unfolding r.disjunction r.part
disjunction-is limit levels taken ts = refl

pub comparison-is : (limit : Count) (levels : ℕ) (taken : Count) (ts : Items) → r.comparison limit levels taken ts ≡ r.pair 2 limit (r.part limit levels 2) taken ts
unfolding r.comparison r.part
comparison-is limit levels taken ts = refl

pub ruleset rule_laws = (disjunction-is, comparison-is)

-- ---- levels

pub opening-none : (levels : ℕ) (ts : Items) → levels ≡ 0 → r.opening levels ts ≡ refuse TooMany ts
unfolding r.opening
opening-none zero ts e = refl
opening-none (suc levels) ts e = absurd (omega (arith, e))

pub opening-some : (levels : ℕ) (ts : Items) → 0 < levels → r.opening levels ts ≡ skip ts
unfolding r.opening
opening-some zero ts lt = absurd (omega (arith, lt))
opening-some (suc levels) ts lt = refl

pub ruleset opening_laws = (opening-none, opening-some)

-- what stands a level deeper
pub deeper_expr-is : (limit : Count) (levels : ℕ) (taken : Count) (ts : Items) → 0 < levels → r.deeper_expr limit levels taken ts ≡ r.expr limit (levels - 1) taken ts
unfolding r.deeper_expr r.expr r.disjunction r.negation r.comparison r.atom
deeper_expr-is limit zero taken ts lt = absurd (omega (arith, lt))
deeper_expr-is limit (suc levels) taken ts lt = let e : suc levels - 1 ≡ levels = omega arith in rw e refl

pub deeper_not-is : (limit : Count) (levels : ℕ) (taken : Count) (ts : Items) → 0 < levels → r.deeper_not limit levels taken ts ≡ r.negation limit (levels - 1) taken ts
unfolding r.deeper_not r.negation r.comparison r.atom
deeper_not-is limit zero taken ts lt = absurd (omega (arith, lt))
deeper_not-is limit (suc levels) taken ts lt = let e : suc levels - 1 ≡ levels = omega arith in rw e refl

pub ruleset deeper_laws = (deeper_expr-is, deeper_not-is)
