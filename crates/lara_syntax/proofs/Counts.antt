-- Counts of two parts, and of both together.
use Rattle.std.proofs.Common.{◌≡◌, ℕ, ◌+◌, ap, ◌∙◌, arith}
use Rattle.lara_syntax.specs.declared.count.Count.{Count}
use Rattle.lara_syntax.specs.Limits.{none_counted, IsWithin}
use Rattle.lara_syntax.specs.Steps.{Items}

-- where k was counted before, j is with n more
abbrev pub IsSum : Count → Count → Count → Type 0
IsSum k n j = (j.operators ≡ k.operators + n.operators) × (j.signs ≡ k.signs + n.signs)

pub same_count : (a b : Count) → a.operators ≡ b.operators → a.signs ≡ b.signs → a ≡ b
same_count a b e f = ap (λ (n : ℕ). of n a.signs) e ∙ ap (of b.operators) f
  where
    of : ℕ → ℕ → Count
    of m n = record { operators = m; signs = n }

pub sum_none : (k j : Count) → IsSum k none_counted j → k ≡ j
sum_none k j total = same_count k j (omega (arith, total.0)) (omega (arith, total.1))

-- a value that stands behind so many counted, with what it has of what is counted
pub record Counts {A : Type 0} (X : Count → A → Items → Items → Type 0) (limit taken : Count) (x : A × Count) (ts u : Items) : Type 0 where
  pub n : Count
  pub total : IsSum taken n x.1
  pub within : IsWithin x.1 limit
  pub stands : X n x.0 ts u

-- a value behind which no more is counted than this
abbrev pub AreWithin : {A : Type 0} → Count → A × Count → Type 0
AreWithin limit x = IsWithin x.1 limit
