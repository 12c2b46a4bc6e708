-- Widest bottlenecks: the numbers 0 to 2^64 - 2, and `over` for all beyond, which is written as 2^64 - 1. The sum is
-- the greater and the product the lesser, so that 0 is zero and `over` is one.
use Rattle.std.specs.Prelude.{◌≡◌, ℕ, ◌-◌, ◌^◌, ◌≤◌, min, max, Bool, ◌==◌, ◌&&◌, ◌||◌, nat_le}
use Rattle.std.proofs.Common.{arith}
use Rattle.std.proofs.lemmas.Bool.Decides.{nat_tests}

-- `over`
abbrev pub maxmin_over : ℕ
maxmin_over = 2 ^ 64 - 1

-- the greater
abbrev pub maxmin_plus : ℕ → ℕ → ℕ
maxmin_plus a b = max a b

-- the lesser
abbrev pub maxmin_times : ℕ → ℕ → ℕ
maxmin_times a b = min a b

-- the number is `over`
abbrev pub maxmin_is_over : ℕ → Bool
maxmin_is_over a = nat_le maxmin_over a

pub maxmin_plus_is : (a b : ℕ) → a ≤ maxmin_over → b ≤ maxmin_over → maxmin_plus a b ≤ maxmin_over
maxmin_plus_is a b p q = omega arith

pub maxmin_plus_assoc : (a b c : ℕ) → maxmin_plus (maxmin_plus a b) c ≡ maxmin_plus a (maxmin_plus b c)
maxmin_plus_assoc a b c = omega arith

pub maxmin_plus_comm : (a b : ℕ) → maxmin_plus a b ≡ maxmin_plus b a
maxmin_plus_comm a b = omega arith

pub maxmin_zero_plus : (a : ℕ) → maxmin_plus 0 a ≡ a
maxmin_zero_plus a = omega arith

pub maxmin_times_is : (a b : ℕ) → a ≤ maxmin_over → maxmin_times a b ≤ maxmin_over
maxmin_times_is a b p = omega arith

pub maxmin_times_assoc : (a b c : ℕ) → maxmin_times (maxmin_times a b) c ≡ maxmin_times a (maxmin_times b c)
maxmin_times_assoc a b c = omega arith

pub maxmin_times_comm : (a b : ℕ) → maxmin_times a b ≡ maxmin_times b a
maxmin_times_comm a b = omega arith

pub maxmin_times_plus : (a b c : ℕ) → maxmin_times a (maxmin_plus b c) ≡ maxmin_plus (maxmin_times a b) (maxmin_times a c)
maxmin_times_plus a b c = omega arith

pub maxmin_plus_times : (a b c : ℕ) → maxmin_times (maxmin_plus a b) c ≡ maxmin_plus (maxmin_times a c) (maxmin_times b c)
maxmin_plus_times a b c = omega arith

pub maxmin_over_times : (a : ℕ) → a ≤ maxmin_over → maxmin_times maxmin_over a ≡ a
maxmin_over_times a h = omega arith

pub maxmin_times_over : (a : ℕ) → a ≤ maxmin_over → maxmin_times a maxmin_over ≡ a
maxmin_times_over a h = omega arith

pub maxmin_zero_times : (a : ℕ) → maxmin_times 0 a ≡ 0
maxmin_zero_times a = omega arith

pub maxmin_times_zero : (a : ℕ) → maxmin_times a 0 ≡ 0
maxmin_times_zero a = omega arith

-- the greater is 0 only where both are
pub maxmin_plus_is_zero : (a b : ℕ) → (maxmin_plus a b == 0) ≡ (a == 0 && b == 0)
maxmin_plus_is_zero a b = grind (arith, nat_tests)

-- the lesser is 0 only where one is
pub maxmin_times_is_zero : (a b : ℕ) → (maxmin_times a b == 0) ≡ (a == 0 || b == 0)
maxmin_times_is_zero a b = grind (arith, nat_tests)
