-- Shortest distances: the numbers 0 to 2^64 - 3, then `over` for all beyond, which is written as 2^64 - 2, then `inf`
-- for no way at all, which is written as 2^64 - 1.
use Rattle.std.specs.Prelude.{◌≡◌, ℕ, ◌+◌, ◌-◌, ◌^◌, ◌≤◌, min, Bool, cond, ◌==◌, ◌&&◌, ◌||◌, nat_le}
use Rattle.std.proofs.Common.{arith}
use Rattle.std.proofs.lemmas.Bool.Decides.{nat_tests}

-- `inf`
abbrev pub minplus_inf : ℕ
minplus_inf = 2 ^ 64 - 1

-- `over`
abbrev pub minplus_over : ℕ
minplus_over = 2 ^ 64 - 2

-- the lesser
abbrev pub minplus_plus : ℕ → ℕ → ℕ
minplus_plus a b = min a b

-- the sum, or `over` where it is beyond the range; `inf` where one is `inf`
abbrev pub minplus_times : ℕ → ℕ → ℕ
minplus_times a b = cond (nat_le minplus_inf a || nat_le minplus_inf b) minplus_inf (min (a + b) minplus_over)

-- the number is `over`
abbrev pub minplus_is_over : ℕ → Bool
minplus_is_over a = a == minplus_over

pub minplus_plus_is : (a b : ℕ) → a ≤ minplus_inf → minplus_plus a b ≤ minplus_inf
minplus_plus_is a b h = omega arith

pub minplus_plus_assoc : (a b c : ℕ) → minplus_plus (minplus_plus a b) c ≡ minplus_plus a (minplus_plus b c)
minplus_plus_assoc a b c = omega arith

pub minplus_plus_comm : (a b : ℕ) → minplus_plus a b ≡ minplus_plus b a
minplus_plus_comm a b = omega arith

pub minplus_inf_plus : (a : ℕ) → a ≤ minplus_inf → minplus_plus minplus_inf a ≡ a
minplus_inf_plus a h = omega arith

pub minplus_times_is : (a b : ℕ) → minplus_times a b ≤ minplus_inf
minplus_times_is a b = grind (arith, nat_tests)

pub minplus_times_assoc : (a b c : ℕ) → minplus_times (minplus_times a b) c ≡ minplus_times a (minplus_times b c)
minplus_times_assoc a b c = grind (arith, nat_tests)

pub minplus_times_comm : (a b : ℕ) → minplus_times a b ≡ minplus_times b a
minplus_times_comm a b = grind (arith, nat_tests)

pub minplus_times_plus : (a b c : ℕ) → minplus_times a (minplus_plus b c) ≡ minplus_plus (minplus_times a b) (minplus_times a c)
minplus_times_plus a b c = grind (arith, nat_tests)

pub minplus_plus_times : (a b c : ℕ) → minplus_times (minplus_plus a b) c ≡ minplus_plus (minplus_times a c) (minplus_times b c)
minplus_plus_times a b c = grind (arith, nat_tests)

pub minplus_zero_times : (a : ℕ) → a ≤ minplus_inf → minplus_times 0 a ≡ a
minplus_zero_times a h = grind (arith, nat_tests)

pub minplus_times_zero : (a : ℕ) → a ≤ minplus_inf → minplus_times a 0 ≡ a
minplus_times_zero a h = grind (arith, nat_tests)

pub minplus_inf_times : (a : ℕ) → minplus_times minplus_inf a ≡ minplus_inf
minplus_inf_times a = grind (arith, nat_tests)

pub minplus_times_inf : (a : ℕ) → minplus_times a minplus_inf ≡ minplus_inf
minplus_times_inf a = grind (arith, nat_tests)

-- the lesser is `inf` only where both are
pub minplus_plus_is_inf : (a b : ℕ) → a ≤ minplus_inf → b ≤ minplus_inf → (minplus_plus a b == minplus_inf) ≡ (a == minplus_inf && b == minplus_inf)
minplus_plus_is_inf a b p q = grind (arith, nat_tests)

-- a sum is `inf` only where a summand is
pub minplus_times_is_inf : (a b : ℕ) → a ≤ minplus_inf → b ≤ minplus_inf → (minplus_times a b == minplus_inf) ≡ (a == minplus_inf || b == minplus_inf)
minplus_times_is_inf a b p q = grind (arith, nat_tests)
