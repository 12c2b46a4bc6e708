-- The value of digits, and runs of bytes.
use Rattle.std.proofs.Common.{◌≡◌, ℕ, ◌+◌, ◌-◌, ◌*◌, ◌≤◌, ◌<◌, List, [], ◌∷◌, refl, arith, Bool, take, add-one, true, false, Some, None, cond}
use Rattle.std.specs.List.{list_all}
use Rattle.lara_syntax.specs.ByteClasses.{run_len, number_from, within_64}

pub number-rises : (v : ℕ) (bs : List ℕ) → v ≤ number_from v bs
number-rises v [] = omega arith
number-rises v (b ∷ bs) = let h = number-rises (v * 10 + (b - 48)) bs in omega (arith, h)

pub within_some : (v : ℕ) → v < 18446744073709551616 → within_64 v ≡ Some v
within_some v lt = grind arith

pub past : (v : ℕ) → within_64 v ≡ None → 18446744073709551616 ≤ v
past v e = grind arith

pub none_past : (v : ℕ) → 18446744073709551616 ≤ v → within_64 v ≡ None
none_past v le = grind arith

pub number-past : (v : ℕ) (b : ℕ) (bs : List ℕ) → within_64 (v * 10 + (b - 48)) ≡ None → within_64 (number_from v (b ∷ bs)) ≡ None
number-past v b bs e = let p = past (v * 10 + (b - 48)) e in let r = number-rises (v * 10 + (b - 48)) bs in none_past (number_from (v * 10 + (b - 48)) bs) (omega (arith, p, r))

pub ruleset number_laws = (number-past, within_some)

cond_all : (b : Bool) (p : ℕ → Bool) (x : ℕ) (bs : List ℕ) → p x ≡ b → list_all p (take (run_len p bs) bs) ≡ true → list_all p (take (cond b (run_len p bs + 1) 0) (x ∷ bs)) ≡ true
cond_all true p x bs e h = rw (add-one, e) h
cond_all false p x bs e h = refl

pub run-passes : (p : ℕ → Bool) (bs : List ℕ) → list_all p (take (run_len p bs) bs) ≡ true
run-passes p [] = refl
run-passes p (b ∷ bs) = cond_all (p b) p b bs refl (run-passes p bs)

pub ruleset run_laws = (run-passes)
