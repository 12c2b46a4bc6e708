-- What is known of a step from what came of it.
use Rattle.std.specs.Prelude.{◌≡◌, ℕ, Bool, true, false, List, Result, Ok, Err}
use Rattle.std.proofs.Common.{◌⊎◌, refl, ap, cond, inl, inr}
use Rattle.lara_base.specs.Results.{◌>>=◌}

abbrev failed : {A E : Type 0} → E → Result A E
failed e = Err e

pub ok_from_bind : {A B E : Type 0} (r : Result A E) (f : A → Result B E) (y : B) → (r >>= f) ≡ Ok y → (x : A) × (r ≡ Ok x) × (f x ≡ Ok y)
ok_from_bind (Ok x) f y e = (x, refl, e)
ok_from_bind (Err d) f y e = absurd cc

err_is : {A E : Type 0} (c d : E) → failed {A = A} c ≡ failed d → c ≡ d
err_is c d e = cc

pub err_from_bind : {A B E : Type 0} (r : Result A E) (f : A → Result B E) (d : E) → (r >>= f) ≡ Err d → (r ≡ Err d) ⊎ ((x : A) × (r ≡ Ok x) × (f x ≡ Err d))
err_from_bind (Ok x) f d e = inr (x, refl, e)
err_from_bind {B = B} (Err c) f d e = inl (ap Err (err_is {A = B} c d e))

pub ok_from_rule : {A E : Type 0} (b : Bool) (x y : A) (d : E) → cond b (Ok x) (Err d) ≡ Ok y → (b ≡ true) × (x ≡ y)
ok_from_rule true x y d e = (refl, cc)
ok_from_rule false x y d e = absurd cc

abbrev pub done : {A : Type 0} → A → Result A ℕ
done x = Ok x

abbrev pub read : {A : Type 0} → A → List ℕ → Result (A × List ℕ) ℕ
read x rest = Ok (x, rest)

pub ok_is : {A : Type 0} (x y : A) → done x ≡ done y → x ≡ y
ok_is x y e = cc
