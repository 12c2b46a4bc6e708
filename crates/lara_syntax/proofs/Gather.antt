-- A loop that gathers what a step gives, as code runs it.
use Rattle.std.proofs.Common.{◌≡◌, ℕ, zero, suc, ◌<◌, List, [], ◌∷◌, ◌++◌, length, Option, Some, None, Ok, Err, refl, ap, ◌∙◌, arith}
use Rattle.lara_data.specs.declared.refusal.Kind.{Kind}
use Rattle.lara_syntax.specs.ScanSteps.{Bytes, Scan, Scanner, gather_by, gather_within, gather}

-- what it gives takes a byte
pub record TakesOne {A : Type 0} (one : Scanner (Option A)) : Type 0 where
  pub shorter : (ts : Bytes) (x : A) (u : Bytes) → one ts ≡ Ok (Some x, u) → length u < length ts

abbrev pub scan_of : {A : Type 0} → A → Bytes → Scan A
scan_of x ts = Ok (x, ts)

abbrev pub erred : {A : Type 0} → Kind → Scan A
erred kind = Err kind

-- what two results that are one have in common
pub pair_is : {A : Type 0} (x : A × Bytes) (y : A × Bytes) → (let r : Scan A = Ok x in r) ≡ Ok y → x ≡ y
pair_is x y e = cc

pub value_is : {A : Type 0} (x : A) (ts : Bytes) (y : A) (us : Bytes) → scan_of x ts ≡ scan_of y us → x ≡ y
value_is {A = A} x ts y us e = ap (λ (p : A × Bytes). p.0) (pair_is (x, ts) (y, us) e)

pub rest_is : {A : Type 0} (x : A) (ts : Bytes) (y : A) (us : Bytes) → scan_of x ts ≡ scan_of y us → ts ≡ us
rest_is {A = A} x ts y us e = ap (λ (p : A × Bytes). p.1) (pair_is (x, ts) (y, us) e)

pub err_ok : {A : Type 0} (k : Kind) (y : A × Bytes) → (let r : Scan A = Err k in r) ≡ Ok y → ⊥
err_ok k y e = absurd cc

pub none_some : {A : Type 0} (w u : Bytes) (x : A) → scan_of None w ≡ scan_of (Some x) u → ⊥
none_some w u x e = let n = value_is None w (Some x) u e in absurd cc

same_after : {A : Type 0} (r : Scan (Option A)) (f g : List A → Scanner (List A)) (xs : List A) → ((ys : List A) (x : A) (u : Bytes) → r ≡ Ok (Some x, u) → f ys u ≡ g ys u) → gather_by f xs r ≡ gather_by g xs r
same_after (Ok (None, u)) f g xs h = refl
same_after (Ok (Some x, u)) f g xs h = h (xs ++ x ∷ []) x u refl
same_after (Err k) f g xs h = refl

pub within_any : {A : Type 0} (one : Scanner (Option A)) → TakesOne one → (n m : ℕ) (xs : List A) (ts : Bytes) → length ts < n → length ts < m → gather_within one n xs ts ≡ gather_within one m xs ts
unfolding gather_within
within_any one h zero m xs ts a b = absurd (omega arith)
within_any one h (suc n) zero xs ts a b = absurd (omega arith)
within_any one h (suc n) (suc m) xs ts a b =
    same_after (one ts) (gather_within one n) (gather_within one m) xs (λ ys x u e. let lt = h.shorter ts x u e in within_any one h n m ys u (omega arith) (omega arith))

-- one turn, and the others
pub gather-step : {A : Type 0} (one : Scanner (Option A)) → TakesOne one → (xs : List A) (ts : Bytes) → gather one xs ts ≡ gather_by (gather one) xs (one ts)
unfolding gather gather_within
gather-step one h xs ts =
    same_after (one ts) (gather_within one (length ts)) (gather one) xs (λ ys x u e. let lt = h.shorter ts x u e in within_any one h (length ts) (suc (length u)) ys u lt (omega arith))

pub gather-some : {A : Type 0} (one : Scanner (Option A)) → TakesOne one → (xs : List A) (ts : Bytes) (x : A) (u : Bytes) → one ts ≡ Ok (Some x, u) → gather one xs ts ≡ gather one (xs ++ x ∷ []) u
gather-some one h xs ts x u e = gather-step one h xs ts ∙ rw e refl

pub gather-none : {A : Type 0} (one : Scanner (Option A)) → TakesOne one → (xs : List A) (ts : Bytes) (o : Option A) (u : Bytes) → one ts ≡ Ok (o, u) → o ≡ None → gather one xs ts ≡ Ok (xs, u)
gather-none one h xs ts o u e n = gather-step one h xs ts ∙ rw (e, n) refl

pub gather-fail : {A : Type 0} (one : Scanner (Option A)) → TakesOne one → (xs : List A) (ts : Bytes) (k : Kind) → one ts ≡ Err k → gather one xs ts ≡ Err k
gather-fail one h xs ts k e = gather-step one h xs ts ∙ rw e refl

pub ruleset gather_laws = (gather-some, gather-none, gather-fail)
