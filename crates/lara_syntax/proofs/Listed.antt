-- What a loop gathered, item by item.
use Rattle.std.proofs.Common.{◌≡◌, ℕ, zero, suc, ◌<◌, List, [], ◌∷◌, ◌++◌, length, Option, Some, None, Ok, Err, refl, sym, ap, ◌∙◌, arith, append_assoc}
use Rattle.std.proofs.lemmas.List.{append-nil}
use Rattle.lara_data.specs.declared.refusal.Kind.{Kind}
use Rattle.lara_syntax.specs.ScanSteps.{Bytes, Scan, Scanner, gather_by, gather_within, gather}
use Rattle.lara_syntax.proofs.Gather.{TakesOne, scan_of, erred, value_is, rest_is, err_ok, gather-step}

-- the step gives these, one after the other, and then none
pub data Listed {A : Type 0} (one : Scanner (Option A)) : List A → Bytes → Bytes → Type 0 where
  none : (ts rest : Bytes) → one ts ≡ scan_of None rest → Listed one [] ts rest
  more : (x : A) (xs : List A) (ts mid rest : Bytes) → one ts ≡ scan_of (Some x) mid → Listed one xs mid rest → Listed one (x ∷ xs) ts rest

abbrev Gathered : {A : Type 0} → Scanner (Option A) → List A → Bytes → List A → Bytes → Type 0
Gathered {A = A} one xs ts ys rest = (zs : List A) × (ys ≡ xs ++ zs) × Listed one zs ts rest

gathered_by : {A : Type 0} (one : Scanner (Option A)) → TakesOne one → (n : ℕ) (xs : List A) (ts : Bytes) (ys : List A) (rest : Bytes) (r : Scan (Option A)) → one ts ≡ r → ((us : List A) (u : Bytes) → length u < length ts → gather_within one n us u ≡ scan_of ys rest → Gathered one us u ys rest) → gather_by (gather_within one n) xs r ≡ scan_of ys rest → Gathered one xs ts ys rest
gathered_by one h n xs ts ys rest (Ok (None, u)) e next g =
    let r = rest_is xs u ys rest g in
    ([], sym (value_is xs u ys rest g) ∙ sym (append-nil xs), none ts rest (e ∙ ap (λ (q : Bytes). scan_of None q) r))
gathered_by one h n xs ts ys rest (Ok (Some x, u)) e next g =
    let t = next (xs ++ x ∷ []) u (h.shorter ts x u e) g in
    (x ∷ t.0, t.1 ∙ append_assoc xs (x ∷ []) t.0, more x t.0 ts u rest e t.2)
gathered_by one h n xs ts ys rest (Err k) e next g = absurd (err_ok k (ys, rest) g)

gathered_within : {A : Type 0} (one : Scanner (Option A)) → TakesOne one → (n : ℕ) (xs : List A) (ts : Bytes) (ys : List A) (rest : Bytes) → length ts < n → gather_within one n xs ts ≡ scan_of ys rest → Gathered one xs ts ys rest
unfolding gather_within
gathered_within one h zero xs ts ys rest lt e = absurd (omega arith)
gathered_within one h (suc n) xs ts ys rest lt e =
    gathered_by one h n xs ts ys rest (one ts) refl (λ us u less g. gathered_within one h n us u ys rest (omega (arith, less, lt)) g) e

pub gathered : {A : Type 0} (one : Scanner (Option A)) → TakesOne one → (xs : List A) (ts : Bytes) (ys : List A) (rest : Bytes) → gather one xs ts ≡ scan_of ys rest → Gathered one xs ts ys rest
unfolding gather
gathered one h xs ts ys rest e = gathered_within one h (suc (length ts)) xs ts ys rest (omega arith) e

-- and the other way round
pub gather-listed : {A : Type 0} (one : Scanner (Option A)) → TakesOne one → (zs : List A) (ts rest : Bytes) → Listed one zs ts rest → (xs : List A) → gather one xs ts ≡ scan_of (xs ++ zs) rest
gather-listed one h _ _ _ (none ts rest e) xs = gather-step one h xs ts ∙ rw e (ap (λ (q : List _). scan_of q rest) (sym (append-nil xs)))
gather-listed one h _ _ _ (more x zs ts mid rest e l) xs =
    gather-step one h xs ts ∙ rw e (gather-listed one h zs mid rest l (xs ++ x ∷ []) ∙ ap (λ (q : List _). scan_of q rest) (append_assoc xs (x ∷ []) zs))

-- ---- a step that never fails

abbrev pub Never : {A : Type 0} → Scanner (Option A) → Type 0
Never {A = A} one = (ts : Bytes) (k : Kind) → one ts ≡ erred k → ⊥

never_by : {A : Type 0} (one : Scanner (Option A)) → Never one → (f : List A → Scanner (List A)) (xs : List A) (ts : Bytes) (k : Kind) (r : Scan (Option A)) → one ts ≡ r → ((us : List A) (u : Bytes) → f us u ≡ erred k → ⊥) → gather_by f xs r ≡ erred k → ⊥
never_by {A = A} one nv f xs ts k (Ok (None, u)) e next g = err_ok {A = List A} k (xs, u) (sym g)
never_by one nv f xs ts k (Ok (Some x, u)) e next g = next (xs ++ x ∷ []) u g
never_by one nv f xs ts k (Err j) e next g = nv ts j e

never_within : {A : Type 0} (one : Scanner (Option A)) → Never one → (n : ℕ) (xs : List A) (ts : Bytes) (k : Kind) → gather_within one n xs ts ≡ erred k → ⊥
unfolding gather_within
never_within {A = A} one nv zero xs ts k e = err_ok {A = List A} k (xs, ts) (sym e)
never_within one nv (suc n) xs ts k e = never_by one nv (gather_within one n) xs ts k (one ts) refl (λ us u g. never_within one nv n us u k g) e

pub gather-never : {A : Type 0} (one : Scanner (Option A)) → Never one → (xs : List A) (ts : Bytes) (k : Kind) → gather one xs ts ≡ erred k → ⊥
unfolding gather
gather-never one nv xs ts k e = never_within one nv (suc (length ts)) xs ts k e
