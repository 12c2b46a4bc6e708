-- What makes a reading exact, and that it is kept where readings are put together.
use Rattle.std.specs.Prelude.{◌≡◌, ℕ, Bool, true, List, [], ◌∷◌, ◌++◌, length, Option, Some, None, Result, Ok, Err, if◌then◌else◌}
use Rattle.std.proofs.Common.{refl, sym, ap, subst, ◌∙◌, append_assoc}
use Rattle.std.specs.List.{list_all}
use Rattle.std.proofs.lemmas.Bool.{and_parts}
use Rattle.std.proofs.lemmas.List.{append-nil}
use Rattle.std.proofs.lemmas.List.Folds.{list_all-append}
use Rattle.lara_base.specs.Results.{◌>>=◌}
use Rattle.lara_base.specs.Texts.{is_byte}
use Rattle.lara_fields.specs.Fields.{kept, both, made, ended, whole, told, picked, at_first, joined}
use Rattle.lara_fields.specs.Steps.{ok_from_bind, ok_from_rule, ok_is, read}

-- all are bytes
abbrev pub are_bytes : List ℕ → Bool
are_bytes = list_all is_byte

-- What is read is the code of a value of the kind, and each value of the kind is read from its code, whatever follows it.
pub record IsReader {X : Type 0} (IsOne : X → Type 0) (code : X → List ℕ) (read : List ℕ → Result (X × List ℕ) ℕ) : Type 0 where
  pub found : (bytes : List ℕ) (x : X) (rest : List ℕ) → are_bytes bytes ≡ true → read bytes ≡ Ok (x, rest) → IsOne x × (bytes ≡ code x ++ rest)
  pub again : (x : X) (rest : List ℕ) → IsOne x → read (code x ++ rest) ≡ Ok (x, rest)

pub bytes_behind : (front rest : List ℕ) → are_bytes (front ++ rest) ≡ true → are_bytes rest ≡ true
bytes_behind front rest h = (and_parts (are_bytes front) (are_bytes rest) (sym (list_all-append is_byte front rest) ∙ h)).1

pub bytes_before : (front rest : List ℕ) → are_bytes (front ++ rest) ≡ true → are_bytes front ≡ true
bytes_before front rest h = (and_parts (are_bytes front) (are_bytes rest) (sym (list_all-append is_byte front rest) ∙ h)).0

-- ---- readings put together

pub both_reader : {X Y : Type 0} {P : X → Type 0} {Q : X → Y → Type 0} {c : X → List ℕ} {d : X → Y → List ℕ} {r : List ℕ → Result (X × List ℕ) ℕ} {s : X → List ℕ → Result (Y × List ℕ) ℕ}
    → IsReader P c r → ((x : X) → P x → IsReader (Q x) (d x) (s x)) → IsReader (λ (p : X × Y). P p.0 × Q p.0 p.1) (λ (p : X × Y). c p.0 ++ d p.0 p.1) (both r s)
both_reader {X} {Y} {P} {Q} {c} {d} {r} {s} f g = record { found = found; again = again }
  where
    found : (bytes : List ℕ) (p : X × Y) (rest : List ℕ) → are_bytes bytes ≡ true → both r s bytes ≡ Ok (p, rest) → (P p.0 × Q p.0 p.1) × (bytes ≡ (c p.0 ++ d p.0 p.1) ++ rest)
    found bytes p rest h e =
        let a = ok_from_bind (r bytes) (λ x. s x.0 x.1 >>= λ y. Ok ((x.0, y.0), y.1)) (p, rest) e in
        let one = f.found bytes a.0.0 a.0.1 h a.1 in
        let b = ok_from_bind (s a.0.0 a.0.1) (λ y. Ok ((a.0.0, y.0), y.1)) (p, rest) a.2 in
        let two = (g a.0.0 one.0).found a.0.1 b.0.0 b.0.1 (bytes_behind (c a.0.0) a.0.1 (rw one.1 at h)) b.1 in
        let same = ok_is ((a.0.0, b.0.0), b.0.1) (p, rest) b.2 in
        let split : bytes ≡ (c a.0.0 ++ d a.0.0 b.0.0) ++ b.0.1 = one.1 ∙ ap (λ (t : List ℕ). c a.0.0 ++ t) two.1 ∙ sym (append_assoc (c a.0.0) (d a.0.0 b.0.0) b.0.1) in
        subst (λ (z : (X × Y) × List ℕ). (P z.0.0 × Q z.0.0 z.0.1) × (bytes ≡ (c z.0.0 ++ d z.0.0 z.0.1) ++ z.1)) same ((one.0, two.0), split)

    again : (p : X × Y) (rest : List ℕ) → P p.0 × Q p.0 p.1 → both r s ((c p.0 ++ d p.0 p.1) ++ rest) ≡ Ok (p, rest)
    again p rest h = rw (append_assoc (c p.0) (d p.0 p.1) rest, f.again p.0 (d p.0 p.1 ++ rest) h.0, (g p.0 h.0).again p.1 rest h.1) refl

pub kept_reader : {X : Type 0} {P : X → Type 0} {c : X → List ℕ} {r : List ℕ → Result (X × List ℕ) ℕ} (rule : X → Bool)
    → IsReader P c r → IsReader (λ x. P x × (rule x ≡ true)) c (kept rule r)
kept_reader {X} {P} {c} {r} rule f = record { found = found; again = again }
  where
    found : (bytes : List ℕ) (x : X) (rest : List ℕ) → are_bytes bytes ≡ true → kept rule r bytes ≡ Ok (x, rest) → (P x × (rule x ≡ true)) × (bytes ≡ c x ++ rest)
    found bytes x rest h e =
        let a = ok_from_bind (r bytes) (λ z. if rule z.0 then Ok z else Err (length bytes)) (x, rest) e in
        let b = ok_from_rule (rule a.0.0) a.0 (x, rest) (length bytes) a.2 in
        let one = f.found bytes a.0.0 a.0.1 h a.1 in
        subst (λ (z : X × List ℕ). (P z.0 × (rule z.0 ≡ true)) × (bytes ≡ c z.0 ++ z.1)) b.1 ((one.0, b.0), one.1)

    again : (x : X) (rest : List ℕ) → P x × (rule x ≡ true) → kept rule r (c x ++ rest) ≡ Ok (x, rest)
    again x rest h = rw (f.again x rest h.0, h.1) refl

-- values of the kind as values of a wider type, with codes of their own there
pub variant_reader : {X Y : Type 0} {P : X → Type 0} {Q : Y → Type 0} {c : X → List ℕ} {d : Y → List ℕ} {r : List ℕ → Result (X × List ℕ) ℕ} (f : X → Y)
    → ((x : X) → P x → Q (f x)) → ((x : X) → P x → d (f x) ≡ c x) → ((y : Y) → Q y → (x : X) × P x × (f x ≡ y)) → IsReader P c r → IsReader Q d (made f r)
variant_reader {X} {Y} {P} {Q} {c} {d} {r} f to code from law = record { found = found; again = again }
  where
    found : (bytes : List ℕ) (y : Y) (rest : List ℕ) → are_bytes bytes ≡ true → made f r bytes ≡ Ok (y, rest) → Q y × (bytes ≡ d y ++ rest)
    found bytes y rest h e =
        let a = ok_from_bind (r bytes) (λ x. Ok (f x.0, x.1)) (y, rest) e in
        let one = law.found bytes a.0.0 a.0.1 h a.1 in
        let same = ok_is (f a.0.0, a.0.1) (y, rest) a.2 in
        subst (λ (z : Y × List ℕ). Q z.0 × (bytes ≡ d z.0 ++ z.1)) same (to a.0.0 one.0, one.1 ∙ ap (λ (t : List ℕ). t ++ a.0.1) (sym (code a.0.0 one.0)))

    here : (x : X) (rest : List ℕ) → P x → made f r (d (f x) ++ rest) ≡ read (f x) rest
    here x rest p = rw (code x p, law.again x rest p) refl

    again : (y : Y) (rest : List ℕ) → Q y → made f r (d y ++ rest) ≡ Ok (y, rest)
    again y rest q = let x = from y q in subst (λ (z : Y). made f r (d z ++ rest) ≡ read z rest) x.2 (here x.0 rest x.1)

-- values of the kind as values of a type of as many
pub made_reader : {X Y : Type 0} {P : X → Type 0} {c : X → List ℕ} {r : List ℕ → Result (X × List ℕ) ℕ} (f : X → Y) (g : Y → X)
    → ((x : X) → P x → g (f x) ≡ x) → ((y : Y) → f (g y) ≡ y) → IsReader P c r → IsReader (λ y. P (g y)) (λ y. c (g y)) (made f r)
made_reader {X} {Y} {P} {c} {r} f g back there law =
    variant_reader {P = P} {Q = λ y. P (g y)} {d = λ y. c (g y)} f (λ x p. subst P (sym (back x p)) p) (λ x p. ap c (back x p)) (λ y p. (g y, p, there y)) law

pub picked_reader : {X Y : Type 0} {P : X → Type 0} {Q : Y → Type 0} {c : X → List ℕ} {r : List ℕ → Result (X × List ℕ) ℕ} (f : X → Option Y) (g : Y → X)
    → ((x : X) (rest : List ℕ) → P x → are_bytes (c x ++ rest) ≡ true → (y : Y) → f x ≡ Some y → Q y × (x ≡ g y)) → ((y : Y) → Q y → P (g y) × (f (g y) ≡ Some y)) → IsReader P c r → IsReader Q (λ y. c (g y)) (picked f r)
picked_reader {X} {Y} {P} {Q} {c} {r} f g down up law = record { found = found; again = again }
  where
    by : (bytes : List ℕ) (x : X) (rest : List ℕ) (o : Option Y) (y : Y) (after : List ℕ) → P x → bytes ≡ c x ++ rest → are_bytes (c x ++ rest) ≡ true → f x ≡ o → told (length bytes) rest o ≡ Ok (y, after) → Q y × (bytes ≡ c (g y) ++ after)
    by bytes x rest None y after p s h q e = absurd cc
    by bytes x rest (Some z) y after p s h q e =
        let d = down x rest p h z q in
        subst (λ (w : Y × List ℕ). Q w.0 × (bytes ≡ c (g w.0) ++ w.1)) (ok_is (z, rest) (y, after) e) (d.0, s ∙ ap (λ (t : X). c t ++ rest) d.1)

    found : (bytes : List ℕ) (y : Y) (rest : List ℕ) → are_bytes bytes ≡ true → picked f r bytes ≡ Ok (y, rest) → Q y × (bytes ≡ c (g y) ++ rest)
    found bytes y rest h e =
        let a = ok_from_bind (r bytes) (λ x. told (length bytes) x.1 (f x.0)) (y, rest) e in
        let one = law.found bytes a.0.0 a.0.1 h a.1 in
        by bytes a.0.0 a.0.1 (f a.0.0) y rest one.0 one.1 (rw one.1 at h) refl a.2

    again : (y : Y) (rest : List ℕ) → Q y → picked f r (c (g y) ++ rest) ≡ Ok (y, rest)
    again y rest q = let u = up y q in rw (law.again (g y) rest u.0, u.1) refl

pub same_reader : {X : Type 0} {P Q : X → Type 0} {c : X → List ℕ} {r s : List ℕ → Result (X × List ℕ) ℕ} → ((bytes : List ℕ) → s bytes ≡ r bytes) → ((x : X) → P x → Q x) → ((x : X) → Q x → P x) → IsReader P c r → IsReader Q c s
same_reader {X} {P} {Q} {c} {r} {s} same to from law = record { found = found; again = again }
  where
    found : (bytes : List ℕ) (x : X) (rest : List ℕ) → are_bytes bytes ≡ true → s bytes ≡ Ok (x, rest) → Q x × (bytes ≡ c x ++ rest)
    found bytes x rest h e = let f = law.found bytes x rest h (sym (same bytes) ∙ e) in (to x f.0, f.1)

    again : (x : X) (rest : List ℕ) → Q x → s (c x ++ rest) ≡ Ok (x, rest)
    again x rest q = same (c x ++ rest) ∙ law.again x rest (from x q)

pub joined_reader : {X : Type 0} {P : X → Type 0} {c : X → List ℕ} {r : List ℕ → Result (X × List ℕ) ℕ} → IsReader P c r → IsReader P c (joined r)
joined_reader {X} {P} {c} {r} law = record { found = found; again = again }
  where
    by : (left : ℕ) (q : Result (X × List ℕ) ℕ) (x : X) (rest : List ℕ) → at_first left q ≡ read x rest → q ≡ read x rest
    by left (Ok y) x rest e = e
    by left (Err d) x rest e = absurd cc

    found : (bytes : List ℕ) (x : X) (rest : List ℕ) → are_bytes bytes ≡ true → joined r bytes ≡ Ok (x, rest) → P x × (bytes ≡ c x ++ rest)
    found bytes x rest h e = law.found bytes x rest h (by (length bytes) (r bytes) x rest e)

    again : (x : X) (rest : List ℕ) → P x → joined r (c x ++ rest) ≡ Ok (x, rest)
    again x rest h = rw (law.again x rest h) refl

-- ---- all of the bytes

ended_ok : {X : Type 0} (x y : X) (rest : List ℕ) → ended (x, rest) ≡ Ok y → (x ≡ y) × (rest ≡ [])
ended_ok x y [] e = (ok_is x y e, refl)
ended_ok x y (b ∷ bs) e = absurd cc

-- the bytes are the code of a value of the kind exactly where they are read as it
pub whole_found : {X : Type 0} {P : X → Type 0} {c : X → List ℕ} {r : List ℕ → Result (X × List ℕ) ℕ} → IsReader P c r
    → (bytes : List ℕ) (x : X) → are_bytes bytes ≡ true → whole r bytes ≡ Ok x → P x × (bytes ≡ c x)
whole_found {X} {P} {c} {r} law bytes x h e =
    let a = ok_from_bind (r bytes) ended x e in
    let b = ended_ok a.0.0 x a.0.1 a.2 in
    let one = law.found bytes a.0.0 a.0.1 h a.1 in
    let none : c a.0.0 ++ a.0.1 ≡ c a.0.0 = ap (λ (t : List ℕ). c a.0.0 ++ t) b.1 ∙ append-nil (c a.0.0) in
    subst (λ (z : X). P z × (bytes ≡ c z)) b.0 (one.0, one.1 ∙ none)

pub whole_again : {X : Type 0} {P : X → Type 0} {c : X → List ℕ} {r : List ℕ → Result (X × List ℕ) ℕ} → IsReader P c r
    → (x : X) → P x → whole r (c x) ≡ Ok x
whole_again {X} {P} {c} {r} law x h =
    let e : r (c x) ≡ Ok (x, []) = ap r (sym (append-nil (c x))) ∙ law.again x [] h in
    rw e refl

-- ---- at most one reading

-- bytes have at most one reading: what is read, and what is left
pub reads_once : {X : Type 0} {P : X → Type 0} {c : X → List ℕ} {r : List ℕ → Result (X × List ℕ) ℕ} → IsReader P c r
    → (x y : X) (a b : List ℕ) → P x → P y → c x ++ a ≡ c y ++ b → (x ≡ y) × (a ≡ b)
reads_once {X} {P} {c} {r} law x y a b p q e =
    let same : (x, a) ≡ (y, b) = ok_is (x, a) (y, b) (sym (law.again x a p) ∙ ap r e ∙ law.again y b q) in
    (ap (λ (z : X × List ℕ). z.0) same, ap (λ (z : X × List ℕ). z.1) same)

-- no code is a proper prefix of another
pub no_proper_prefix : {X : Type 0} {P : X → Type 0} {c : X → List ℕ} {r : List ℕ → Result (X × List ℕ) ℕ} → IsReader P c r
    → (x y : X) (rest : List ℕ) → P x → P y → c x ++ rest ≡ c y → rest ≡ []
no_proper_prefix law x y rest p q e = (reads_once law x y rest [] p q (e ∙ sym (append-nil _))).1
