-- The reading of texts is exact, and stops at their first byte.
use Rattle.std.specs.Prelude.{◌≡◌, ℕ, zero, suc, Bool, true, false, ◌&&◌, ◌==◌, nat_le, List, [], ◌∷◌, ◌++◌, length, replicate, Option, Some, None, Result, Ok, Err, if◌then◌else◌}
use Rattle.std.specs.List.{list_all}
use Rattle.std.proofs.Common.{refl, sym, ap, subst, ◌∙◌, arith}
use Rattle.std.proofs.lemmas.Bool.{and_parts, and_from}
use Rattle.std.proofs.lemmas.Bool.Decides.{nat_tests}
use Rattle.lara_base.specs.Texts.{is_byte, is_content, is_text}
use Rattle.lara_base.specs.declared.text.Text.{Text}
use Rattle.lara_base.specs.declared.text.Text.TheVariants.{Within, Over}
use Rattle.lara_fields.specs.Places.{IsField, picked_field}
use Rattle.lara_fields.specs.Readers.{IsReader, are_bytes, picked_reader}
use Rattle.lara_fields.specs.TextCodes.{escaped, over_text, text_bytes, text_code, with_byte, unescaped, or_refused, unescaped_at, text_of, text_at}

abbrev some : List ℕ → List ℕ → Option (List ℕ × List ℕ)
some c rest = Some (c, rest)

pub unescaped-escaped : (c rest : List ℕ) → unescaped (escaped c ++ rest) ≡ some c rest
unfolding unescaped escaped
unescaped-escaped [] rest = refl
unescaped-escaped (zero ∷ c) rest = rw (unescaped-escaped c rest) refl
unescaped-escaped (suc b ∷ c) rest = rw (unescaped-escaped c rest) refl

some_is : (x y : List ℕ × List ℕ) → some x.0 x.1 ≡ some y.0 y.1 → x ≡ y
some_is x y e = cc

with_byte_is : (b : ℕ) (o : Option (List ℕ × List ℕ)) (c rest : List ℕ) → with_byte b o ≡ some c rest → (d : List ℕ) × (o ≡ some d rest) × (c ≡ b ∷ d)
with_byte_is b None c rest e = absurd cc
with_byte_is b (Some x) c rest e =
    let p = some_is (b ∷ x.0, x.1) (c, rest) e in
    (x.0, ap (λ (t : List ℕ). some x.0 t) (ap (λ (z : List ℕ × List ℕ). z.1) p), sym (ap (λ (z : List ℕ × List ℕ). z.0) p))

pub unescaped_found : (bytes c rest : List ℕ) → unescaped bytes ≡ some c rest → bytes ≡ escaped c ++ rest
unfolding unescaped escaped
unescaped_found [] c rest e = absurd cc
unescaped_found (zero ∷ []) c rest e = absurd cc
unescaped_found (zero ∷ b ∷ bs) c rest e = by (b == 1) (b == 255) refl refl (unescaped_found bs) e
  where
    by : (s t : Bool) → (b == 1) ≡ s → (b == 255) ≡ t → ((d after : List ℕ) → unescaped bs ≡ some d after → bs ≡ escaped d ++ after) → (if s then some [] bs else (if t then with_byte 0 (unescaped bs) else None)) ≡ some c rest → 0 ∷ b ∷ bs ≡ escaped c ++ rest
    by true t p q ih e =
        let one : b ≡ 1 = grind (arith, nat_tests) in
        let p = some_is ([], bs) (c, rest) e in
        let none : [] ≡ c = ap (λ (z : List ℕ × List ℕ). z.0) p in
        let behind : bs ≡ rest = ap (λ (z : List ℕ × List ℕ). z.1) p in
        rw (one, ← none, behind) refl
    by false true p q ih e =
        let last : b ≡ 255 = grind (arith, nat_tests) in
        let w = with_byte_is 0 (unescaped bs) c rest e in
        rw (last, w.2) (ap (λ (t : List ℕ). 0 ∷ 255 ∷ t) (ih w.0 rest w.1))
    by false false p q ih e = absurd cc
unescaped_found (suc b ∷ bs) c rest e =
    let w = with_byte_is (suc b) (unescaped bs) c rest e in
    rw w.2 (ap (λ (t : List ℕ). suc b ∷ t) (unescaped_found bs w.0 rest w.1))

pub all_full : (c : List ℕ) → list_all (λ b. b == 255) c ≡ true → c ≡ replicate (length c) 255
all_full [] h = refl
all_full (b ∷ c) h =
    let p = and_parts (b == 255) (list_all (λ b. b == 255) c) h in
    let same : b ≡ 255 = grind (arith, nat_tests) in
    let ih = all_full c p.1 in
    rw same (ap (λ (t : List ℕ). 255 ∷ t) ih)

full_all : (n : ℕ) → list_all (λ b. b == 255) (replicate n 255) ≡ true
full_all zero = refl
full_all (suc n) = full_all n

pub text_of_found : (c : List ℕ) (t : Text) → are_bytes c ≡ true → text_of c ≡ Some t → (is_text t ≡ true) × (c ≡ text_bytes t)
unfolding text_of text_bytes over_text is_content
text_of_found c t h e = by (nat_le (length c) 1024) ((length c == 1025) && list_all (λ b. b == 255) c) refl refl e
  where
    by : (s f : Bool) → nat_le (length c) 1024 ≡ s → ((length c == 1025) && list_all (λ b. b == 255) c) ≡ f → (if s then Some (Within c) else (if f then Some Over else None)) ≡ Some t → (is_text t ≡ true) × (c ≡ text_bytes t)
    by true f p q e =
        let same : Within c ≡ t = cc in
        subst (λ (z : Text). (is_text z ≡ true) × (c ≡ text_bytes z)) same (and_from (nat_le (length c) 1024) (are_bytes c) p h, refl)
    by false true p q e =
        let same : Over ≡ t = cc in
        let g = and_parts (length c == 1025) (list_all (λ b. b == 255) c) q in
        let long : length c ≡ 1025 = let l = g.0 in grind (arith, nat_tests) in
        let full : c ≡ replicate 1025 255 = all_full c g.1 ∙ ap (λ (n : ℕ). replicate n 255) long in
        subst (λ (z : Text). (is_text z ≡ true) × (c ≡ text_bytes z)) same (refl, full)
    by false false p q e = absurd cc

pub text_of-text_bytes : (t : Text) → is_text t ≡ true → text_of (text_bytes t) ≡ Some t
unfolding text_of text_bytes over_text is_content
text_of-text_bytes (Within c) h = let p = and_parts (nat_le (length c) 1024) (are_bytes c) h in rw p.0 refl
text_of-text_bytes Over h = refl

bytes_in : (c rest : List ℕ) → are_bytes (escaped c ++ rest) ≡ true → are_bytes c ≡ true
unfolding escaped
bytes_in [] rest h = refl
bytes_in (zero ∷ c) rest h = bytes_in c rest h
bytes_in (suc b ∷ c) rest h = let p = and_parts (is_byte (suc b)) (are_bytes (escaped c ++ rest)) h in and_from (is_byte (suc b)) (are_bytes c) p.0 (bytes_in c rest p.1)

abbrev read : List ℕ → List ℕ → Result (List ℕ × List ℕ) ℕ
read c rest = Ok (c, rest)

same_pair : (left : ℕ) (o : Option (List ℕ × List ℕ)) (c rest : List ℕ) → or_refused left o ≡ read c rest → o ≡ some c rest
same_pair left None c rest e = absurd cc
same_pair left (Some x) c rest e = cc

unescaped_reader : IsReader (λ c. Unit {0}) escaped unescaped_at
unescaped_reader = record {
  found = λ bytes c rest h e. (tt, unescaped_found bytes c rest (same_pair (length bytes) (unescaped bytes) c rest e));
  again = λ c rest h. rw (unescaped-escaped c rest) refl;
}

pub text_reader : IsReader (λ t. is_text t ≡ true) text_code text_at
text_reader = picked_reader text_of text_bytes (λ c rest p h t e. text_of_found c t (bytes_in c rest h) e) (λ t h. (tt, text_of-text_bytes t h)) unescaped_reader

refused_first : (n : ℕ) (o : Option (List ℕ × List ℕ)) (left : ℕ) → or_refused n o ≡ Err left → left ≡ n
refused_first n None left e = cc
refused_first n (Some x) left e = absurd cc

pub text_field : IsField text_at
text_field = picked_field text_of (record { stops = λ bytes left e. refused_first (length bytes) (unescaped bytes) left e })
