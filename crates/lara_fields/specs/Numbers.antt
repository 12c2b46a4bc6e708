-- Numbers, the highest byte first, strings of so many bytes, and fields behind their length.
use Rattle.std.specs.Prelude.{◌≡◌, ℕ, zero, suc, ◌^◌, ◌<◌, ◌≤◌, Bool, true, false, nat_lt, List, [], ◌∷◌, ◌++◌, length, take, drop, Result, Ok, Err, if◌then◌else◌}
use Rattle.std.proofs.Common.{refl, sym, ap, subst, ◌∙◌, arith, cond, get_or}
use Rattle.std.specs.Int.{Width, w16, w32, w64, byte_len, from_be_bytes, to_be_bytes}
use Rattle.std.proofs.lemmas.Bool.{ltb-false, le-ltb, and_parts, and_from}
use Rattle.std.proofs.lemmas.Bool.Decides.{nat_tests}
use Rattle.std.proofs.lemmas.List.{take_at, drop_at, take-append-drop, length-append, length-take}
use Rattle.std.proofs.lemmas.Nat.{be_bytes_2, be_bytes_4, be_bytes_8, from_be_bytes-to_be_bytes_2, from_be_bytes-to_be_bytes_4, from_be_bytes-to_be_bytes_8}
use Rattle.lara_base.specs.Results.{◌>>=◌}
use Rattle.lara_base.specs.Texts.{is_byte}
use Rattle.lara_fields.specs.Fields.{number_at, bytes_at, both, made, sized}
use Rattle.lara_fields.specs.Steps.{ok_from_bind, ok_is, read}
use Rattle.lara_fields.specs.Readers.{IsReader, are_bytes, bytes_before, both_reader, variant_reader, same_reader}

-- a number below the limit has so many bytes and is read from them again
pub record IsWide (w : Width) (limit : ℕ) : Type 0 where
  pub len : (n : ℕ) → length (to_be_bytes w n) ≡ byte_len w
  pub back : (bytes : List ℕ) → length bytes ≡ byte_len w → ((i : ℕ) → get_or bytes i 0 < 256) → to_be_bytes w (from_be_bytes w bytes) ≡ bytes
  pub again : (n : ℕ) → n < limit → from_be_bytes w (to_be_bytes w n) ≡ n
  pub below : (bytes : List ℕ) → ((i : ℕ) → get_or bytes i 0 < 256) → from_be_bytes w bytes < limit

pub wide16 : IsWide w16 (2 ^ 16)
wide16 = record {
  len = λ n. refl;
  back = λ bytes len fits. be_bytes_2 bytes _ len fits refl;
  again = λ n lt. from_be_bytes-to_be_bytes_2 n lt;
  below = λ bytes fits. omega (arith, fits 0, fits 1);
}

pub wide32 : IsWide w32 (2 ^ 32)
wide32 = record {
  len = λ n. refl;
  back = λ bytes len fits. be_bytes_4 bytes _ len fits refl;
  again = λ n lt. from_be_bytes-to_be_bytes_4 n lt;
  below = λ bytes fits. omega (arith, fits 0, fits 1, fits 2, fits 3);
}

pub wide64 : IsWide w64 (2 ^ 64)
wide64 = record {
  len = λ n. refl;
  back = λ bytes len fits. be_bytes_8 bytes _ len fits refl;
  again = λ n lt. from_be_bytes-to_be_bytes_8 n lt;
  below = λ bytes fits. omega (arith, fits 0, fits 1, fits 2, fits 3, fits 4, fits 5, fits 6, fits 7);
}

pub each_byte : (bytes : List ℕ) → are_bytes bytes ≡ true → (i : ℕ) → get_or bytes i 0 < 256
each_byte [] h i = omega arith
each_byte (b ∷ bs) h zero = let p = and_parts (is_byte b) (are_bytes bs) h in grind (arith, nat_tests)
each_byte (b ∷ bs) h (suc i) = let p = and_parts (is_byte b) (are_bytes bs) h in each_byte bs p.1 i

pub all_bytes : (bytes : List ℕ) → ((i : ℕ) → get_or bytes i 0 < 256) → are_bytes bytes ≡ true
all_bytes [] h = refl
all_bytes (b ∷ bs) h = let f = h 0 in and_from (is_byte b) (are_bytes bs) (grind (arith, nat_tests)) (all_bytes bs (λ i. h (suc i)))

pub bytes_reader : (n : ℕ) → IsReader (λ (t : List ℕ). length t ≡ n) (λ t. t) (bytes_at n)
bytes_reader n = record { found = found; again = again }
  where
    found : (bytes t rest : List ℕ) → are_bytes bytes ≡ true → bytes_at n bytes ≡ Ok (t, rest) → (length t ≡ n) × (bytes ≡ t ++ rest)
    found bytes t rest h e =
        let g = guard_ok (nat_lt (length bytes) n) (take n bytes, drop n bytes) (t, rest) (length bytes) e in
        let long : n ≤ length bytes = ltb-false _ _ g.0 in
        subst (λ (z : List ℕ × List ℕ). (length z.0 ≡ n) × (bytes ≡ z.0 ++ z.1)) g.1 (omega (arith, length-take n bytes), sym (take-append-drop n bytes))
      where
        guard_ok : {A E : Type 0} (b : Bool) (x y : A) (d : E) → cond b (Err d) (Ok x) ≡ Ok y → (b ≡ false) × (x ≡ y)
        guard_ok true x y d e = absurd cc
        guard_ok false x y d e = (refl, cc)

    again : (t rest : List ℕ) → length t ≡ n → bytes_at n (t ++ rest) ≡ Ok (t, rest)
    again t rest len =
        let long : nat_lt (length (t ++ rest)) n ≡ false = le-ltb _ _ (omega (arith, length-append t rest)) in
        rw (long, take_at t rest n len, drop_at t rest n len) refl

-- a number is read from its bytes: the bytes, as the number that they stand for
pub number_made : (w : Width) (bytes : List ℕ) → number_at w bytes ≡ made (from_be_bytes w) (bytes_at (byte_len w)) bytes
number_made w bytes = by (nat_lt (length bytes) (byte_len w))
  where
    by : (b : Bool) → (if b then Err (length bytes) else read (from_be_bytes w (take (byte_len w) bytes)) (drop (byte_len w) bytes)) ≡ ((if b then Err (length bytes) else read (take (byte_len w) bytes) (drop (byte_len w) bytes)) >>= λ x. Ok (from_be_bytes w x.0, x.1))
    by true = refl
    by false = refl

pub number_reader : (w : Width) (limit : ℕ) → IsWide w limit → IsReader (λ n. n < limit) (to_be_bytes w) (number_at w)
number_reader w limit wide = record { found = found; again = again }
  where
    found : (bytes : List ℕ) (n : ℕ) (rest : List ℕ) → are_bytes bytes ≡ true → number_at w bytes ≡ Ok (n, rest) → (n < limit) × (bytes ≡ to_be_bytes w n ++ rest)
    found bytes n rest h e =
        let a = ok_from_bind (bytes_at (byte_len w) bytes) (λ x. Ok (from_be_bytes w x.0, x.1)) (n, rest) (sym (number_made w bytes) ∙ e) in
        let one = (bytes_reader (byte_len w)).found bytes a.0.0 a.0.1 h a.1 in
        let fits = each_byte a.0.0 (bytes_before a.0.0 a.0.1 (rw one.1 at h)) in
        let same = ok_is (from_be_bytes w a.0.0, a.0.1) (n, rest) a.2 in
        let split : bytes ≡ to_be_bytes w (from_be_bytes w a.0.0) ++ a.0.1 = one.1 ∙ ap (λ (t : List ℕ). t ++ a.0.1) (sym (wide.back a.0.0 one.0 fits)) in
        subst (λ (z : ℕ × List ℕ). (z.0 < limit) × (bytes ≡ to_be_bytes w z.0 ++ z.1)) same (wide.below a.0.0 fits, split)

    again : (n : ℕ) (rest : List ℕ) → n < limit → number_at w (to_be_bytes w n ++ rest) ≡ Ok (n, rest)
    again n rest lt =
        number_made w (to_be_bytes w n ++ rest) ∙ rw ((bytes_reader (byte_len w)).again (to_be_bytes w n) rest (wide.len n), wide.again n lt) refl

-- ---- a number of two bytes, and a field of so many bytes

-- the length in two bytes, and the text
abbrev pub sized_code : List ℕ → List ℕ
sized_code t = to_be_bytes w16 (length t) ++ t

abbrev pair : {X : Type 0} → ℕ → X → List ℕ → Result ((ℕ × X) × List ℕ) ℕ
pair n x rest = Ok ((n, x), rest)

sized_is : {X : Type 0} (r : ℕ → List ℕ → Result (X × List ℕ) ℕ) (bytes : List ℕ) → sized r bytes ≡ made (λ (p : ℕ × X). p.1) (both (number_at w16) r) bytes
sized_is {X} r bytes = by (number_at w16 bytes)
  where
    behind : (n : ℕ) (s : Result (X × List ℕ) ℕ) → s ≡ ((s >>= λ y. pair n y.0 y.1) >>= λ x. read x.0.1 x.1)
    behind n (Ok x) = refl
    behind n (Err e) = refl

    by : (s : Result (ℕ × List ℕ) ℕ) → (s >>= λ n. r n.0 n.1) ≡ ((s >>= λ x. r x.0 x.1 >>= λ y. pair x.0 y.0 y.1) >>= λ x. read x.0.1 x.1)
    by (Ok n) = behind n.0 (r n.0 n.1)
    by (Err e) = refl

pub sized_reader : {X : Type 0} {P : X → Type 0} {c : X → List ℕ} {r : ℕ → List ℕ → Result (X × List ℕ) ℕ}
    → ((n : ℕ) → IsReader (λ x. P x × (length (c x) ≡ n)) c (r n)) → IsReader (λ x. P x × (length (c x) < 2 ^ 16)) (λ x. sized_code (c x)) (sized r)
sized_reader {X} {P} {c} {r} law =
    same_reader {P = λ (x : X). P x × (length (c x) < 2 ^ 16)} {Q = λ (x : X). P x × (length (c x) < 2 ^ 16)} (sized_is r) (λ x p. p) (λ x p. p)
    (variant_reader {Q = λ (x : X). P x × (length (c x) < 2 ^ 16)} {d = λ (x : X). sized_code (c x)} (λ (p : ℕ × X). p.1)
    (λ p h. (h.1.0, subst (λ (n : ℕ). n < 2 ^ 16) (sym h.1.1) h.0))
    (λ p h. ap (λ (n : ℕ). to_be_bytes w16 n ++ c p.1) h.1.1)
    (λ x h. ((length (c x), x), (h.1, (h.0, refl)), refl))
    (both_reader (number_reader w16 (2 ^ 16) wide16) (λ n p. law n)))
