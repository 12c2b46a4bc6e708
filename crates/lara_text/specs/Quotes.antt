-- Texts in quotes.
use Rattle.std.specs.Prelude.{◌≡◌, ℕ, ◌+◌, ◌-◌, ◌*◌, ◌/◌, ◌%◌, ◌<◌, ◌==◌, nat_lt, Bool, true, false, ◌||◌, ◌⊎◌, List, [], ◌∷◌, ◌++◌, if◌then◌else◌}
use Rattle.std.proofs.Common.{refl, sym, ap, ◌∙◌, arith, inl, inr}
use Rattle.std.specs.List.{flat_map}
use Rattle.std.proofs.lemmas.Bool.{agree_below_at, eqb-true, eqb-false, or_cases, or_parts}
use Rattle.std.proofs.lemmas.List.{append_assoc}
use Rattle.lara_text.specs.Delimited.{Each, IsDelimited, first_is, rest_is}

-- a hexadecimal digit, in lower case
abbrev pub hex_digit : ℕ → ℕ
hex_digit d = if nat_lt d 10 then 48 + d else 87 + d

-- A byte within quotes: `"` and `\` stand behind a `\`, bytes below 32 and the byte 127 as `\xHH`, all others as they are.
unfoldable pub quoted_byte : ℕ → List ℕ
quoted_byte b =
    if b == 34 || b == 92 then 92 ∷ b ∷ []
    else if nat_lt b 32 || b == 127 then 92 ∷ 120 ∷ hex_digit (b / 16) ∷ hex_digit (b % 16) ∷ []
    else b ∷ []

-- a text in quotes
unfoldable pub quoted_text : List ℕ → List ℕ
quoted_text bytes = 34 ∷ (flat_map quoted_byte bytes ++ 34 ∷ [])

-- ---- what is read back

-- the number that a hexadecimal digit stands for
abbrev pub hex_value : ℕ → ℕ
hex_value h = if nat_lt h 58 then h - 48 else h - 87

-- the byte of two hexadecimal digits, and what stands behind them
abbrev pub read_hex : List ℕ → ℕ × List ℕ
read_hex [] = (0, [])
read_hex (h ∷ []) = (0, [])
read_hex (h ∷ l ∷ rest) = (16 * hex_value h + hex_value l, rest)

-- the byte behind a `\`, and what stands behind it
abbrev pub read_escape : List ℕ → ℕ × List ℕ
read_escape [] = (0, [])
read_escape (b ∷ rest) = if b == 120 then read_hex rest else (b, rest)

-- the first byte of a text within quotes, and what stands behind it
unfoldable pub read_byte : List ℕ → ℕ × List ℕ
read_byte [] = (0, [])
read_byte (b ∷ rest) = if b == 92 then read_escape rest else (b, rest)

hex_back : (d : ℕ) → d < 16 → hex_value (hex_digit d) ≡ d
hex_back d l = eqb-true (hex_value (hex_digit d)) d (agree_below_at (λ d. hex_value (hex_digit d) == d) (λ d. true) 16 d refl l)

no_x : (b : ℕ) → ((b == 34) ≡ true) ⊎ ((b == 92) ≡ true) → (b == 120) ≡ false
no_x b (inl e) = ap (λ c. c == 120) (eqb-true b 34 e)
no_x b (inr e) = ap (λ c. c == 120) (eqb-true b 92 e)

-- bytes are read back from their quoted forms
pub read_quoted_byte : (b : ℕ) (rest : List ℕ) → b < 256 → read_byte (quoted_byte b ++ rest) ≡ (b, rest)
unfolding read_byte quoted_byte
read_quoted_byte b rest l =
    elim (b == 34 || b == 92) as (λ c. (b == 34 || b == 92) ≡ c → read_byte ((if c then 92 ∷ b ∷ [] else if nat_lt b 32 || b == 127 then 92 ∷ 120 ∷ hex_digit (b / 16) ∷ hex_digit (b % 16) ∷ [] else b ∷ []) ++ rest) ≡ (b, rest)) [
      | true ↦ λ e. escaped e
      | false ↦ λ e. elim (nat_lt b 32 || b == 127) as (λ c. read_byte ((if c then 92 ∷ 120 ∷ hex_digit (b / 16) ∷ hex_digit (b % 16) ∷ [] else b ∷ []) ++ rest) ≡ (b, rest)) [
        | true ↦ hexed
        | false ↦ plain (or_parts (b == 34) (b == 92) e).1
      ]
    ] refl
  where
    escaped : (b == 34 || b == 92) ≡ true → (if b == 120 then read_hex rest else (b, rest)) ≡ (b, rest)
    escaped e = ap (λ (c : Bool). if c then read_hex rest else (b, rest)) (no_x b (or_cases (b == 34) (b == 92) e))

    hexed : ◌≡◌ {A = ℕ × List ℕ} (16 * hex_value (hex_digit (b / 16)) + hex_value (hex_digit (b % 16)), rest) (b, rest)
    hexed =
        let high = hex_back (b / 16) (omega (arith, l)) in
        let low = hex_back (b % 16) (omega arith) in
        let whole : 16 * (b / 16) + b % 16 ≡ b = omega arith in
        (λ i. (((λ j. 16 * high j + low j) ∙ whole) i, rest))

    plain : (b == 92) ≡ false → (if b == 92 then read_escape rest else (b, rest)) ≡ (b, rest)
    plain e = ap (λ (c : Bool). if c then read_escape rest else (b, rest)) e

-- no byte within quotes begins as the closing quote does
byte_not_end : (b : ℕ) (r s : List ℕ) → quoted_byte b ++ r ≡ 34 ∷ s → ⊥
unfolding quoted_byte
byte_not_end b r s =
    elim (b == 34 || b == 92) as (λ c. (b == 34 || b == 92) ≡ c → (if c then 92 ∷ b ∷ [] else if nat_lt b 32 || b == 127 then 92 ∷ 120 ∷ hex_digit (b / 16) ∷ hex_digit (b % 16) ∷ [] else b ∷ []) ++ r ≡ 34 ∷ s → ⊥) [
      | true ↦ λ e f. let x : 92 ≡ 34 = first_is f in absurd (omega (arith, x))
      | false ↦ λ e. elim (nat_lt b 32 || b == 127) as (λ c. (if c then 92 ∷ 120 ∷ hex_digit (b / 16) ∷ hex_digit (b % 16) ∷ [] else b ∷ []) ++ r ≡ 34 ∷ s → ⊥) [
        | true ↦ λ f. let x : 92 ≡ 34 = first_is f in absurd (omega (arith, x))
        | false ↦ λ f. eqb-false b 34 (or_parts (b == 34) (b == 92) e).0 (first_is f)
      ]
    ] refl

-- a byte
abbrev pub IsByte : ℕ → Type 0
IsByte b = b < 256

-- what stands between quotes is told
quoted_apart : (a b r s : List ℕ) → Each IsByte a → Each IsByte b → flat_map quoted_byte a ++ 34 ∷ r ≡ flat_map quoted_byte b ++ 34 ∷ s → (a ≡ b) × (r ≡ s)
unfolding Each
quoted_apart [] [] r s p q e = (refl, rest_is e)
quoted_apart [] (y ∷ b) r s p q e = absurd (byte_not_end y (flat_map quoted_byte b ++ 34 ∷ s) r (sym (append_assoc (quoted_byte y) (flat_map quoted_byte b) (34 ∷ s)) ∙ sym e))
quoted_apart (x ∷ a) [] r s p q e = absurd (byte_not_end x (flat_map quoted_byte a ++ 34 ∷ r) s (sym (append_assoc (quoted_byte x) (flat_map quoted_byte a) (34 ∷ r)) ∙ e))
quoted_apart (x ∷ a) (y ∷ b) r s p q e =
    let lefts = flat_map quoted_byte a ++ 34 ∷ r in
    let rights = flat_map quoted_byte b ++ 34 ∷ s in
    let whole : quoted_byte x ++ lefts ≡ quoted_byte y ++ rights = sym (append_assoc (quoted_byte x) (flat_map quoted_byte a) (34 ∷ r)) ∙ e ∙ append_assoc (quoted_byte y) (flat_map quoted_byte b) (34 ∷ s) in
    let one : ◌≡◌ {A = ℕ × List ℕ} (x, lefts) (y, rights) = sym (read_quoted_byte x lefts p.0) ∙ ap read_byte whole ∙ read_quoted_byte y rights q.0 in
    let others = quoted_apart a b r s p.1 q.1 (ap (λ (z : ℕ × List ℕ). z.1) one) in
    ((λ i. (one i).0 ∷ others.0 i), others.1)

-- a text in quotes is told, whatever stands behind it
pub quoted_text-apart : (a b r s : List ℕ) → Each IsByte a → Each IsByte b → quoted_text a ++ r ≡ quoted_text b ++ s → (a ≡ b) × (r ≡ s)
unfolding quoted_text
quoted_text-apart a b r s p q e =
    quoted_apart a b r s p q (sym (append_assoc (flat_map quoted_byte a) (34 ∷ []) r) ∙ rest_is e ∙ append_assoc (flat_map quoted_byte b) (34 ∷ []) s)

-- so text columns go with the others
pub IsDelimited-quoted : (within : ℕ → Bool) → IsDelimited (Each IsByte) within quoted_text
IsDelimited-quoted within = record { apart = λ a b r s p q m n e. quoted_text-apart a b r s p q e }
