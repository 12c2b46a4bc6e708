-- How long the code of the first columns of a key is.
use Rattle.std.specs.Prelude.{◌≡◌, ℕ, ◌+◌, ◌-◌, ◌*◌, ◌≤◌, true, false, List, [], ◌∷◌, length, Option, Some, None, Result, Ok, Err}
use Rattle.std.proofs.Common.{refl, ap, ◌∙◌, arith}
use Rattle.std.proofs.lemmas.Bool.{and_parts}
use Rattle.std.proofs.lemmas.List.{length-append}
use Rattle.lara_fields.specs.Readers.{are_bytes}
use Rattle.lara_fields.specs.Skipping.{behind}
use Rattle.lara_fields.specs.Stopping.{Begins}
use Rattle.lara_fields.specs.TextLengths.{text_code_len}
use Rattle.lara_key.specs.declared.key.KeyType.{KeyType}
use Rattle.lara_key.specs.declared.key.KeyType.TheVariants as ty
use Rattle.lara_key.specs.declared.key.KeyVal.{KeyVal}
use Rattle.lara_key.specs.declared.key.KeyVal.TheVariants as key
use Rattle.lara_key.specs.Keys.{has_key_type, tuple_has, tuple_has_length}
use Rattle.lara_key.specs.KeyCodes.{key_code, tuple_code}
use Rattle.lara_key.specs.KeyReading.{IsColumn, IsTuple, columns_at, columns_reader}

-- the bytes begin with the code of a tuple of the types, and it has this length; or they begin with none
abbrev pub IsPrefixLen : List KeyType → List ℕ → Option ℕ → Type 0
IsPrefixLen ts bytes None = Begins (IsTuple ts) tuple_code bytes → ⊥
IsPrefixLen ts bytes (Some n) = (front : Begins (IsTuple ts) tuple_code bytes) × (n ≡ length (tuple_code front.one))

-- ---- the code of a column is not long

column_len : (t : KeyType) (v : KeyVal) → IsColumn t v → length (key_code v) ≤ 2052
unfolding has_key_type key_code
column_len ty.Nat (key.Nat n) h = omega arith
column_len ty.Text (key.Text t) h = text_code_len t h
column_len ty.Flag (key.Flag false) h = omega arith
column_len ty.Flag (key.Flag true) h = omega arith
column_len _ _ h = cc

tuple_len : (ts : List KeyType) (a : List KeyVal) → IsTuple ts a → length (tuple_code a) ≤ 2052 * length a
unfolding tuple_has
tuple_len [] [] h = omega arith
tuple_len [] (v ∷ vs) h = cc
tuple_len (t ∷ ts) [] h = cc
tuple_len (t ∷ ts) (v ∷ vs) h =
    let p = and_parts (has_key_type t v) (tuple_has ts vs) h in
    omega (arith, length-append (key_code v) (tuple_code vs), column_len t v p.0, tuple_len ts vs p.1)

-- ---- what is behind, and so the length

abbrev read : List KeyVal → List ℕ → Result (List KeyVal × List ℕ) ℕ
read a rest = Ok (a, rest)

front_of : (ts : List KeyType) (bytes rest : List ℕ) (r : Result (List KeyVal × List ℕ) ℕ) → are_bytes bytes ≡ true → columns_at ts bytes ≡ r → Some rest ≡ behind r
    → (front : Begins (IsTuple ts) tuple_code bytes) × (front.rest ≡ rest)
front_of ts bytes rest (Ok x) h e s =
    let f = (columns_reader ts).found bytes x.0 x.1 h e in
    (record { one = x.0; rest = x.1; is_one = f.0; bytes_are = f.1 }, cc)
front_of ts bytes rest (Err left) h e s = absurd cc

total : (ts : List KeyType) (bytes rest : List ℕ) (front : Begins (IsTuple ts) tuple_code bytes) → front.rest ≡ rest → length bytes ≡ length (tuple_code front.one) + length rest
total ts bytes rest front e = omega (arith, length-append (tuple_code front.one) front.rest, ap length front.bytes_are, ap length e)

module _ (ts : List KeyType) (bytes rest : List ℕ) (h : are_bytes bytes ≡ true) (s : Some rest ≡ behind (columns_at ts bytes)) where
  pub prefix_found : IsPrefixLen ts bytes (Some (length bytes - length rest))
  prefix_found = let f = front_of ts bytes rest (columns_at ts bytes) h refl s in (f.0, omega (arith, total ts bytes rest f.0 f.1))

  pub prefix_within : length rest ≤ length bytes
  prefix_within = let f = front_of ts bytes rest (columns_at ts bytes) h refl s in omega (arith, total ts bytes rest f.0 f.1)

  pub prefix_short : length bytes - length rest ≤ 2052 * length ts
  prefix_short =
      let f = front_of ts bytes rest (columns_at ts bytes) h refl s in
      omega (arith, total ts bytes rest f.0 f.1, tuple_len ts f.0.one f.0.is_one, tuple_has_length ts f.0.one f.0.is_one)

no_front : (ts : List KeyType) (bytes : List ℕ) → None ≡ behind (columns_at ts bytes) → Begins (IsTuple ts) tuple_code bytes → ⊥
no_front ts bytes s front =
    let e : columns_at ts bytes ≡ read front.one front.rest = ap (columns_at ts) front.bytes_are ∙ (columns_reader ts).again front.one front.rest front.is_one in
    let b : behind (columns_at ts bytes) ≡ Some front.rest = ap behind e in
    cc

pub prefix_none : (ts : List KeyType) (bytes : List ℕ) → None ≡ behind (columns_at ts bytes) → IsPrefixLen ts bytes None
prefix_none ts bytes s front = no_front ts bytes s front

pub ruleset prefix_len_laws = (prefix_found, prefix_within, prefix_short, prefix_none)
