-- Keys read from their codes.
use Rattle.std.specs.Prelude.{◌≡◌, ℕ, ◌<◌, ◌^◌, Bool, true, List, [], ◌∷◌, Result}
use Rattle.std.specs.Int.{w64}
use Rattle.std.proofs.Common.{refl, arith}
use Rattle.std.proofs.lemmas.Bool.{and_parts, and_from}
use Rattle.std.proofs.lemmas.Bool.Decides.{nat_tests}
use Rattle.lara_base.specs.Texts.{is_text}
use Rattle.lara_base.specs.declared.text.Text.{Text}
use Rattle.lara_fields.specs.Fields.{number_at, made, each, whole}
use Rattle.lara_fields.specs.Flags.{flag_at, flag_reader, flag_field}
use Rattle.lara_fields.specs.Lists.{Each, each_reader}
use Rattle.lara_fields.specs.Numbers.{number_reader, wide64}
use Rattle.lara_fields.specs.Places.{IsField, made_field, number_field}
use Rattle.lara_fields.specs.Readers.{IsReader, variant_reader, same_reader}
use Rattle.lara_fields.specs.TextCodes.{text_at}
use Rattle.lara_fields.specs.TextReaders.{text_reader, text_field}
use Rattle.lara_key.specs.declared.key.KeyType.{KeyType}
use Rattle.lara_key.specs.declared.key.KeyType.TheVariants as ty
use Rattle.lara_key.specs.declared.key.KeyVal.{KeyVal}
use Rattle.lara_key.specs.declared.key.KeyVal.TheVariants as key
use Rattle.lara_key.specs.Keys.{has_key_type, tuple_has}
use Rattle.lara_key.specs.KeyCodes.{key_code, tuple_code}

-- the column is one of the type
abbrev pub IsColumn : KeyType → KeyVal → Type 0
IsColumn t v = has_key_type t v ≡ true

-- a column of the type and what is behind it
unfoldable pub column_at : KeyType → List ℕ → Result (KeyVal × List ℕ) ℕ
column_at ty.Nat bytes = made key.Nat (number_at w64) bytes
column_at ty.Text bytes = made key.Text text_at bytes
column_at ty.Flag bytes = made key.Flag flag_at bytes

-- a column of each type, one after the other
abbrev pub columns_at : List KeyType → List ℕ → Result (List KeyVal × List ℕ) ℕ
columns_at = each column_at

-- the tuple whose code the bytes are
abbrev pub tuple_in : List KeyType → List ℕ → Result (List KeyVal) ℕ
tuple_in ts bytes = whole (columns_at ts) bytes

-- ---- the reading of a column is exact, and stops at its first byte

nat_is : (n : ℕ) → n < 2 ^ 64 → IsColumn ty.Nat (key.Nat n)
unfolding has_key_type
nat_is n h = grind (arith, nat_tests)

nat_from : (v : KeyVal) → IsColumn ty.Nat v → (n : ℕ) × (n < 2 ^ 64) × (key.Nat n ≡ v)
unfolding has_key_type
nat_from (key.Nat n) h = (n, grind (arith, nat_tests), refl)
nat_from (key.Text t) h = cc
nat_from (key.Flag b) h = cc

text_is : (t : Text) → is_text t ≡ true → IsColumn ty.Text (key.Text t)
unfolding has_key_type
text_is t h = h

text_from : (v : KeyVal) → IsColumn ty.Text v → (t : Text) × (is_text t ≡ true) × (key.Text t ≡ v)
unfolding has_key_type
text_from (key.Nat n) h = cc
text_from (key.Text t) h = (t, h, refl)
text_from (key.Flag b) h = cc

flag_from : (v : KeyVal) → IsColumn ty.Flag v → (b : Bool) × Unit {0} × (key.Flag b ≡ v)
unfolding has_key_type
flag_from (key.Nat n) h = cc
flag_from (key.Text t) h = cc
flag_from (key.Flag b) h = (b, tt, refl)

flag_is : (b : Bool) → IsColumn ty.Flag (key.Flag b)
unfolding has_key_type
flag_is b = refl

pub column_reader : (t : KeyType) → IsReader (IsColumn t) key_code (column_at t)
unfolding column_at key_code
column_reader ty.Nat = variant_reader {Q = IsColumn ty.Nat} {d = key_code} key.Nat nat_is (λ n p. refl) nat_from (number_reader w64 (2 ^ 64) wide64)
column_reader ty.Text = variant_reader {Q = IsColumn ty.Text} {d = key_code} key.Text text_is (λ t p. refl) text_from text_reader
column_reader ty.Flag = variant_reader {Q = IsColumn ty.Flag} {d = key_code} key.Flag (λ b p. flag_is b) (λ b p. refl) flag_from flag_reader

pub column_field : (t : KeyType) → IsField (column_at t)
unfolding column_at
column_field ty.Nat = made_field key.Nat (number_field w64)
column_field ty.Text = made_field key.Text text_field
column_field ty.Flag = made_field key.Flag flag_field

-- ---- tuples

pub each_from_tuple_has : (ts : List KeyType) (vs : List KeyVal) → tuple_has ts vs ≡ true → Each IsColumn ts vs
unfolding tuple_has Each
each_from_tuple_has [] [] h = tt
each_from_tuple_has [] (v ∷ vs) h = absurd cc
each_from_tuple_has (t ∷ ts) [] h = absurd cc
each_from_tuple_has (t ∷ ts) (v ∷ vs) h = let p = and_parts (has_key_type t v) (tuple_has ts vs) h in (p.0, each_from_tuple_has ts vs p.1)

pub tuple_has_from_each : (ts : List KeyType) (vs : List KeyVal) → Each IsColumn ts vs → tuple_has ts vs ≡ true
unfolding tuple_has Each
tuple_has_from_each [] [] h = refl
tuple_has_from_each [] (v ∷ vs) h = absurd h
tuple_has_from_each (t ∷ ts) [] h = absurd h
tuple_has_from_each (t ∷ ts) (v ∷ vs) h = and_from (has_key_type t v) (tuple_has ts vs) h.0 (tuple_has_from_each ts vs h.1)

-- a tuple of the types
abbrev pub IsTuple : List KeyType → List KeyVal → Type 0
IsTuple ts a = tuple_has ts a ≡ true

pub columns_reader : (ts : List KeyType) → IsReader (IsTuple ts) tuple_code (columns_at ts)
columns_reader ts = same_reader (λ bytes. refl) (tuple_has_from_each ts) (each_from_tuple_has ts) (each_reader column_reader ts)
