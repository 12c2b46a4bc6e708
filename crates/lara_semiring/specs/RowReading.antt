-- Rows read from their codes.
use Rattle.std.specs.Prelude.{◌≡◌, ℕ, zero, suc, ◌<◌, ◌^◌, Bool, true, List, [], ◌∷◌, ◌++◌, length, Option, Some, None, Result, Ok, Err}
use Rattle.std.specs.Int.{w64}
use Rattle.std.proofs.Common.{refl, ap, subst, arith}
use Rattle.std.proofs.lemmas.Bool.{and_parts, and_from}
use Rattle.std.proofs.lemmas.Bool.Decides.{nat_tests}
use Rattle.lara_base.specs.Texts.{is_content, is_text}
use Rattle.lara_base.specs.declared.text.Text.{Text}
use Rattle.lara_base.specs.declared.text.Text.TheVariants as text
use Rattle.lara_fields.specs.Fields.{number_at, made, joined, told, picked, each, whole}
use Rattle.lara_fields.specs.Flags.{flag_at, flag_reader, flag_field}
use Rattle.lara_fields.specs.Lists.{Each, each_reader}
use Rattle.lara_fields.specs.Numbers.{number_reader, wide64}
use Rattle.lara_fields.specs.Places.{IsField, made_field, number_field, joined_field}
use Rattle.lara_fields.specs.Readers.{IsReader, are_bytes, bytes_behind, variant_reader, same_reader, joined_reader}
use Rattle.lara_fields.specs.Steps.{ok_from_bind, ok_is}
use Rattle.lara_fields.specs.TextCodes.{escaped, text_bytes, text_code, text_at}
use Rattle.lara_fields.specs.TextReaders.{text_reader, text_field}
use Rattle.lara_semiring.specs.Paths.{is_path}
use Rattle.lara_semiring.specs.RowCodes.{path_code, value_code, row_code}
use Rattle.lara_semiring.specs.Rows.{row_has}
use Rattle.lara_semiring.specs.Values.{has_type}
use Rattle.lara_semiring.specs.declared.path.PathText.{PathText}
use Rattle.lara_semiring.specs.declared.path.PathText.TheVariants.{Within, Over, Absent}
use Rattle.lara_semiring.specs.declared.value.ValType.{ValType}
use Rattle.lara_semiring.specs.declared.value.ValType.TheVariants as ty
use Rattle.lara_semiring.specs.declared.value.Value.{Value}
use Rattle.lara_semiring.specs.declared.value.Value.TheVariants as value

-- the value is one of the type
abbrev pub IsValue : ValType → Value → Type 0
IsValue t v = has_type t v ≡ true

-- the path of a text; `over` is written by its own byte, so its text's code is no path
abbrev pub path_of_text : Text → Option PathText
path_of_text (text.Within c) = Some (Within c)
path_of_text text.Over = None

-- what the first byte says, and the text behind 00
unfoldable pub path_parts : List ℕ → Result (PathText × List ℕ) ℕ
path_parts [] = Err 0
path_parts (zero ∷ bs) = picked path_of_text text_at bs
path_parts (suc zero ∷ bs) = Ok (Over, bs)
path_parts (suc (suc zero) ∷ bs) = Ok (Absent, bs)
path_parts (suc (suc (suc b)) ∷ bs) = Err (length bs)

-- a path and what is behind it
abbrev pub path_at : List ℕ → Result (PathText × List ℕ) ℕ
path_at = joined path_parts

-- a value of the type and what is behind it
unfoldable pub value_at : ValType → List ℕ → Result (Value × List ℕ) ℕ
value_at ty.Count bytes = made value.Count (number_at w64) bytes
value_at ty.MinPlus bytes = made value.MinPlus (number_at w64) bytes
value_at ty.MaxMin bytes = made value.MaxMin (number_at w64) bytes
value_at ty.Flag bytes = made value.Flag flag_at bytes
value_at ty.Last bytes = made value.Last text_at bytes
value_at ty.Path bytes = made value.Path path_at bytes

-- a value of each type, one after the other
abbrev pub values_at : List ValType → List ℕ → Result (List Value × List ℕ) ℕ
values_at = each value_at

-- the row whose code the bytes are
abbrev pub row_in : List ValType → List ℕ → Result (List Value) ℕ
row_in ts bytes = whole (values_at ts) bytes

-- ---- the reading of a path is exact

abbrev IsPathCode : List ℕ → PathText × List ℕ → Type 0
IsPathCode bytes z = (is_path z.0 ≡ true) × (bytes ≡ path_code z.0 ++ z.1)

text_found : (bs : List ℕ) (t : Text) (after : List ℕ) (y : PathText × List ℕ) → is_text t ≡ true → bs ≡ text_code t ++ after → told (length bs) after (path_of_text t) ≡ Ok y → IsPathCode (0 ∷ bs) y
unfolding text_bytes
text_found bs (text.Within c) after y p s e = subst (IsPathCode (0 ∷ bs)) (ok_is (Within c, after) y e) (p, ap (λ (t : List ℕ). 0 ∷ t) s)
text_found bs text.Over after y p s e = absurd cc

path_found : (bytes : List ℕ) (y : PathText) (rest : List ℕ) → are_bytes bytes ≡ true → path_parts bytes ≡ Ok (y, rest) → (is_path y ≡ true) × (bytes ≡ path_code y ++ rest)
unfolding path_parts
path_found [] y rest h e = absurd cc
path_found (zero ∷ bs) y rest h e =
    let a = ok_from_bind (text_at bs) (λ x. told (length bs) x.1 (path_of_text x.0)) (y, rest) e in
    let f = text_reader.found bs a.0.0 a.0.1 (bytes_behind (0 ∷ []) bs h) a.1 in
    text_found bs a.0.0 a.0.1 (y, rest) f.0 f.1 a.2
path_found (suc zero ∷ bs) y rest h e = subst (IsPathCode (1 ∷ bs)) (ok_is (Over, bs) (y, rest) e) (refl, refl)
path_found (suc (suc zero) ∷ bs) y rest h e = subst (IsPathCode (2 ∷ bs)) (ok_is (Absent, bs) (y, rest) e) (refl, refl)
path_found (suc (suc (suc b)) ∷ bs) y rest h e = absurd cc

within_again : (c rest : List ℕ) → is_content c ≡ true → picked path_of_text text_at (escaped c ++ rest) ≡ Ok (Within c, rest)
unfolding text_bytes
within_again c rest h = rw (text_reader.again (text.Within c) rest h) refl

path_again : (y : PathText) (rest : List ℕ) → is_path y ≡ true → path_parts (path_code y ++ rest) ≡ Ok (y, rest)
unfolding path_parts
path_again (Within c) rest h = within_again c rest h
path_again Over rest h = refl
path_again Absent rest h = refl

pub path_reader : IsReader (λ y. is_path y ≡ true) path_code path_at
path_reader = joined_reader (record { found = path_found; again = path_again })

-- ---- the reading of a value is exact, and stops at its first byte

number_is : (n : ℕ) → n < 2 ^ 64 → IsValue ty.Count (value.Count n) × IsValue ty.MinPlus (value.MinPlus n) × IsValue ty.MaxMin (value.MaxMin n)
unfolding has_type
number_is n h = (grind (arith, nat_tests), grind (arith, nat_tests), grind (arith, nat_tests))

count_from : (v : Value) → IsValue ty.Count v → (n : ℕ) × (n < 2 ^ 64) × (value.Count n ≡ v)
unfolding has_type
count_from (value.Count n) h = (n, grind (arith, nat_tests), refl)
count_from _ h = cc

minplus_from : (v : Value) → IsValue ty.MinPlus v → (n : ℕ) × (n < 2 ^ 64) × (value.MinPlus n ≡ v)
unfolding has_type
minplus_from (value.MinPlus n) h = (n, grind (arith, nat_tests), refl)
minplus_from _ h = cc

maxmin_from : (v : Value) → IsValue ty.MaxMin v → (n : ℕ) × (n < 2 ^ 64) × (value.MaxMin n ≡ v)
unfolding has_type
maxmin_from (value.MaxMin n) h = (n, grind (arith, nat_tests), refl)
maxmin_from _ h = cc

flag_is : (b : Bool) → IsValue ty.Flag (value.Flag b)
unfolding has_type
flag_is b = refl

flag_from : (v : Value) → IsValue ty.Flag v → (b : Bool) × Unit {0} × (value.Flag b ≡ v)
unfolding has_type
flag_from (value.Flag b) h = (b, tt, refl)
flag_from _ h = cc

last_is : (t : Text) → is_text t ≡ true → IsValue ty.Last (value.Last t)
unfolding has_type
last_is t h = h

last_from : (v : Value) → IsValue ty.Last v → (t : Text) × (is_text t ≡ true) × (value.Last t ≡ v)
unfolding has_type
last_from (value.Last t) h = (t, h, refl)
last_from _ h = cc

path_is : (p : PathText) → is_path p ≡ true → IsValue ty.Path (value.Path p)
unfolding has_type
path_is p h = h

path_from : (v : Value) → IsValue ty.Path v → (p : PathText) × (is_path p ≡ true) × (value.Path p ≡ v)
unfolding has_type
path_from (value.Path p) h = (p, h, refl)
path_from _ h = cc

pub value_reader : (t : ValType) → IsReader (IsValue t) value_code (value_at t)
unfolding value_at value_code
value_reader ty.Count = variant_reader {Q = IsValue ty.Count} {d = value_code} value.Count (λ n h. (number_is n h).0) (λ n p. refl) count_from (number_reader w64 (2 ^ 64) wide64)
value_reader ty.MinPlus = variant_reader {Q = IsValue ty.MinPlus} {d = value_code} value.MinPlus (λ n h. (number_is n h).1) (λ n p. refl) minplus_from (number_reader w64 (2 ^ 64) wide64)
value_reader ty.MaxMin = variant_reader {Q = IsValue ty.MaxMin} {d = value_code} value.MaxMin (λ n h. (number_is n h).2) (λ n p. refl) maxmin_from (number_reader w64 (2 ^ 64) wide64)
value_reader ty.Flag = variant_reader {Q = IsValue ty.Flag} {d = value_code} value.Flag (λ b p. flag_is b) (λ b p. refl) flag_from flag_reader
value_reader ty.Last = variant_reader {Q = IsValue ty.Last} {d = value_code} value.Last last_is (λ t p. refl) last_from text_reader
value_reader ty.Path = variant_reader {Q = IsValue ty.Path} {d = value_code} value.Path path_is (λ y p. refl) path_from path_reader

pub value_field : (t : ValType) → IsField (value_at t)
unfolding value_at
value_field ty.Count = made_field value.Count (number_field w64)
value_field ty.MinPlus = made_field value.MinPlus (number_field w64)
value_field ty.MaxMin = made_field value.MaxMin (number_field w64)
value_field ty.Flag = made_field value.Flag flag_field
value_field ty.Last = made_field value.Last text_field
value_field ty.Path = made_field value.Path (joined_field path_parts)

-- ---- rows

pub each_from_row_has : (ts : List ValType) (row : List Value) → row_has ts row ≡ true → Each IsValue ts row
unfolding row_has Each
each_from_row_has [] [] h = tt
each_from_row_has [] (v ∷ vs) h = absurd cc
each_from_row_has (t ∷ ts) [] h = absurd cc
each_from_row_has (t ∷ ts) (v ∷ vs) h = let p = and_parts (has_type t v) (row_has ts vs) h in (p.0, each_from_row_has ts vs p.1)

pub row_has_from_each : (ts : List ValType) (row : List Value) → Each IsValue ts row → row_has ts row ≡ true
unfolding row_has Each
row_has_from_each [] [] h = refl
row_has_from_each [] (v ∷ vs) h = absurd h
row_has_from_each (t ∷ ts) [] h = absurd h
row_has_from_each (t ∷ ts) (v ∷ vs) h = and_from (has_type t v) (row_has ts vs) h.0 (row_has_from_each ts vs h.1)

-- a row of the types
abbrev pub IsRow : List ValType → List Value → Type 0
IsRow ts row = row_has ts row ≡ true

pub row_reader : (ts : List ValType) → IsReader (IsRow ts) row_code (values_at ts)
row_reader ts = same_reader (λ bytes. refl) (row_has_from_each ts) (each_from_row_has ts) (each_reader value_reader ts)
