-- A literal stands for a value of its column exactly where it is of the column's kind and in its range; the value has the
-- column's type and is not past the range.
use Rattle.std.specs.Prelude.{◌≡◌, ℕ, ◌<◌, cond, true, false, List}
use Rattle.std.proofs.Common.{refl, sym, ap, ◌∙◌, arith}
use Rattle.std.proofs.lemmas.Bool.{ltb-true, lt-ltb, lt-leb}
use Rattle.std.proofs.lemmas.Bool.Decides.{nat_tests}
use Rattle.lara_base.specs.Texts.{is_content}
use Rattle.lara_base.specs.declared.text.Text.TheVariants as text
use Rattle.lara_key.specs.declared.key.KeyType.{KeyType}
use Rattle.lara_key.specs.declared.key.KeyType.TheVariants as key_type
use Rattle.lara_key.specs.declared.key.KeyVal.{KeyVal}
use Rattle.lara_key.specs.declared.key.KeyVal.TheVariants as key
use Rattle.lara_key.specs.Keys.{nat_over, has_key_type, key_is_over}
use Rattle.lara_semiring.specs.Counts.{count_over}
use Rattle.lara_semiring.specs.MinPlus.{minplus_over}
use Rattle.lara_semiring.specs.MaxMin.{maxmin_over}
use Rattle.lara_semiring.specs.Lasts.{last_is_over}
use Rattle.lara_semiring.specs.Paths.{path_is_over}
use Rattle.lara_semiring.specs.declared.path.PathText.TheVariants as path
use Rattle.lara_semiring.specs.declared.value.ValType.{ValType}
use Rattle.lara_semiring.specs.declared.value.ValType.TheVariants as val_type
use Rattle.lara_semiring.specs.declared.value.Value.{Value}
use Rattle.lara_semiring.specs.declared.value.Value.TheVariants as value
use Rattle.lara_semiring.specs.Values.{has_type, value_is_over}
use Rattle.lara_syntax.specs.declared.ast.AstValue.{AstValue}
use Rattle.lara_syntax.specs.declared.ast.AstValue.TheVariants.{Number, Text, Flag, Inf, None}
use Rattle.lara_syntax.specs.Literals.{is_key_lit, is_val_lit, is_key_in_range, is_val_in_range, key_value, row_value, IsKey, IsVal}

-- ---- a literal of the kind and in the range stands for its value

pub key_met : (t : KeyType) (x : AstValue) → is_key_lit t x ≡ true → is_key_in_range t x ≡ true → IsKey t x (key_value t x)
key_met key_type.Nat (Number n) k r = (ltb-true n nat_over r, refl)
key_met key_type.Text (Text bs) k r = (r, refl)
key_met key_type.Flag (Flag b) k r = refl
key_met _ _ k r = absurd cc

pub val_met : (t : ValType) (x : AstValue) → is_val_lit t x ≡ true → is_val_in_range t x ≡ true → IsVal t x (row_value t x)
val_met val_type.Count (Number n) k r = (ltb-true n count_over r, refl)
val_met val_type.MinPlus (Number n) k r = (ltb-true n minplus_over r, refl)
val_met val_type.MinPlus Inf k r = refl
val_met val_type.MaxMin (Number n) k r = (ltb-true n maxmin_over r, refl)
val_met val_type.Flag (Flag b) k r = refl
val_met val_type.Last (Text bs) k r = (r, refl)
val_met val_type.Path (Text bs) k r = (r, refl)
val_met val_type.Path None k r = refl
val_met _ _ k r = absurd cc

-- ---- what stands for a value is of the kind and in the range

pub key_meets : (t : KeyType) (x : AstValue) (k : KeyVal) → IsKey t x k → (is_key_lit t x ≡ true) × (is_key_in_range t x ≡ true) × (key_value t x ≡ k)
key_meets key_type.Nat (Number n) k h = (refl, lt-ltb n nat_over h.0, sym h.1)
key_meets key_type.Text (Text bs) k h = (refl, h.0, sym h.1)
key_meets key_type.Flag (Flag b) k h = (refl, refl, sym h)
key_meets _ _ k h = absurd h

pub val_meets : (t : ValType) (x : AstValue) (v : Value) → IsVal t x v → (is_val_lit t x ≡ true) × (is_val_in_range t x ≡ true) × (row_value t x ≡ v)
val_meets val_type.Count (Number n) v h = (refl, lt-ltb n count_over h.0, sym h.1)
val_meets val_type.MinPlus (Number n) v h = (refl, lt-ltb n minplus_over h.0, sym h.1)
val_meets val_type.MinPlus Inf v h = (refl, refl, sym h)
val_meets val_type.MaxMin (Number n) v h = (refl, lt-ltb n maxmin_over h.0, sym h.1)
val_meets val_type.Flag (Flag b) v h = (refl, refl, sym h)
val_meets val_type.Last (Text bs) v h = (refl, h.0, sym h.1)
val_meets val_type.Path (Text bs) v h = (refl, h.0, sym h.1)
val_meets val_type.Path None v h = (refl, refl, sym h)
val_meets _ _ v h = absurd h

-- ---- values have the column's type, and none is past its range

key_below : (n : ℕ) → n < nat_over → has_key_type key_type.Nat (key.Nat n) ≡ true
unfolding has_key_type
key_below n h = grind (arith, nat_tests)

key_inside : (n : ℕ) → n < nat_over → key_is_over (key.Nat n) ≡ false
unfolding key_is_over
key_inside n h = lt-leb nat_over n h

pub key_is : (t : KeyType) (x : AstValue) (k : KeyVal) → IsKey t x k → (has_key_type t k ≡ true) × (key_is_over k ≡ false)
unfolding has_key_type key_is_over
key_is key_type.Nat (Number n) k h = (ap (has_key_type key_type.Nat) h.1 ∙ key_below n h.0, ap key_is_over h.1 ∙ key_inside n h.0)
key_is key_type.Text (Text bs) k h = (ap (has_key_type key_type.Text) h.1 ∙ h.0, ap key_is_over h.1)
key_is key_type.Flag (Flag b) k h = (ap (has_key_type key_type.Flag) h, ap key_is_over h)
key_is _ _ k h = absurd h

-- the value has the type and is not past its range
abbrev Fits : ValType → Value → Type 0
Fits t v = (has_type t v ≡ true) × (value_is_over t v ≡ false)

count_fits : (n : ℕ) → n < count_over → Fits val_type.Count (value.Count n)
unfolding has_type value_is_over
count_fits n h = (grind (arith, nat_tests), grind (arith, nat_tests))

minplus_fits : (n : ℕ) → n < minplus_over → Fits val_type.MinPlus (value.MinPlus n)
unfolding has_type value_is_over
minplus_fits n h = (grind (arith, nat_tests), grind (arith, nat_tests))

maxmin_fits : (n : ℕ) → n < maxmin_over → Fits val_type.MaxMin (value.MaxMin n)
unfolding has_type value_is_over
maxmin_fits n h = (grind (arith, nat_tests), grind (arith, nat_tests))

last_fits : (bs : List ℕ) → is_content bs ≡ true → Fits val_type.Last (value.Last (text.Within bs))
unfolding has_type value_is_over
last_fits bs h = (h, ap (λ t. last_is_over (cond t (text.Within bs) text.Over)) h)

path_fits : (bs : List ℕ) → is_content bs ≡ true → Fits val_type.Path (value.Path (path.Within bs))
unfolding has_type value_is_over
path_fits bs h = (h, ap (λ t. path_is_over (cond t (path.Within bs) path.Over)) h)

fits_as : (t : ValType) (v w : Value) → v ≡ w → Fits t w → Fits t v
fits_as t v w e h = (ap (has_type t) e ∙ h.0, ap (value_is_over t) e ∙ h.1)

pub val_is : (t : ValType) (x : AstValue) (v : Value) → IsVal t x v → (has_type t v ≡ true) × (value_is_over t v ≡ false)
unfolding has_type value_is_over
val_is val_type.Count (Number n) v h = fits_as val_type.Count _ _ h.1 (count_fits n h.0)
val_is val_type.MinPlus (Number n) v h = fits_as val_type.MinPlus _ _ h.1 (minplus_fits n h.0)
val_is val_type.MinPlus Inf v h = fits_as val_type.MinPlus _ _ h (refl, refl)
val_is val_type.MaxMin (Number n) v h = fits_as val_type.MaxMin _ _ h.1 (maxmin_fits n h.0)
val_is val_type.Flag (Flag b) v h = fits_as val_type.Flag _ _ h (refl, refl)
val_is val_type.Last (Text bs) v h = fits_as val_type.Last _ _ h.1 (last_fits bs h.0)
val_is val_type.Path (Text bs) v h = fits_as val_type.Path _ _ h.1 (path_fits bs h.0)
val_is val_type.Path None v h = fits_as val_type.Path _ _ h (refl, refl)
val_is _ _ v h = absurd h
