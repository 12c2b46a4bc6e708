-- The values of `maxmin`: the semiring of its elements, and how they stand among all values.
use Rattle.std.specs.Prelude.{◌≡◌, ℕ, ◌≤◌, ◌==◌, min, Bool, true, false, nat_le}
use Rattle.std.proofs.Common.{refl, ap, arith}
use Rattle.std.proofs.lemmas.Bool.Decides.{nat_tests}
use Rattle.lara_semiring.specs.Semirings.{SemiringLaws}
use Rattle.lara_semiring.specs.ValueSemirings.{ValueSemiring, holds_text}
use Rattle.lara_semiring.specs.MaxMin.{maxmin_over, maxmin_plus, maxmin_times, maxmin_plus_is, maxmin_times_is, maxmin_plus_assoc, maxmin_plus_comm, maxmin_zero_plus, maxmin_times_assoc, maxmin_times_comm, maxmin_times_plus, maxmin_plus_times, maxmin_over_times, maxmin_times_over, maxmin_zero_times, maxmin_times_zero, maxmin_is_over, maxmin_plus_is_zero, maxmin_times_is_zero}
use Rattle.lara_semiring.specs.declared.max_min.MaxMinVal.{MaxMinVal}
use Rattle.lara_semiring.specs.declared.value.Value.{Value}
use Rattle.lara_semiring.specs.declared.value.Value.TheVariants.{MaxMin}

-- the value of a number
abbrev pub maxmin : ℕ → MaxMinVal
maxmin n = record { number = n }

-- a number in the range, or `over`
abbrev pub IsMaxMin : MaxMinVal → Type 0
IsMaxMin a = a.number ≤ maxmin_over

-- `over`
abbrev pub IsMaxMinOver : MaxMinVal → Type 0
IsMaxMinOver a = a.number ≡ maxmin_over

-- the greater of the numbers
abbrev pub maxmin_sum : MaxMinVal → MaxMinVal → MaxMinVal
maxmin_sum a b = maxmin (maxmin_plus a.number b.number)

-- the lesser of the numbers
abbrev pub maxmin_product : MaxMinVal → MaxMinVal → MaxMinVal
maxmin_product a b = maxmin (maxmin_times a.number b.number)

pub maxmin_laws : SemiringLaws IsMaxMin (maxmin 0) (maxmin maxmin_over) maxmin_sum maxmin_product
maxmin_laws = record {
  nothing_is = omega arith;
  unit_is = omega arith;
  sum_is = λ a b p q. maxmin_plus_is a.number b.number p q;
  product_is = λ a b p q. maxmin_times_is a.number b.number p;
  sum_assoc = λ a b c p q r. ap maxmin (maxmin_plus_assoc a.number b.number c.number);
  sum_comm = λ a b p q. ap maxmin (maxmin_plus_comm a.number b.number);
  nothing_sum = λ a p. ap maxmin (maxmin_zero_plus a.number);
  product_assoc = λ a b c p q r. ap maxmin (maxmin_times_assoc a.number b.number c.number);
  product_unit = λ a p. ap maxmin (maxmin_times_over a.number p);
  unit_product = λ a p. ap maxmin (maxmin_over_times a.number p);
  product_sum = λ a b c p q r. ap maxmin (maxmin_times_plus a.number b.number c.number);
  sum_product = λ a b c p q r. ap maxmin (maxmin_plus_times a.number b.number c.number);
  product_nothing = λ a p. ap maxmin (maxmin_times_zero a.number);
  nothing_product = λ a p. ap maxmin (maxmin_zero_times a.number);
}

pub maxmin_product_comm : (a b : MaxMinVal) → maxmin_product a b ≡ maxmin_product b a
maxmin_product_comm a b = ap maxmin (maxmin_times_comm a.number b.number)

pub only_narrowest : (a : MaxMinVal) → (a.number == 0) ≡ true → a ≡ maxmin 0
only_narrowest a h = ap maxmin (grind (arith, nat_tests))

-- ---- among all values

-- the value is a width
abbrev pub is_maxmin : Value → Bool
is_maxmin (MaxMin n) = nat_le n maxmin_over
is_maxmin other = false

-- the width as a value
abbrev pub of_maxmin : MaxMinVal → Value
of_maxmin a = MaxMin a.number

-- the width that a value is read as: a number beyond the range as `over`, a value of another type as 0
abbrev pub as_maxmin : Value → MaxMinVal
as_maxmin (MaxMin n) = maxmin (min n maxmin_over)
as_maxmin other = maxmin 0

pub of_maxmin_is : (a : MaxMinVal) → IsMaxMin a → is_maxmin (of_maxmin a) ≡ true
of_maxmin_is a h = grind (arith, nat_tests)

pub as_maxmin_is : (v : Value) → IsMaxMin (as_maxmin v)
as_maxmin_is (MaxMin n) = omega arith
as_maxmin_is _ = omega arith

pub as_of_maxmin : (a : MaxMinVal) → IsMaxMin a → as_maxmin (of_maxmin a) ≡ a
as_of_maxmin a h = ap maxmin (omega arith)

pub of_as_maxmin : (v : Value) → is_maxmin v ≡ true → of_maxmin (as_maxmin v) ≡ v
of_as_maxmin (MaxMin n) h = ap MaxMin (grind (arith, nat_tests))
of_as_maxmin _ h = cc

pub no_text : (v : Value) → is_maxmin v ≡ true → holds_text v ≡ false
no_text (MaxMin n) h = refl
no_text _ h = cc

-- all that is known of `maxmin`
abbrev pub maxmin_values : ValueSemiring
maxmin_values = record {
  Element = MaxMinVal;
  is_element = IsMaxMin;
  nothing = maxmin 0;
  unit = maxmin maxmin_over;
  sum = maxmin_sum;
  product = maxmin_product;
  laws = maxmin_laws;
  has = is_maxmin;
  write = of_maxmin;
  read = as_maxmin;
  write_has = of_maxmin_is;
  read_is = as_maxmin_is;
  read_write = as_of_maxmin;
  write_read = of_as_maxmin;
  is_nothing = λ a. a.number == 0;
  nothing_is_nothing = refl;
  only_nothing = λ a p h. only_narrowest a h;
  is_past = λ a. maxmin_is_over a.number;
  has_texts = false;
  no_text = λ h v p. no_text v p;
  commutes = true;
  product_comm = λ h a b p q. maxmin_product_comm a b;
  is_zero_sum_free = true;
  sum_is_nothing = λ h a b p q. maxmin_plus_is_zero a.number b.number;
  has_no_zero_divisors = true;
  product_is_nothing = λ h a b p q. maxmin_times_is_zero a.number b.number;
}
