-- The values of `minplus`: the semiring of its elements, and how they stand among all values.
use Rattle.std.specs.Prelude.{◌≡◌, ℕ, ◌≤◌, ◌==◌, min, Bool, true, false, nat_le}
use Rattle.std.proofs.Common.{refl, ap, arith}
use Rattle.std.proofs.lemmas.Bool.Decides.{nat_tests}
use Rattle.lara_semiring.specs.Semirings.{SemiringLaws}
use Rattle.lara_semiring.specs.ValueSemirings.{ValueSemiring, holds_text}
use Rattle.lara_semiring.specs.MinPlus.{minplus_inf, minplus_over, minplus_plus, minplus_times, minplus_plus_is, minplus_times_is, minplus_plus_assoc, minplus_plus_comm, minplus_inf_plus, minplus_times_assoc, minplus_times_comm, minplus_times_plus, minplus_plus_times, minplus_zero_times, minplus_times_zero, minplus_inf_times, minplus_times_inf, minplus_is_over, minplus_plus_is_inf, minplus_times_is_inf}
use Rattle.lara_semiring.specs.declared.min_plus.MinPlusVal.{MinPlusVal}
use Rattle.lara_semiring.specs.declared.value.Value.{Value}
use Rattle.lara_semiring.specs.declared.value.Value.TheVariants.{MinPlus}

-- the value of a number
abbrev pub minplus : ℕ → MinPlusVal
minplus n = record { number = n }

-- a number in the range, `over` or `inf`
abbrev pub IsMinPlus : MinPlusVal → Type 0
IsMinPlus a = a.number ≤ minplus_inf

-- `over`
abbrev pub IsMinPlusOver : MinPlusVal → Type 0
IsMinPlusOver a = a.number ≡ minplus_over

-- the lesser of the numbers
abbrev pub minplus_sum : MinPlusVal → MinPlusVal → MinPlusVal
minplus_sum a b = minplus (minplus_plus a.number b.number)

-- the sum of the numbers
abbrev pub minplus_product : MinPlusVal → MinPlusVal → MinPlusVal
minplus_product a b = minplus (minplus_times a.number b.number)

pub minplus_laws : SemiringLaws IsMinPlus (minplus minplus_inf) (minplus 0) minplus_sum minplus_product
minplus_laws = record {
  nothing_is = omega arith;
  unit_is = omega arith;
  sum_is = λ a b p q. minplus_plus_is a.number b.number p;
  product_is = λ a b p q. minplus_times_is a.number b.number;
  sum_assoc = λ a b c p q r. ap minplus (minplus_plus_assoc a.number b.number c.number);
  sum_comm = λ a b p q. ap minplus (minplus_plus_comm a.number b.number);
  nothing_sum = λ a p. ap minplus (minplus_inf_plus a.number p);
  product_assoc = λ a b c p q r. ap minplus (minplus_times_assoc a.number b.number c.number);
  product_unit = λ a p. ap minplus (minplus_times_zero a.number p);
  unit_product = λ a p. ap minplus (minplus_zero_times a.number p);
  product_sum = λ a b c p q r. ap minplus (minplus_times_plus a.number b.number c.number);
  sum_product = λ a b c p q r. ap minplus (minplus_plus_times a.number b.number c.number);
  product_nothing = λ a p. ap minplus (minplus_times_inf a.number);
  nothing_product = λ a p. ap minplus (minplus_inf_times a.number);
}

pub minplus_product_comm : (a b : MinPlusVal) → minplus_product a b ≡ minplus_product b a
minplus_product_comm a b = ap minplus (minplus_times_comm a.number b.number)

pub only_inf : (a : MinPlusVal) → (a.number == minplus_inf) ≡ true → a ≡ minplus minplus_inf
only_inf a h = ap minplus (grind (arith, nat_tests))

-- ---- among all values

-- the value is a distance
abbrev pub is_minplus : Value → Bool
is_minplus (MinPlus n) = nat_le n minplus_inf
is_minplus other = false

-- the distance as a value
abbrev pub of_minplus : MinPlusVal → Value
of_minplus a = MinPlus a.number

-- the distance that a value is read as: a number beyond the range as `inf`, a value of another type as `inf`
abbrev pub as_minplus : Value → MinPlusVal
as_minplus (MinPlus n) = minplus (min n minplus_inf)
as_minplus other = minplus minplus_inf

pub of_minplus_is : (a : MinPlusVal) → IsMinPlus a → is_minplus (of_minplus a) ≡ true
of_minplus_is a h = grind (arith, nat_tests)

pub as_minplus_is : (v : Value) → IsMinPlus (as_minplus v)
as_minplus_is (MinPlus n) = omega arith
as_minplus_is _ = omega arith

pub as_of_minplus : (a : MinPlusVal) → IsMinPlus a → as_minplus (of_minplus a) ≡ a
as_of_minplus a h = ap minplus (omega arith)

pub of_as_minplus : (v : Value) → is_minplus v ≡ true → of_minplus (as_minplus v) ≡ v
of_as_minplus (MinPlus n) h = ap MinPlus (grind (arith, nat_tests))
of_as_minplus _ h = cc

pub no_text : (v : Value) → is_minplus v ≡ true → holds_text v ≡ false
no_text (MinPlus n) h = refl
no_text _ h = cc

-- all that is known of `minplus`
abbrev pub minplus_values : ValueSemiring
minplus_values = record {
  Element = MinPlusVal;
  is_element = IsMinPlus;
  nothing = minplus minplus_inf;
  unit = minplus 0;
  sum = minplus_sum;
  product = minplus_product;
  laws = minplus_laws;
  has = is_minplus;
  write = of_minplus;
  read = as_minplus;
  write_has = of_minplus_is;
  read_is = as_minplus_is;
  read_write = as_of_minplus;
  write_read = of_as_minplus;
  is_nothing = λ a. a.number == minplus_inf;
  nothing_is_nothing = refl;
  only_nothing = λ a p h. only_inf a h;
  is_past = λ a. minplus_is_over a.number;
  has_texts = false;
  no_text = λ h v p. no_text v p;
  commutes = true;
  product_comm = λ h a b p q. minplus_product_comm a b;
  is_zero_sum_free = true;
  sum_is_nothing = λ h a b p q. minplus_plus_is_inf a.number b.number p q;
  has_no_zero_divisors = true;
  product_is_nothing = λ h a b p q. minplus_times_is_inf a.number b.number p q;
}
