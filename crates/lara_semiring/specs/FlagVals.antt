-- The values of `flag`: the semiring of its elements, and how they stand among all values.
use Rattle.std.specs.Prelude.{◌≡◌, Bool, true, false, not}
use Rattle.std.proofs.Common.{refl, ap}
use Rattle.lara_semiring.specs.Semirings.{SemiringLaws}
use Rattle.lara_semiring.specs.ValueSemirings.{ValueSemiring, holds_text}
use Rattle.lara_semiring.specs.Flags.{flag_plus, flag_times, flag_plus_assoc, flag_plus_comm, flag_times_assoc, flag_times_comm, flag_times_true, flag_times_false, flag_times_plus, flag_plus_times, flag_plus_is_false, flag_times_is_false}
use Rattle.lara_semiring.specs.declared.flag.FlagVal.{FlagVal}
use Rattle.lara_semiring.specs.declared.value.Value.{Value}
use Rattle.lara_semiring.specs.declared.value.Value.TheVariants.{Flag}

-- the value of a flag
abbrev pub flag : Bool → FlagVal
flag b = record { is_set = b }

-- each flag is a value
abbrev pub IsFlag : FlagVal → Type 0
IsFlag a = Unit {0}

-- no flag is `over`
abbrev pub IsFlagOver : FlagVal → Type 0
IsFlagOver a = ⊥

-- one of them is true
abbrev pub flag_sum : FlagVal → FlagVal → FlagVal
flag_sum a b = flag (flag_plus a.is_set b.is_set)

-- both are true
abbrev pub flag_product : FlagVal → FlagVal → FlagVal
flag_product a b = flag (flag_times a.is_set b.is_set)

pub flag_laws : SemiringLaws IsFlag (flag false) (flag true) flag_sum flag_product
flag_laws = record {
  nothing_is = tt;
  unit_is = tt;
  sum_is = λ a b p q. tt;
  product_is = λ a b p q. tt;
  sum_assoc = λ a b c p q r. ap flag (flag_plus_assoc a.is_set b.is_set c.is_set);
  sum_comm = λ a b p q. ap flag (flag_plus_comm a.is_set b.is_set);
  nothing_sum = λ a p. refl;
  product_assoc = λ a b c p q r. ap flag (flag_times_assoc a.is_set b.is_set c.is_set);
  product_unit = λ a p. ap flag (flag_times_true a.is_set);
  unit_product = λ a p. refl;
  product_sum = λ a b c p q r. ap flag (flag_times_plus a.is_set b.is_set c.is_set);
  sum_product = λ a b c p q r. ap flag (flag_plus_times a.is_set b.is_set c.is_set);
  product_nothing = λ a p. ap flag (flag_times_false a.is_set);
  nothing_product = λ a p. refl;
}

pub flag_product_comm : (a b : FlagVal) → flag_product a b ≡ flag_product b a
flag_product_comm a b = ap flag (flag_times_comm a.is_set b.is_set)

only_not : (b : Bool) → not b ≡ true → b ≡ false
only_not true h = cc
only_not false h = refl

pub only_false : (a : FlagVal) → not a.is_set ≡ true → a ≡ flag false
only_false a h = ap flag (only_not a.is_set h)

-- ---- among all values

-- the value is a flag
abbrev pub is_flag : Value → Bool
is_flag (Flag b) = true
is_flag other = false

-- the flag as a value
abbrev pub of_flag : FlagVal → Value
of_flag a = Flag a.is_set

-- the flag that a value is read as: a value of another type as false
abbrev pub as_flag : Value → FlagVal
as_flag (Flag b) = flag b
as_flag other = flag false

pub of_as_flag : (v : Value) → is_flag v ≡ true → of_flag (as_flag v) ≡ v
of_as_flag (Flag b) h = refl
of_as_flag _ h = cc

pub no_text : (v : Value) → is_flag v ≡ true → holds_text v ≡ false
no_text (Flag b) h = refl
no_text _ h = cc

-- all that is known of `flag`
abbrev pub flag_values : ValueSemiring
flag_values = record {
  Element = FlagVal;
  is_element = IsFlag;
  nothing = flag false;
  unit = flag true;
  sum = flag_sum;
  product = flag_product;
  laws = flag_laws;
  has = is_flag;
  write = of_flag;
  read = as_flag;
  write_has = λ a h. refl;
  read_is = λ v. tt;
  read_write = λ a h. refl;
  write_read = of_as_flag;
  is_nothing = λ a. not a.is_set;
  nothing_is_nothing = refl;
  only_nothing = λ a p h. only_false a h;
  is_past = λ a. false;
  has_texts = false;
  no_text = λ h v p. no_text v p;
  commutes = true;
  product_comm = λ h a b p q. flag_product_comm a b;
  is_zero_sum_free = true;
  sum_is_nothing = λ h a b p q. flag_plus_is_false a.is_set b.is_set;
  has_no_zero_divisors = true;
  product_is_nothing = λ h a b p q. flag_times_is_false a.is_set b.is_set;
}
