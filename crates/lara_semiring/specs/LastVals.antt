-- The values of `last`: the semiring of its elements, which are texts, and how they stand among all values.
use Rattle.std.specs.Prelude.{◌≡◌, Bool, true, false, cond}
use Rattle.std.proofs.Common.{refl, ap}
use Rattle.lara_base.specs.Texts.{is_content, is_text}
use Rattle.lara_base.specs.declared.text.Text.{Text}
use Rattle.lara_base.specs.declared.text.Text.TheVariants.{Over}
use Rattle.lara_semiring.specs.Semirings.{SemiringLaws}
use Rattle.lara_semiring.specs.ValueSemirings.{ValueSemiring, holds_text}
use Rattle.lara_semiring.specs.declared.value.Value.{Value}
use Rattle.lara_semiring.specs.declared.value.Value.TheVariants.{Last}
use Rattle.lara_semiring.specs.Lasts.{last_zero, last_plus, last_times, last_plus_is, last_times_is, last_plus_assoc, last_plus_comm, last_zero_plus, last_times_assoc, last_times_plus, last_plus_times, last_over_times, last_times_over, last_zero_times, last_times_zero, last_times_comm, last_is_zero, last_is_over, only_empty, last_plus_is_zero, last_times_is_zero}

-- a text, or `over`
abbrev pub IsLast : Text → Type 0
IsLast a = is_text a ≡ true

-- `over`
abbrev pub IsLastOver : Text → Type 0
IsLastOver a = a ≡ Over

zero_is : is_text last_zero ≡ true
unfolding is_content
zero_is = refl

pub last_laws : SemiringLaws IsLast last_zero Over last_plus last_times
last_laws = record {
  nothing_is = zero_is;
  unit_is = refl;
  sum_is = λ a b p q. last_plus_is a b p q;
  product_is = λ a b p q. last_times_is a b p q;
  sum_assoc = λ a b c p q r. last_plus_assoc a b c;
  sum_comm = λ a b p q. last_plus_comm a b;
  nothing_sum = λ a p. last_zero_plus a;
  product_assoc = λ a b c p q r. last_times_assoc a b c;
  product_unit = λ a p. last_times_over a;
  unit_product = λ a p. last_over_times a;
  product_sum = λ a b c p q r. last_times_plus a b c;
  sum_product = λ a b c p q r. last_plus_times a b c;
  product_nothing = λ a p. last_times_zero a;
  nothing_product = λ a p. last_zero_times a;
}

-- ---- among all values

-- the value is a text
abbrev pub is_last : Value → Bool
is_last (Last x) = is_text x
is_last other = false

-- the text that a value is read as: what is no text as `over`, a value of another type as the empty text
abbrev pub as_last : Value → Text
as_last (Last x) = cond (is_text x) x Over
as_last other = last_zero

pub text_is_read : (x : Text) → is_text x ≡ true → cond (is_text x) x Over ≡ x
text_is_read x h = rw h refl

read_is_text : (x : Text) → is_text (cond (is_text x) x Over) ≡ true
read_is_text x = elim (is_text x) as (λ t. is_text x ≡ t → is_text (cond t x Over) ≡ true) [ true ↦ λ h. h | false ↦ λ h. refl ] refl

pub as_last_is : (v : Value) → IsLast (as_last v)
as_last_is (Last x) = read_is_text x
as_last_is _ = zero_is

pub of_as_last : (v : Value) → is_last v ≡ true → Last (as_last v) ≡ v
of_as_last (Last x) h = ap Last (text_is_read x h)
of_as_last _ h = cc

pub no_text : true ≡ false → (v : Value) → is_last v ≡ true → holds_text v ≡ false
no_text e v h = cc

-- all that is known of `last`
abbrev pub last_values : ValueSemiring
last_values = record {
  Element = Text;
  is_element = IsLast;
  nothing = last_zero;
  unit = Over;
  sum = last_plus;
  product = last_times;
  laws = last_laws;
  has = is_last;
  write = Last;
  read = as_last;
  write_has = λ a h. h;
  read_is = as_last_is;
  read_write = text_is_read;
  write_read = of_as_last;
  is_nothing = last_is_zero;
  nothing_is_nothing = refl;
  only_nothing = λ a p h. only_empty a h;
  is_past = last_is_over;
  has_texts = true;
  no_text = no_text;
  commutes = true;
  product_comm = λ h a b p q. last_times_comm a b;
  is_zero_sum_free = true;
  sum_is_nothing = λ h a b p q. last_plus_is_zero a b;
  has_no_zero_divisors = true;
  product_is_nothing = λ h a b p q. last_times_is_zero a b;
}
