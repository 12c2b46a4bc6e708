-- Values worked out by hand, at zero, at one and at the end of the range.
use Rattle.std.specs.Prelude.{◌≡◌, true, false}
use Rattle.std.proofs.Common.{refl}
use Rattle.lara_semiring.specs.Counts.{count_is_over}
use Rattle.lara_semiring.specs.CountVals.{count, count_sum, count_product}
use Rattle.lara_semiring.specs.ValueSemirings.{holds_text}
use Rattle.lara_semiring.specs.declared.value.ValType.TheVariants as ty
use Rattle.lara_semiring.specs.declared.value.Value.TheVariants.{Count}
use Rattle.lara_semiring.specs.Values.{same_val_type, has_texts, commutes, is_zero_sum_free, has_no_zero_divisors, has_type, value_zero, value_one, value_plus, value_times, value_is_zero, value_is_over}

-- ---- the facts of the types

one_type : same_val_type ty.Count ty.Count ≡ true
one_type = refl

count_has_no_texts : has_texts ty.Count ≡ false
count_has_no_texts = refl

number_holds_no_text : holds_text (Count 7) ≡ false
number_holds_no_text = refl

count_commutes : commutes ty.Count ≡ true
count_commutes = refl

count_is_zero_sum_free : is_zero_sum_free ty.Count ≡ true
count_is_zero_sum_free = refl

count_has_no_zero_divisors : has_no_zero_divisors ty.Count ≡ true
count_has_no_zero_divisors = refl

-- ---- which values are counts

over_is_typed : has_type ty.Count (Count 18446744073709551615) ≡ true
unfolding has_type
over_is_typed = refl

past_over_is_not : has_type ty.Count (Count 18446744073709551616) ≡ false
unfolding has_type
past_over_is_not = refl

zero_of_count : value_zero ty.Count ≡ Count 0
unfolding value_zero
zero_of_count = refl

one_of_count : value_one ty.Count ≡ Count 1
unfolding value_one
one_of_count = refl

-- ---- sums

small_sum : value_plus ty.Count (Count 3) (Count 4) ≡ Count 7
unfolding value_plus
small_sum = refl

sum_below_over : value_plus ty.Count (Count 18446744073709551613) (Count 1) ≡ Count 18446744073709551614
unfolding value_plus
sum_below_over = refl

sum_at_over : value_plus ty.Count (Count 18446744073709551614) (Count 1) ≡ Count 18446744073709551615
unfolding value_plus
sum_at_over = refl

sum_past_over : value_plus ty.Count (Count 18446744073709551614) (Count 18446744073709551614) ≡ Count 18446744073709551615
unfolding value_plus
sum_past_over = refl

sum_with_over : value_plus ty.Count (Count 18446744073709551615) (Count 0) ≡ Count 18446744073709551615
unfolding value_plus
sum_with_over = refl

-- ---- products

small_product : value_times ty.Count (Count 3) (Count 4) ≡ Count 12
unfolding value_times
small_product = refl

product_past_over : value_times ty.Count (Count 4294967296) (Count 4294967296) ≡ Count 18446744073709551615
unfolding value_times
product_past_over = refl

product_below_over : value_times ty.Count (Count 9223372036854775807) (Count 2) ≡ Count 18446744073709551614
unfolding value_times
product_below_over = refl

product_with_one : value_times ty.Count (Count 1) (Count 18446744073709551615) ≡ Count 18446744073709551615
unfolding value_times
product_with_one = refl

-- 0 times `over` is 0, from both sides
zero_times_over : value_times ty.Count (Count 0) (Count 18446744073709551615) ≡ Count 0
unfolding value_times
zero_times_over = refl

over_times_zero : value_times ty.Count (Count 18446744073709551615) (Count 0) ≡ Count 0
unfolding value_times
over_times_zero = refl

-- ---- tests

zero_is_zero : value_is_zero ty.Count (Count 0) ≡ true
unfolding value_is_zero
zero_is_zero = refl

one_is_not_zero : value_is_zero ty.Count (Count 1) ≡ false
unfolding value_is_zero
one_is_not_zero = refl

over_is_not_zero : value_is_zero ty.Count (Count 18446744073709551615) ≡ false
unfolding value_is_zero
over_is_not_zero = refl

greatest_is_over : value_is_over ty.Count (Count 18446744073709551615) ≡ true
unfolding value_is_over
greatest_is_over = refl

one_below_is_not_over : value_is_over ty.Count (Count 18446744073709551614) ≡ false
unfolding value_is_over
one_below_is_not_over = refl

zero_is_not_over : value_is_over ty.Count (Count 0) ≡ false
unfolding value_is_over
zero_is_not_over = refl

-- ---- the same of the implementer

counts_add : count_sum (count 18446744073709551614) (count 1) ≡ count 18446744073709551615
counts_add = refl

counts_multiply : count_product (count 6148914691236517205) (count 3) ≡ count 18446744073709551615
counts_multiply = refl

counts_are_over : count_is_over 18446744073709551615 ≡ true
counts_are_over = refl
