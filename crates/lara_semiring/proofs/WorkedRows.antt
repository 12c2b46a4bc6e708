-- Rows of two counts worked out by hand, column by column.
use Rattle.std.specs.Prelude.{◌≡◌, true, false, List, [], ◌∷◌}
use Rattle.std.proofs.Common.{refl}
use Rattle.lara_semiring.specs.declared.value.ValType.{ValType}
use Rattle.lara_semiring.specs.declared.value.ValType.TheVariants as ty
use Rattle.lara_semiring.specs.declared.value.Value.TheVariants.{Count}
use Rattle.lara_semiring.specs.Values.{has_type, value_zero, value_one, value_plus, value_times, value_is_zero, value_is_over}
use Rattle.lara_semiring.specs.Rows.{row_has, row_zero, row_plus, row_is_zero, row_is_over}
use Rattle.lara_semiring.specs.Products.{row_one, row_times}

-- the types of two counts
abbrev two : List ValType
two = ty.Count ∷ ty.Count ∷ []

pair_has : row_has two (Count 1 ∷ Count 18446744073709551615 ∷ []) ≡ true
unfolding row_has has_type
pair_has = refl

short_has_not : row_has two (Count 1 ∷ []) ≡ false
unfolding row_has has_type
short_has_not = refl

long_has_not : row_has two (Count 1 ∷ Count 2 ∷ Count 3 ∷ []) ≡ false
unfolding row_has has_type
long_has_not = refl

past_the_range_has_not : row_has two (Count 1 ∷ Count 18446744073709551616 ∷ []) ≡ false
unfolding row_has has_type
past_the_range_has_not = refl

zeros : row_zero two ≡ Count 0 ∷ Count 0 ∷ []
unfolding row_zero value_zero
zeros = refl

ones : row_one two ≡ Count 1 ∷ Count 1 ∷ []
unfolding row_one value_one
ones = refl

sum : row_plus two (Count 1 ∷ Count 18446744073709551615 ∷ []) (Count 20 ∷ Count 300 ∷ []) ≡ Count 21 ∷ Count 18446744073709551615 ∷ []
unfolding row_plus value_plus
sum = refl

-- a row that is too short is read as going on with zeros, and one that is too long as ending with the types
sum_of_other_lengths : row_plus two (Count 1 ∷ []) (Count 2 ∷ Count 3 ∷ Count 4 ∷ []) ≡ Count 3 ∷ Count 3 ∷ []
unfolding row_plus value_plus value_zero
sum_of_other_lengths = refl

product : row_times two (Count 6 ∷ Count 18446744073709551615 ∷ []) (Count 7 ∷ Count 0 ∷ []) ≡ Count 42 ∷ Count 0 ∷ []
unfolding row_times value_times
product = refl

zeros_are_default : row_is_zero two (Count 0 ∷ Count 0 ∷ []) ≡ true
unfolding row_is_zero value_is_zero
zeros_are_default = refl

first_is_not_zero : row_is_zero two (Count 1 ∷ Count 0 ∷ []) ≡ false
unfolding row_is_zero value_is_zero
first_is_not_zero = refl

last_is_not_zero : row_is_zero two (Count 0 ∷ Count 1 ∷ []) ≡ false
unfolding row_is_zero value_is_zero
last_is_not_zero = refl

last_is_over : row_is_over two (Count 3 ∷ Count 18446744073709551615 ∷ []) ≡ true
unfolding row_is_over value_is_over
last_is_over = refl

none_is_over : row_is_over two (Count 3 ∷ Count 18446744073709551614 ∷ []) ≡ false
unfolding row_is_over value_is_over
none_is_over = refl
