-- What the operations of values are at `count`, in the words of its implementer.
use Rattle.std.specs.Prelude.{◌≡◌, ◌==◌}
use Rattle.std.proofs.Common.{ap}
use Rattle.lara_semiring.specs.Counts.{count_is_over}
use Rattle.lara_semiring.specs.CountVals.{count, as_count, of_count, count_sum, count_product}
use Rattle.lara_semiring.specs.declared.value.ValType.{ValType}
use Rattle.lara_semiring.specs.declared.value.ValType.TheVariants as ty
use Rattle.lara_semiring.specs.declared.value.Value.{Value}
use Rattle.lara_semiring.specs.Values.{value_zero, value_plus, value_times, value_is_zero, value_is_over}

pub zero_count : (t : ValType) → t ≡ ty.Count → value_zero t ≡ of_count (count 0)
unfolding value_zero
zero_count t e = ap value_zero e

pub plus_count : (t : ValType) (a b : Value) → t ≡ ty.Count → value_plus t a b ≡ of_count (count_sum (as_count a) (as_count b))
unfolding value_plus
plus_count t a b e = ap (λ s. value_plus s a b) e

pub times_count : (t : ValType) (a b : Value) → t ≡ ty.Count → value_times t a b ≡ of_count (count_product (as_count a) (as_count b))
unfolding value_times
times_count t a b e = ap (λ s. value_times s a b) e

pub is_zero_count : (t : ValType) (a : Value) → t ≡ ty.Count → value_is_zero t a ≡ ((as_count a).number == 0)
unfolding value_is_zero
is_zero_count t a e = ap (λ s. value_is_zero s a) e

pub is_over_count : (t : ValType) (a : Value) → t ≡ ty.Count → value_is_over t a ≡ count_is_over (as_count a).number
unfolding value_is_over
is_over_count t a e = ap (λ s. value_is_over s a) e
