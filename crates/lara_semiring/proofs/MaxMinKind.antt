-- What the operations of values are at `maxmin`, in the words of its implementer.
use Rattle.std.specs.Prelude.{◌≡◌, ◌==◌}
use Rattle.std.proofs.Common.{ap}
use Rattle.lara_semiring.specs.MaxMin.{maxmin_is_over}
use Rattle.lara_semiring.specs.MaxMinVals.{maxmin, as_maxmin, of_maxmin, maxmin_sum, maxmin_product}
use Rattle.lara_semiring.specs.declared.value.ValType.{ValType}
use Rattle.lara_semiring.specs.declared.value.ValType.TheVariants as ty
use Rattle.lara_semiring.specs.declared.value.Value.{Value}
use Rattle.lara_semiring.specs.Values.{value_zero, value_plus, value_times, value_is_zero, value_is_over}

pub zero_maxmin : (t : ValType) → t ≡ ty.MaxMin → value_zero t ≡ of_maxmin (maxmin 0)
unfolding value_zero
zero_maxmin t e = ap value_zero e

pub plus_maxmin : (t : ValType) (a b : Value) → t ≡ ty.MaxMin → value_plus t a b ≡ of_maxmin (maxmin_sum (as_maxmin a) (as_maxmin b))
unfolding value_plus
plus_maxmin t a b e = ap (λ s. value_plus s a b) e

pub times_maxmin : (t : ValType) (a b : Value) → t ≡ ty.MaxMin → value_times t a b ≡ of_maxmin (maxmin_product (as_maxmin a) (as_maxmin b))
unfolding value_times
times_maxmin t a b e = ap (λ s. value_times s a b) e

pub is_zero_maxmin : (t : ValType) (a : Value) → t ≡ ty.MaxMin → value_is_zero t a ≡ ((as_maxmin a).number == 0)
unfolding value_is_zero
is_zero_maxmin t a e = ap (λ s. value_is_zero s a) e

pub is_over_maxmin : (t : ValType) (a : Value) → t ≡ ty.MaxMin → value_is_over t a ≡ maxmin_is_over (as_maxmin a).number
unfolding value_is_over
is_over_maxmin t a e = ap (λ s. value_is_over s a) e
