-- What the operations of values are at `flag`, in the words of its implementer.
use Rattle.std.specs.Prelude.{◌≡◌, false, not}
use Rattle.std.proofs.Common.{ap}
use Rattle.lara_semiring.specs.FlagVals.{flag, as_flag, of_flag, flag_sum, flag_product}
use Rattle.lara_semiring.specs.declared.value.ValType.{ValType}
use Rattle.lara_semiring.specs.declared.value.ValType.TheVariants as ty
use Rattle.lara_semiring.specs.declared.value.Value.{Value}
use Rattle.lara_semiring.specs.Values.{value_zero, value_plus, value_times, value_is_zero, value_is_over}

pub zero_flag : (t : ValType) → t ≡ ty.Flag → value_zero t ≡ of_flag (flag false)
unfolding value_zero
zero_flag t e = ap value_zero e

pub plus_flag : (t : ValType) (a b : Value) → t ≡ ty.Flag → value_plus t a b ≡ of_flag (flag_sum (as_flag a) (as_flag b))
unfolding value_plus
plus_flag t a b e = ap (λ s. value_plus s a b) e

pub times_flag : (t : ValType) (a b : Value) → t ≡ ty.Flag → value_times t a b ≡ of_flag (flag_product (as_flag a) (as_flag b))
unfolding value_times
times_flag t a b e = ap (λ s. value_times s a b) e

pub is_zero_flag : (t : ValType) (a : Value) → t ≡ ty.Flag → value_is_zero t a ≡ not (as_flag a).is_set
unfolding value_is_zero
is_zero_flag t a e = ap (λ s. value_is_zero s a) e

pub is_over_flag : (t : ValType) (a : Value) → t ≡ ty.Flag → value_is_over t a ≡ false
unfolding value_is_over
is_over_flag t a e = ap (λ s. value_is_over s a) e
