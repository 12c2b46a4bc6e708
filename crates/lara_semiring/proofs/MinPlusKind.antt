-- What the operations of values are at `minplus`, in the words of its implementer.
use Rattle.std.specs.Prelude.{◌≡◌, ◌==◌}
use Rattle.std.proofs.Common.{ap}
use Rattle.lara_semiring.specs.MinPlus.{minplus_inf, minplus_is_over}
use Rattle.lara_semiring.specs.MinPlusVals.{minplus, as_minplus, of_minplus, minplus_sum, minplus_product}
use Rattle.lara_semiring.specs.declared.value.ValType.{ValType}
use Rattle.lara_semiring.specs.declared.value.ValType.TheVariants as ty
use Rattle.lara_semiring.specs.declared.value.Value.{Value}
use Rattle.lara_semiring.specs.Values.{value_zero, value_plus, value_times, value_is_zero, value_is_over}

pub zero_minplus : (t : ValType) → t ≡ ty.MinPlus → value_zero t ≡ of_minplus (minplus minplus_inf)
unfolding value_zero
zero_minplus t e = ap value_zero e

pub plus_minplus : (t : ValType) (a b : Value) → t ≡ ty.MinPlus → value_plus t a b ≡ of_minplus (minplus_sum (as_minplus a) (as_minplus b))
unfolding value_plus
plus_minplus t a b e = ap (λ s. value_plus s a b) e

pub times_minplus : (t : ValType) (a b : Value) → t ≡ ty.MinPlus → value_times t a b ≡ of_minplus (minplus_product (as_minplus a) (as_minplus b))
unfolding value_times
times_minplus t a b e = ap (λ s. value_times s a b) e

pub is_zero_minplus : (t : ValType) (a : Value) → t ≡ ty.MinPlus → value_is_zero t a ≡ ((as_minplus a).number == minplus_inf)
unfolding value_is_zero
is_zero_minplus t a e = ap (λ s. value_is_zero s a) e

pub is_over_minplus : (t : ValType) (a : Value) → t ≡ ty.MinPlus → value_is_over t a ≡ minplus_is_over (as_minplus a).number
unfolding value_is_over
is_over_minplus t a e = ap (λ s. value_is_over s a) e
