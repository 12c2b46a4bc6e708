-- What the operations of values are at `last`, in the words of its implementer.
use Rattle.std.specs.Prelude.{◌≡◌}
use Rattle.std.proofs.Common.{ap}
use Rattle.lara_semiring.specs.Lasts.{last_zero, last_plus, last_times, last_is_zero, last_is_over}
use Rattle.lara_semiring.specs.LastVals.{as_last}
use Rattle.lara_semiring.specs.declared.value.Value.TheVariants.{Last}
use Rattle.lara_semiring.specs.declared.value.ValType.{ValType}
use Rattle.lara_semiring.specs.declared.value.ValType.TheVariants as ty
use Rattle.lara_semiring.specs.declared.value.Value.{Value}
use Rattle.lara_semiring.specs.Values.{value_zero, value_plus, value_times, value_is_zero, value_is_over}

pub zero_last : (t : ValType) → t ≡ ty.Last → value_zero t ≡ Last last_zero
unfolding value_zero
zero_last t e = ap value_zero e

pub plus_last : (t : ValType) (a b : Value) → t ≡ ty.Last → value_plus t a b ≡ Last (last_plus (as_last a) (as_last b))
unfolding value_plus
plus_last t a b e = ap (λ s. value_plus s a b) e

pub times_last : (t : ValType) (a b : Value) → t ≡ ty.Last → value_times t a b ≡ Last (last_times (as_last a) (as_last b))
unfolding value_times
times_last t a b e = ap (λ s. value_times s a b) e

pub is_zero_last : (t : ValType) (a : Value) → t ≡ ty.Last → value_is_zero t a ≡ last_is_zero (as_last a)
unfolding value_is_zero
is_zero_last t a e = ap (λ s. value_is_zero s a) e

pub is_over_last : (t : ValType) (a : Value) → t ≡ ty.Last → value_is_over t a ≡ last_is_over (as_last a)
unfolding value_is_over
is_over_last t a e = ap (λ s. value_is_over s a) e
