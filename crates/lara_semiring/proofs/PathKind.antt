-- What the operations of values are at `path`, in the words of its implementer.
use Rattle.std.specs.Prelude.{◌≡◌}
use Rattle.std.proofs.Common.{ap}
use Rattle.lara_semiring.specs.Paths.{path_plus, path_times, path_is_absent, path_is_over}
use Rattle.lara_semiring.specs.PathVals.{as_path}
use Rattle.lara_semiring.specs.declared.path.PathText.TheVariants.{Absent}
use Rattle.lara_semiring.specs.declared.value.Value.TheVariants.{Path}
use Rattle.lara_semiring.specs.declared.value.ValType.{ValType}
use Rattle.lara_semiring.specs.declared.value.ValType.TheVariants as ty
use Rattle.lara_semiring.specs.declared.value.Value.{Value}
use Rattle.lara_semiring.specs.Values.{value_zero, value_plus, value_times, value_is_zero, value_is_over}

pub zero_path : (t : ValType) → t ≡ ty.Path → value_zero t ≡ Path Absent
unfolding value_zero
zero_path t e = ap value_zero e

pub plus_path : (t : ValType) (a b : Value) → t ≡ ty.Path → value_plus t a b ≡ Path (path_plus (as_path a) (as_path b))
unfolding value_plus
plus_path t a b e = ap (λ s. value_plus s a b) e

pub times_path : (t : ValType) (a b : Value) → t ≡ ty.Path → value_times t a b ≡ Path (path_times (as_path a) (as_path b))
unfolding value_times
times_path t a b e = ap (λ s. value_times s a b) e

pub is_zero_path : (t : ValType) (a : Value) → t ≡ ty.Path → value_is_zero t a ≡ path_is_absent (as_path a)
unfolding value_is_zero
is_zero_path t a e = ap (λ s. value_is_zero s a) e

pub is_over_path : (t : ValType) (a : Value) → t ≡ ty.Path → value_is_over t a ≡ path_is_over (as_path a)
unfolding value_is_over
is_over_path t a e = ap (λ s. value_is_over s a) e
