-- All sums and products of flags.
use Rattle.std.specs.Prelude.{◌≡◌, true, false}
use Rattle.std.proofs.Common.{refl}
use Rattle.lara_semiring.specs.Flags.{flag_plus, flag_times}
use Rattle.lara_semiring.specs.FlagVals.{flag, flag_sum, flag_product}

neither : flag_plus false false ≡ false
neither = refl

second : flag_plus false true ≡ true
second = refl

first : flag_plus true false ≡ true
first = refl

either : flag_plus true true ≡ true
either = refl

none : flag_times false false ≡ false
none = refl

second_alone : flag_times false true ≡ false
second_alone = refl

first_alone : flag_times true false ≡ false
first_alone = refl

both : flag_times true true ≡ true
both = refl

-- ---- the same of the implementer

flags_sum : flag_sum (flag false) (flag true) ≡ flag true
flags_sum = refl

flags_product : flag_product (flag false) (flag true) ≡ flag false
flags_product = refl
