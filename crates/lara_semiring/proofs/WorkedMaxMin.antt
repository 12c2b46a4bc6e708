-- Widths worked out by hand, at 0, at the end of the range and at `over`.
use Rattle.std.specs.Prelude.{◌≡◌, true, false}
use Rattle.std.proofs.Common.{refl}
use Rattle.lara_semiring.specs.MaxMin.{maxmin_over, maxmin_plus, maxmin_times, maxmin_is_over}
use Rattle.lara_semiring.specs.MaxMinVals.{maxmin, maxmin_sum, maxmin_product}

over : maxmin_over ≡ 18446744073709551615
over = refl

greater : maxmin_plus 7 4 ≡ 7
greater = refl

zero_adds_nothing : maxmin_plus 0 4 ≡ 4
zero_adds_nothing = refl

over_is_greatest : maxmin_plus 18446744073709551614 18446744073709551615 ≡ 18446744073709551615
over_is_greatest = refl

lesser : maxmin_times 7 4 ≡ 4
lesser = refl

zero_annihilates : maxmin_times 0 18446744073709551615 ≡ 0
zero_annihilates = refl

over_is_one : maxmin_times 18446744073709551615 9 ≡ 9
over_is_one = refl

over_is_over : maxmin_is_over 18446744073709551615 ≡ true
over_is_over = refl

last_is_not_over : maxmin_is_over 18446744073709551614 ≡ false
last_is_not_over = refl

-- ---- the same of the implementer

widths_sum : maxmin_sum (maxmin 7) (maxmin 4) ≡ maxmin 7
widths_sum = refl

widths_product : maxmin_product (maxmin 7) (maxmin 4) ≡ maxmin 4
widths_product = refl
