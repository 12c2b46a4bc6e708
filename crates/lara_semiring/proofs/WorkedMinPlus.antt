-- Distances worked out by hand, at 0, at the end of the range, at `over` and at `inf`.
use Rattle.std.specs.Prelude.{◌≡◌, true, false}
use Rattle.std.proofs.Common.{refl}
use Rattle.lara_semiring.specs.MinPlus.{minplus_inf, minplus_over, minplus_plus, minplus_times, minplus_is_over}
use Rattle.lara_semiring.specs.MinPlusVals.{minplus, minplus_sum, minplus_product}

inf : minplus_inf ≡ 18446744073709551615
inf = refl

over : minplus_over ≡ 18446744073709551614
over = refl

-- ---- sums

lesser : minplus_plus 7 4 ≡ 4
lesser = refl

with_inf : minplus_plus 18446744073709551615 7 ≡ 7
with_inf = refl

two_infs : minplus_plus 18446744073709551615 18446744073709551615 ≡ 18446744073709551615
two_infs = refl

finite_before_over : minplus_plus 18446744073709551614 18446744073709551613 ≡ 18446744073709551613
finite_before_over = refl

over_before_inf : minplus_plus 18446744073709551615 18446744073709551614 ≡ 18446744073709551614
over_before_inf = refl

-- ---- products

two_edges : minplus_times 7 4 ≡ 11
two_edges = refl

no_edge : minplus_times 0 9 ≡ 9
no_edge = refl

last_in_range : minplus_times 18446744073709551612 1 ≡ 18446744073709551613
last_in_range = refl

one_past : minplus_times 18446744073709551613 1 ≡ 18446744073709551614
one_past = refl

two_past : minplus_times 18446744073709551613 2 ≡ 18446744073709551614
two_past = refl

far_past : minplus_times 18446744073709551613 18446744073709551613 ≡ 18446744073709551614
far_past = refl

over_stays : minplus_times 18446744073709551614 0 ≡ 18446744073709551614
over_stays = refl

over_and_more : minplus_times 18446744073709551614 5 ≡ 18446744073709551614
over_and_more = refl

inf_and_number : minplus_times 18446744073709551615 5 ≡ 18446744073709551615
inf_and_number = refl

number_and_inf : minplus_times 0 18446744073709551615 ≡ 18446744073709551615
number_and_inf = refl

inf_and_over : minplus_times 18446744073709551615 18446744073709551614 ≡ 18446744073709551615
inf_and_over = refl

-- ---- over

over_is_over : minplus_is_over 18446744073709551614 ≡ true
over_is_over = refl

inf_is_not_over : minplus_is_over 18446744073709551615 ≡ false
inf_is_not_over = refl

last_is_not_over : minplus_is_over 18446744073709551613 ≡ false
last_is_not_over = refl

-- ---- the same of the implementer

distances_sum : minplus_sum (minplus 7) (minplus 4) ≡ minplus 4
distances_sum = refl

distances_product : minplus_product (minplus 7) (minplus 4) ≡ minplus 11
distances_product = refl
