-- The orders of key columns and of tuples, for tables over them.
use Rattle.std.specs.Prelude.{◌≡◌, ◌&&◌}
use Rattle.std.proofs.Common.{refl}
use Rattle.std.specs.declared.cmp.Ordering.{Ordering}
use Rattle.std.specs.declared.cmp.Ordering.TheVariants.{Less, Equal, Greater}
use Rattle.std.specs.Ordering.{is_eq, ordering_then}
use Rattle.lara_key.specs.Keys.{key_cmp, key_cmp_total, key_cmp_antisymmetric, tuple_cmp, tuple_cmp_total, tuple_cmp_antisymmetric}
use Rattle.lara_data.specs.KeyedTables.{IsKeyOrder}

pub key_order : IsKeyOrder key_cmp
key_order = record { total = key_cmp_total; same = key_cmp_antisymmetric }

pub tuple_order : IsKeyOrder tuple_cmp
tuple_order = record { total = tuple_cmp_total; same = tuple_cmp_antisymmetric }

-- two comparisons, one after the other, tie where both do
pub first_two : (o r : Ordering) → is_eq (ordering_then o r) ≡ (is_eq o && is_eq r)
first_two Less r = refl
first_two Equal r = refl
first_two Greater r = refl
