use Rattle.std.proofs.Common.{◌≡◌, true}
use Rattle.std.specs.Prelude.{filter}
use Rattle.lara_data.specs.KeyedTables.{all_have}
use Rattle.lara_data.specs.MapTables.{of_pairs}
use Rattle.lara_data.specs.TableTypes.{types}
use Rattle.lara_assoc.specs.EachEntries.{kept}
use Rattle.lara_assoc.specs.Summed.{IsLeft}
use Rattle.lara_assoc.proofs.extensions.filter_sums.Given as goal

-- the entries that are left, which are of the types
abbrev pub invariant-loop-key : goal.invariant-loop-key
invariant-loop-key l = record {
  left : IsLeft (types l.a.ty.vals) l.sums (filter (kept l.a.ty l.test) (of_pairs l.key-iterator)) (filter (kept l.a.ty l.test) l.a.entries);
  typed : all_have (types l.a.ty.vals) (of_pairs l.key-iterator) ≡ true;
}
