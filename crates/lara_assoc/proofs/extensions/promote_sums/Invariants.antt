use Rattle.std.proofs.Common.{◌≡◌, true, map}
use Rattle.lara_data.specs.KeyedTables.{all_have}
use Rattle.lara_data.specs.MapTables.{of_pairs}
use Rattle.lara_data.specs.TableTypes.{types}
use Rattle.lara_assoc.specs.EachEntries.{promoted}
use Rattle.lara_assoc.specs.Summed.{IsLeft}
use Rattle.lara_assoc.proofs.extensions.promote_sums.Given as goal

-- the entries that are left, which are of the types
abbrev pub invariant-loop-key : goal.invariant-loop-key
invariant-loop-key l = record {
  left : IsLeft (types l.a.ty.vals) l.sums (map (promoted l.a.ty l.def) (of_pairs l.key-iterator)) (map (promoted l.a.ty l.def) l.a.entries);
  typed : all_have (types l.a.ty.vals) (of_pairs l.key-iterator) ≡ true;
}
