use Rattle.std.proofs.Common.{◌≡◌, true, map}
use Rattle.lara_data.specs.KeyedTables.{AllKeys, all_have}
use Rattle.lara_data.specs.MapTables.{of_pairs}
use Rattle.lara_data.specs.TableTypes.{types}
use Rattle.lara_data.specs.TypedTables.{KeyHas}
use Rattle.lara_assoc.specs.EachEntries.{mapped}
use Rattle.lara_assoc.specs.Summed.{IsLeft}
use Rattle.lara_assoc.proofs.extensions.map_sums.Given as goal

-- the entries that are left, which are of the types
abbrev pub invariant-loop-key : goal.invariant-loop-key
invariant-loop-key l = record {
  left : IsLeft (types l.ty.vals) l.sums (map (mapped l.a.ty l.defs) (of_pairs l.key-iterator)) (map (mapped l.a.ty l.defs) l.a.entries);
  typed : all_have (types l.a.ty.vals) (of_pairs l.key-iterator) ≡ true;
  keys : AllKeys (KeyHas l.a.ty.keys) (of_pairs l.key-iterator);
}
