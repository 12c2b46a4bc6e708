use Rattle.std.proofs.Common.{◌≡◌, true}
use Rattle.lara_data.specs.KeyedTables.{all_have}
use Rattle.lara_data.specs.MapTables.{of_pairs}
use Rattle.lara_data.specs.Tables.{recut}
use Rattle.lara_data.specs.TableTypes.{types, key_names}
use Rattle.lara_assoc.specs.Summed.{IsLeft}
use Rattle.lara_assoc.proofs.assoc.Assoc.recut.Given as goal

-- the entries that are left, which are of the types
abbrev pub invariant-loop-key : goal.invariant-loop-key
invariant-loop-key l = record {
  left : IsLeft (types l.self.ty.vals) l.sums (recut (key_names l.self.ty.keys) l.order (of_pairs l.key-iterator)) (recut (key_names l.self.ty.keys) l.order l.self.entries);
  typed : all_have (types l.self.ty.vals) (of_pairs l.key-iterator) ≡ true;
}
