use Rattle.std.proofs.Common.{◌≡◌, true}
use Rattle.std.specs.List.{list_all}
use Rattle.lara_data.specs.MapTables.{of_pairs}
use Rattle.lara_data.specs.KeyedTables.{all_have}
use Rattle.lara_data.specs.Tables.{is_entry_in_range, is_in_range}
use Rattle.lara_data.specs.TableTypes.{types}
use Rattle.lara_assoc.proofs.assoc.Assoc.is_in_range.Given as goal

-- the entries that are left decide it, and are of the types
abbrev pub invariant-loop-key : goal.invariant-loop-key
invariant-loop-key l = record {
  decided : list_all (is_entry_in_range (types l.self.ty.vals)) (of_pairs l.key-iterator) ≡ is_in_range l.self;
  typed : all_have (types l.self.ty.vals) (of_pairs l.key-iterator) ≡ true;
}
