use Rattle.std.proofs.Common.{◌≡◌, take, map, Ok, true}
use Rattle.lara_data.specs.KeyedTables.{all_have}
use Rattle.lara_data.specs.TableTypes.{types}
use Rattle.lara_types.specs.LiteralValues.{entry_value}
use Rattle.lara_types.specs.NodeRules.{entries_rules}
use Rattle.lara_types.specs.Rules.{by_rules}
use Rattle.lara_types.proofs.literal_entries.entries_of.Given as goal

-- the entries so far
abbrev pub invariant-loop-entry : goal.invariant-loop-entry
invariant-loop-entry l = record {
  so_far : by_rules (entries_rules l.ty (take l.entry-index l.entries)) (map (entry_value l.ty) (take l.entry-index l.entries)) ≡ Ok l.read;
  typed : all_have (types l.ty.vals) l.read ≡ true;
}
