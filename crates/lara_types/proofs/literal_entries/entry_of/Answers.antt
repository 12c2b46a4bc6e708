use Rattle.lara_types.proofs.EntryValues.{entry_has}
use Rattle.lara_types.proofs.literal_entries.entry_of.Goals as goal

pub returns-in_ok-values_of-in-None-clause-typed : goal.returns-in_ok-values_of-in-None-clause-typed
returns-in_ok-values_of-in-None-clause-typed c = entry_has c.args.ty.now c.args.entry.now c.in_ok-values_of-in-None.field-0 c.in-None.ensures c.in_ok-values_of-in-None.ensures
