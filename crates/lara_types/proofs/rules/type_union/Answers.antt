use Rattle.lara_types.proofs.ColumnFacts.{united}
use Rattle.lara_types.proofs.rules.type_union.Goals as goal

pub invariant_of-result : goal.invariant_of-result
invariant_of-result c = united (record { keys = c.a.inside.keys; vals = c.a.inside.vals }) (record { keys = c.b.inside.keys; vals = c.b.inside.vals }) _ _ _ _ c.in_ok-keys.ensures.columns c.in_ok-vals.ensures.columns c.a.invariant c.b.invariant c.a.view_is c.b.view_is c.if-types_differ.ensures c.if-is_too_many.ensures
