use Rattle.std.proofs.Common.{refl, sym, ap}
use Rattle.lara_data.specs.TableTypes.{Columns}
use Rattle.lara_types.proofs.ColumnFacts.{summed}
use Rattle.lara_types.proofs.rules.agg_type.Goals as goal

pub invariant_of-result : goal.invariant_of-result
invariant_of-result c = summed (record { keys = c.a.inside.keys; vals = c.a.inside.vals }) c.args.a.now.keys c.args.keys.now c.args.keys.now c.args.keys.now _ _ c.in_ok-keys.ensures.columns c.in_ok-vals.ensures.same c.a.invariant (ap (λ (d : Columns). d.keys) (sym c.a.view_is)) refl refl (sym c.requires.keys) (sym c.requires.once)
