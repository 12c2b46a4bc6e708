use Rattle.std.proofs.Common.{ap, ◌∙◌}
use Rattle.std.specs.BTreeMap.{BTreeMap}
use Rattle.lara_data.specs.KeyedTables.{Row}
use Rattle.lara_data.specs.MapTables.{of_pairs}
use Rattle.lara_data.specs.Names.{Tuple}
use Rattle.lara_data.specs.Tables.{Entries}
use Rattle.lara_assoc.proofs.TableFacts.{table_by, typed_sums}
use Rattle.lara_assoc.proofs.assoc.Assoc.of_sums.Goals as goal

-- the entries that a map holds
abbrev of_map : BTreeMap Tuple Row → Entries
of_map map = of_pairs map.entries

pub invariant_of-result : goal.invariant_of-result
invariant_of-result c =
    typed_sums c.args.ty c.args.sums (of_pairs c.in_ok-new.field-0.value.entries) (ap of_map c.in_ok-new.ensures.ok ∙ c.into_rows.ensures.rows) c.into_rows.ensures.typed c.requires

pub returns : goal.returns
returns c = λ es same.
    table_by c.args.ty c.args.sums (of_pairs c.in_ok-new.field-0.value.entries) es c.requires.types (ap of_map c.in_ok-new.ensures.ok ∙ c.into_rows.ensures.rows) c.into_rows.ensures.typed same
