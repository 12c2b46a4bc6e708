use Rattle.lara_types.proofs.StoredColumns.{columns_none, columns_more}
use Rattle.lara_types.proofs.stored.have_columns.Goals as goal

pub loop-schema-init : goal.loop-schema-init
loop-schema-init c = columns_none

pub loop-schema-preserved : goal.loop-schema-preserved
loop-schema-preserved c = columns_more c.args.stored.now c.loop-schema.schema-index c.schema-item.result c.loop-schema-test.true c.schema-item.is c.loop-schema.invariant c.has_columns.ensures
