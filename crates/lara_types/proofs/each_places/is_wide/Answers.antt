use Rattle.lara_types.proofs.DefinedWalks.{wide_is}
use Rattle.lara_types.proofs.each_places.is_wide.Goals as goal

pub returns : goal.returns
returns c = wide_is c.args.ty.now c.args.defs.now c.has_columns.ensures c.requires.some c.requires.names
