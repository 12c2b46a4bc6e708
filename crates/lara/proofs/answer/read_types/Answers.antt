use Rattle.lara.proofs.NoTables.{no_names_twice, fits_none}
use Rattle.lara.proofs.answer.read_types.Goals as goal

pub check-requires : goal.check-requires
check-requires g c = no_names_twice c.new.result c.new.ensures

pub returns-clause-fits : goal.returns-clause-fits
returns-clause-fits g c = fits_none _ c.new.result c.check-2.result c.map_err.result _ c.new.ensures c.map_err.ensures.cases c.check-2.ensures.fits
