use Rattle.lara_base.proofs.HeldFiles.{others_stay}
use Rattle.lara_base.proofs.mem_depot.MemDepotDepot.begin.Goals as goal

pub returns-in-Ok-clause-others : goal.returns-in-Ok-clause-others
returns-in-Ok-clause-others c = λ other apart. others_stay c.args.self.now.files.items c.put.new.files.items c.args.name.now other _ c.in-Ok.ensures.ok apart
