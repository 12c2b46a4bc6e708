use Rattle.lara_base.proofs.HeldFiles.{others_stay}
use Rattle.lara_base.proofs.mem_depot.MemDepotDepot.remove.Goals as goal

pub returns-clause-others : goal.returns-clause-others
returns-clause-others c = λ other apart. others_stay c.args.self.now.files.items c.take_away.new.files.items c.args.name.now other _ c.take_away.ensures apart
