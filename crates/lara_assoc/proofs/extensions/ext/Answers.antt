use Rattle.lara_assoc.proofs.EachFacts.{map_is_ext, filter_is_ext, promote_is_ext}
use Rattle.lara_assoc.proofs.TableFacts.{ok_is}
use Rattle.lara_assoc.proofs.extensions.ext.Goals as goal

pub returns-in-Map : goal.returns-in-Map
returns-in-Map g c = ok_is c.map_table.result _ _ (map_is_ext _ c.args.a.now c.in-Map.defs _ c.in-Map.is) c.map_table.ensures

pub returns-in-Filter : goal.returns-in-Filter
returns-in-Filter g c = ok_is c.filter_table.result _ _ (filter_is_ext _ c.args.a.now c.in-Filter.test _ c.in-Filter.is) c.filter_table.ensures

pub returns-in-Promote : goal.returns-in-Promote
returns-in-Promote g c = ok_is c.promote_table.result _ _ (promote_is_ext _ c.args.a.now c.in-Promote.def _ c.in-Promote.is) c.promote_table.ensures
