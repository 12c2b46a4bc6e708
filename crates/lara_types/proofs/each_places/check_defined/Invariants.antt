use Rattle.std.proofs.Common.{◌≡◌, ◌++◌, map, take, Ok}
use Rattle.lara_data.specs.TableTypes.{key_names}
use Rattle.lara_types.specs.DefinedNames.{def_name, one_more_def}
use Rattle.lara_types.specs.Seen.{Holds}
use Rattle.lara_types.specs.Walks.{walk}
use Rattle.lara_types.proofs.each_places.check_defined.Given as goal

-- the names that are defined so far differ from those of the key columns and from each other, and the set holds them
abbrev pub invariant-loop-def : goal.invariant-loop-def
invariant-loop-def l = record {
  held : Holds l.seen (map def_name (take l.def-index l.defs));
  so_far : walk one_more_def (key_names l.keys) (take l.def-index l.defs) ≡ Ok (key_names l.keys ++ map def_name (take l.def-index l.defs));
}
