-- The loop goes on where the definitions stand.
use Rattle.std.proofs.Common.{◌≡◌, ◌<◌, length}
use Rattle.lara_syntax.specs.Limits.{most}
use Rattle.lara_syntax.specs.Reading.{defs_from}
use Rattle.lara_syntax.proofs.rules.defs.more_defs.Given as goal

abbrev pub invariant-loop-defs : goal.invariant-loop-defs
invariant-loop-defs l = record {
  some : 0 < length l.defs;
  same : defs_from most.counted l.levels (l.defs, l.taken) l.rest ≡ defs_from most.counted l.levels (l.fn.defs, l.fn.taken) l.items;
}

abbrev pub decreases-loop-defs : goal.decreases-loop-defs
decreases-loop-defs l = length l.rest
