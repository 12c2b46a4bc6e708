-- Each ( takes a level.
use Rattle.std.proofs.Common.{◌*◌, ◌+◌}
use Rattle.lara_syntax.proofs.rules.tables.+tables.Given as goal

abbrev pub decreases-inside : goal.decreases-inside
decreases-inside l = 4 * l.levels

abbrev pub decreases-operand : goal.decreases-operand
decreases-operand l = 4 * l.levels + 1

abbrev pub decreases-join : goal.decreases-join
decreases-join l = 4 * l.levels + 2

abbrev pub decreases-union : goal.decreases-union
decreases-union l = 4 * l.levels + 2

abbrev pub decreases-agg : goal.decreases-agg
decreases-agg l = 4 * l.levels + 2

abbrev pub decreases-rename : goal.decreases-rename
decreases-rename l = 4 * l.levels + 2

abbrev pub decreases-map : goal.decreases-map
decreases-map l = 4 * l.levels + 2

abbrev pub decreases-filter : goal.decreases-filter
decreases-filter l = 4 * l.levels + 2

abbrev pub decreases-promote : goal.decreases-promote
decreases-promote l = 4 * l.levels + 2

abbrev pub decreases-table : goal.decreases-table
decreases-table l = 4 * l.levels + 3
