use Rattle.std.specs.Prelude.{length}
use Rattle.lara.proofs.tests_tables.+has_each.Given as goal

-- the columns that are left
abbrev pub decreases-has_each : goal.decreases-has_each
decreases-has_each l = length l.keys.now
