use Rattle.std.proofs.Common.{◌≤◌}
use Rattle.lara.proofs.tests_random.joins_print_as_plain_tables.Given as goal

-- no more tables with an entry than rounds
abbrev pub invariant-loop-round : goal.invariant-loop-round
invariant-loop-round g l = l.full ≤ l.round-counter
