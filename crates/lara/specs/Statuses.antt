-- The exit status of each outcome.
use Rattle.std.specs.Prelude.{ℕ}
use Rattle.lara.specs.declared.outcome.Outcome.{Outcome}
use Rattle.lara.specs.declared.outcome.Outcome.TheVariants.{Done, Usage, Script, Triples, Choice, Range, Damaged, DepotFault, SourceFault, SinkFault, Full, Memory}

-- the exit status; only Done has 0
abbrev pub status_of : Outcome → ℕ
status_of Done = 0
status_of (Usage at) = 1
status_of (Script at kind) = 2
status_of (Triples row kind) = 3
status_of (Choice index) = 4
status_of (Range statement) = 5
status_of (Damaged file at) = 6
status_of DepotFault = 7
status_of SourceFault = 8
status_of SinkFault = 9
status_of (Full what) = 10
status_of Memory = 11
