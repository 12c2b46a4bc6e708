-- The items so far, and those of the rest, are all.
use Rattle.std.proofs.Common.{◌≡◌, ◌≤◌, length, []}
use Rattle.lara_syntax.specs.ScanSteps.{gather}
use Rattle.lara_syntax.specs.TokenWords.{item_here}
use Rattle.lara_syntax.proofs.scan.exact_items.Given as goal

abbrev pub invariant-loop-list : goal.invariant-loop-list
invariant-loop-list l = (gather (item_here l.size) l.list l.rest ≡ gather (item_here l.size) [] l.bytes) × (length l.rest ≤ l.size) × (l.size ≡ length l.bytes)

abbrev pub decreases-loop-list : goal.decreases-loop-list
decreases-loop-list l = length l.rest
