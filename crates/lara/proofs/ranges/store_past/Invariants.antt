use Rattle.std.proofs.Common.{◌≡◌, take, None}
use Rattle.lara.specs.Ranges.{store_past}
use Rattle.lara.proofs.ranges.store_past.Given as goal

-- none of those so far is out of range
abbrev pub invariant-loop-store : goal.invariant-loop-store
invariant-loop-store l = store_past (take l.store-index l.stores) ≡ None
