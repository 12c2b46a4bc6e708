use Rattle.std.proofs.Common.{◌≡◌, map, take}
use Rattle.lara_types.proofs.orders.plain_names.Given as goal

-- the names so far
abbrev pub invariant-loop-name : goal.invariant-loop-name
invariant-loop-name l = l.names ≡ map (λ n. n.name) (take l.name-index l.listed)
