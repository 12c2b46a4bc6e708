-- The calls of a device in memory.
use Rattle.std.specs.Prelude.{ℕ, ◌+◌, ◌-◌, ◌^◌, min, List}
use Rattle.lara_base.specs.declared.calls.Calls.{Calls}

-- the number of calls so far
abbrev pub calls_made : Calls → ℕ
calls_made c = c.made

-- the number of the next call, counted from 1
abbrev pub next_call : Calls → ℕ
next_call c = min (c.made + 1) (2 ^ 64 - 1)

-- the numbers of the calls that fail
abbrev pub failing_calls : Calls → List ℕ
failing_calls c = c.fails

-- the number of faults so far
abbrev pub call_faults : Calls → ℕ
call_faults c = c.faults
