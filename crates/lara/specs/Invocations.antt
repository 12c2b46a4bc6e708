-- What a process was called with.
use Rattle.std.specs.Prelude.{◌≡◌, ◌<◌, ℕ, List, length, take, Option, Some, None, Result, Ok, Err}
use Rattle.std.specs.declared.env.FillError.{FillError}
use Rattle.std.specs.declared.env.FillError.TheVariants.{NotPresent, TooLong}

-- What is answered for an argument, and stands in the buffer then: its bytes at the front, or that it is longer than the
-- buffer, or that there is none.
abbrev pub Copies : Option (List ℕ) → Result ℕ FillError → List ℕ → Type 0
Copies (Some argument) (Ok n) buf = take n buf ≡ argument
Copies (Some argument) (Err NotPresent) buf = ⊥
Copies (Some argument) (Err TooLong) buf = length buf < length argument
Copies None (Ok n) buf = ⊥
Copies None (Err NotPresent) buf = Unit {0}
Copies None (Err TooLong) buf = ⊥
