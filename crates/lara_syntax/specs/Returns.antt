-- What functions that take no memory return.
use Rattle.std.specs.Prelude.{◌≡◌, Result, Ok, Err}

-- what was returned, seen by view, is what reading gives
abbrev pub Returns : {X Y E : Type 0} → (X → Y) → Result X E → Result Y E → Type 0
Returns view (Ok x) read = read ≡ Ok (view x)
Returns view (Err e) read = read ≡ Err e
