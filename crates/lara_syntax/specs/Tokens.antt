-- All tokens of a script.
use Rattle.std.specs.Prelude.{ℕ, List, [], length, Option, None, Ok, Err}
use Rattle.lara_syntax.specs.declared.item.Item.{Item}
use Rattle.lara_data.specs.declared.refusal.Refusal.{Refusal}
use Rattle.lara_syntax.specs.ScanSteps.{Bytes, Scan, gather}
use Rattle.lara_syntax.specs.TokenWords.{item_here, stop_at}

-- the items, and the bytes from where they stop
unfoldable pub scanned : Bytes → Scan (List Item)
scanned bytes = gather (item_here (length bytes)) [] bytes

-- the items that were scanned
abbrev pub items_in : Scan (List Item) → List Item
items_in (Ok x) = x.0
items_in (Err kind) = []

-- where they stop before the end; size is the length of the script
abbrev pub stop_in : ℕ → Scan (List Item) → Option Refusal
stop_in size (Ok x) = stop_at size x.1
stop_in size (Err kind) = None

-- the items of a script, up to its end or to the first byte that begins no token or begins a bad one
unfoldable pub items_of : List ℕ → List Item
items_of bytes = items_in (scanned bytes)

-- where they stop before the end, and why
unfoldable pub stop_of : List ℕ → Option Refusal
stop_of bytes = stop_in (length bytes) (scanned bytes)
