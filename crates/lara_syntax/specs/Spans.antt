-- Where the items of a script lie.
use Rattle.std.specs.Prelude.{ℕ, List, [], ◌∷◌, Option, Some, None, ◌<◌, ◌≤◌, ◌+◌, take, drop}
use Rattle.lara_syntax.specs.declared.item.Item.{Item}
use Rattle.lara_data.specs.declared.refusal.Refusal.{Refusal}
use Rattle.lara_syntax.specs.Spellings.{Spells}

-- a refusal lies at or behind a place, and inside the script
abbrev pub LiesFrom : ℕ → ℕ → Option Refusal → Type 0
LiesFrom from size None = Unit {0}
LiesFrom from size (Some r) = (from ≤ r.at) × (r.at < size)

-- From a place on, each item begins at or behind the end of the one before; where they stop lies behind them all.
abbrev pub AreInOrder : ℕ → ℕ → List Item → Option Refusal → Type 0
AreInOrder from size [] stopped = LiesFrom from size stopped
AreInOrder from size (x ∷ xs) stopped = (from ≤ x.at) × (0 < x.len) × (x.at + x.len ≤ size) × AreInOrder (x.at + x.len) size xs stopped

-- the bytes at an item's place spell it
abbrev pub AreSlices : List ℕ → List Item → Type 0
AreSlices bytes [] = Unit {0}
AreSlices bytes (x ∷ xs) = Spells x.lexeme (take x.len (drop x.at bytes)) × AreSlices bytes xs
