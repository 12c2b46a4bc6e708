-- A table held in an ordered map.
use Rattle.std.specs.Prelude.{List, [], ◌∷◌}
use Rattle.lara_data.specs.declared.entry.Keyed.{Keyed}
use Rattle.lara_data.specs.KeyedTables.{Row}

-- the entries of a map
abbrev pub of_pairs : {K : Type 0} → List (K × Row) → List (Keyed K)
of_pairs [] = []
of_pairs (p ∷ ps) = record { key = p.0; row = p.1 } ∷ of_pairs ps
