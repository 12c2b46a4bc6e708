-- The names that a set of byte strings holds.
use Rattle.std.specs.Prelude.{◌≡◌, ℕ, List}
use Rattle.std.specs.Ordering.{nat_cmp}
use Rattle.std.specs.Cmp.Lexicographic.{slice_cmp}
use Rattle.std.specs.BTreeSet.{BTreeSet, contains}
use Rattle.lara_data.specs.Names.{has}

-- the set holds just these names
pub record Holds (set : BTreeSet (List ℕ)) (names : List (List ℕ)) : Type 0 where
  pub same : (q : List ℕ) → contains (slice_cmp nat_cmp) set q ≡ has names q
