-- Tables: what a list of entries has at a key, and the table that it totals to, over any order of keys.
use Rattle.std.specs.Prelude.{◌≡◌, Bool, true, false, ◌&&◌, List, [], ◌∷◌, map, if◌then◌else◌}
use Rattle.std.specs.declared.cmp.Ordering.{Ordering}
use Rattle.std.specs.Ordering.{is_eq, is_lt}
use Rattle.std.specs.Cmp.{IsTotalOrder}
use Rattle.std.specs.FinMap.{IsAntisymmetric}
use Rattle.lara_semiring.specs.declared.value.ValType.{ValType}
use Rattle.lara_semiring.specs.declared.value.Value.{Value}
use Rattle.lara_semiring.specs.Rows.{row_has, row_zero, row_plus, row_is_zero}
use Rattle.lara_data.specs.declared.entry.Keyed.{Keyed}

-- an order of keys in which only equal keys tie
pub record IsKeyOrder {K : Type 0} (R : K → K → Ordering) : Type 0 where
  pub total : IsTotalOrder R
  pub same : IsAntisymmetric R

-- the types of the value columns
abbrev pub Types : Type 0
Types = List ValType

-- one value for each value column
abbrev pub Row : Type 0
Row = List Value

-- the row as the types read it, which is the sum of it alone: of their length, with values of their ranges
abbrev pub fitted : Types → Row → Row
fitted ts row = row_plus ts (row_zero ts) row

-- the row is not the default one, and is as the types read it
pub record IsKept (ts : Types) (row : Row) : Type 0 where
  pub not_default : row_is_zero ts row ≡ false
  pub within : fitted ts row ≡ row

-- each row is one that a table keeps
unfoldable pub AllKept : {K : Type 0} → Types → List (Keyed K) → Type 0
AllKept ts [] = Unit {0}
AllKept ts (e ∷ es) = IsKept ts e.row × AllKept ts es

-- each row has one value of each type
unfoldable pub all_have : {K : Type 0} → Types → List (Keyed K) → Bool
all_have ts [] = true
all_have ts (e ∷ es) = row_has ts e.row && all_have ts es

-- each key of the list has the property
unfoldable pub AllKeys : {K : Type 0} → (K → Type 0) → List (Keyed K) → Type 0
AllKeys P [] = Unit {0}
AllKeys P (e ∷ es) = P e.key × AllKeys P es

-- the entries with other keys
abbrev pub with_keys : {K L : Type 0} → (K → L) → List (Keyed K) → List (Keyed L)
with_keys {K} {L} h es = map {A = Keyed K} {B = Keyed L} (λ e. record { key = h e.key; row = e.row }) es

module _ {K : Type 0} (R : K → K → Ordering) where
  -- the keys are one
  unfoldable pub same_key : K → K → Bool
  same_key a b = is_eq (R a b)

  -- the key a is before b
  unfoldable pub before : K → K → Bool
  before a b = is_lt (R a b)

  -- the sum of all rows that are listed with the key
  unfoldable pub at : Types → List (Keyed K) → K → Row
  at ts [] k = row_zero ts
  at ts (e ∷ es) k = if same_key k e.key then row_plus ts e.row (at ts es k) else at ts es k

  -- two lists have the same row at each key
  pub record SameAt (ts : Types) (xs ys : List (Keyed K)) : Type 0 where
    pub same : (k : K) → at ts xs k ≡ at ts ys k

  -- each key of the list is past k
  unfoldable pub is_below : K → List (Keyed K) → Bool
  is_below k [] = true
  is_below k (e ∷ es) = before k e.key && is_below k es

  -- the keys rise strictly
  unfoldable pub rises : List (Keyed K) → Bool
  rises [] = true
  rises (e ∷ es) = is_below e.key es && rises es

  -- a table: each key once, in rising order, and no default row
  pub record IsTable (ts : Types) (es : List (Keyed K)) : Type 0 where
    pub rising : rises es ≡ true
    pub kept : AllKept ts es

  -- one more key among keys in rising order
  unfoldable pub key_put : K → List K → List K
  key_put k [] = k ∷ []
  key_put k (x ∷ xs) = if before k x then k ∷ x ∷ xs else (if same_key k x then x ∷ xs else x ∷ key_put k xs)

  -- the keys of a list, each once, in rising order
  unfoldable pub key_set : List (Keyed K) → List K
  key_set [] = []
  key_set (e ∷ es) = key_put e.key (key_set es)

  -- what the list has at these keys, without default rows
  unfoldable pub at_keys : Types → List (Keyed K) → List K → List (Keyed K)
  at_keys ts es [] = []
  at_keys ts es (k ∷ ks) = if row_is_zero ts (at ts es k) then at_keys ts es ks else record { key = k; row = at ts es k } ∷ at_keys ts es ks

  -- the table whose row at each key is the sum of all rows listed with it
  unfoldable pub total : Types → List (Keyed K) → List (Keyed K)
  total ts es = at_keys ts es (key_set es)

-- the entries are a table of the types
pub record IsTypedList {K : Type 0} (R : K → K → Ordering) (ts : Types) (es : List (Keyed K)) : Type 0 where
  pub table : IsTable R ts es
  pub has : all_have ts es ≡ true
