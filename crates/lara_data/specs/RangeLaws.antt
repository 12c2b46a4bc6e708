-- What it says that a table is in range: of each key column and of each row.
use Rattle.std.specs.Prelude.{◌≡◌, true, false, ◌||◌, not, List, [], ◌∷◌}
use Rattle.std.proofs.Common.{refl, ap}
use Rattle.std.specs.List.{All, list_all, list_any}
use Rattle.std.proofs.lemmas.Bool.{and_parts, and_from, or_parts}
use Rattle.std.proofs.lemmas.List.Sums.{AllPass-from_list_all, list_all-from_AllPass}
use Rattle.lara_semiring.specs.declared.value.ValType.{ValType}
use Rattle.lara_semiring.specs.Rows.{row_is_over}
use Rattle.lara_key.specs.Keys.{key_is_over}
use Rattle.lara_data.specs.TableTypes.{types}
use Rattle.lara_data.specs.Names.{Tuple, not_true}
use Rattle.lara_data.specs.Tables.{Entry, Table, is_entry_in_range, is_in_range}

-- no key column is past the range of its type, and the row has no value that is
pub record EntryInRange (ts : List ValType) (e : Entry) : Type 0 where
  pub key : All (λ v. key_is_over v ≡ false) e.key
  pub row : row_is_over ts e.row ≡ false

-- each entry is in range
abbrev pub InRange : Table → Type 0
InRange t = All (EntryInRange (types t.ty.vals)) t.entries

-- no column of a key is over where the test finds none
none_over : (k : Tuple) → list_any key_is_over k ≡ false → list_all (λ v. not (key_is_over v)) k ≡ true
none_over [] h = refl
none_over (v ∷ k) h =
    let both = or_parts (key_is_over v) (list_any key_is_over k) h in
    and_from (not (key_is_over v)) (list_all (λ v. not (key_is_over v)) k) (ap not both.0) (none_over k both.1)

all_within : (k : Tuple) → list_all (λ v. not (key_is_over v)) k ≡ true → list_any key_is_over k ≡ false
all_within [] h = refl
all_within (v ∷ k) h =
    let both = and_parts (not (key_is_over v)) (list_all (λ v. not (key_is_over v)) k) h in
    λ i. not_true (key_is_over v) both.0 i || all_within k both.1 i

entry_in_range : (ts : List ValType) (e : Entry) → is_entry_in_range ts e ≡ true → EntryInRange ts e
entry_in_range ts e h =
    let both = and_parts (not (list_any key_is_over e.key)) (not (row_is_over ts e.row)) h in
    let each = AllPass-from_list_all (λ v. not (key_is_over v)) e.key (none_over e.key (not_true (list_any key_is_over e.key) both.0)) in
    record { key = λ k d l. not_true _ (each k d l); row = not_true (row_is_over ts e.row) both.1 }

in_range_entry : (ts : List ValType) (e : Entry) → EntryInRange ts e → is_entry_in_range ts e ≡ true
in_range_entry ts e h =
    let none = all_within e.key (list_all-from_AllPass (λ v. not (key_is_over v)) e.key (λ k d l. ap not (h.key k d l))) in
    and_from (not (list_any key_is_over e.key)) (not (row_is_over ts e.row)) (ap not none) (ap not h.row)

-- a table is in range exactly where no key column and no row of it is past the range
pub is_in_range-all : (t : Table) → is_in_range t ≡ true → InRange t
unfolding is_in_range
is_in_range-all t h k d l = entry_in_range (types t.ty.vals) _ (AllPass-from_list_all (is_entry_in_range (types t.ty.vals)) t.entries h k d l)

pub all-is_in_range : (t : Table) → InRange t → is_in_range t ≡ true
unfolding is_in_range
all-is_in_range t h = list_all-from_AllPass (is_entry_in_range (types t.ty.vals)) t.entries (λ k d l. in_range_entry (types t.ty.vals) _ (h k d l))
