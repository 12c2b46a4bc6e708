-- One name more in a map of newest tables.
use Rattle.std.specs.Prelude.{◌≡◌, ℕ, ◌<◌, ◌≤◌, ◌+◌, cond, ◌∷◌, ◌++◌, List, [], Some, None, take, length}
use Rattle.std.proofs.Common.{refl, sym, ap, ◌∙◌, subst, get_or}
use Rattle.std.proofs.lemmas.List.{take_more, take_all}
use Rattle.std.proofs.lemmas.Grind.{fold-append}
use Rattle.std.specs.Str.{bytes_eq}
use Rattle.std.specs.Map.{lookup}
use Rattle.indexmap.specs.IndexMap.{IndexMap, Updates, IsEmpty}
use Rattle.lara_data.specs.Names.{Name, same_name}
use Rattle.lara_data.specs.Newest.{newer, newest}
use Rattle.lara_data.specs.Sequences.{turned_name}
use Rattle.lara_data.specs.Tables.{Table}
use Rattle.lara_data.specs.Denotations.{NamedTable, table_named}
use Rattle.lara_data.specs.Fits.{TablesTyped}
use Rattle.lara_data.specs.TypedTables.{IsTypedTable}
use Rattle.lara_assoc.specs.Newest.{HasNewest}

table_named-none : (n : Name) → table_named n [] ≡ None
unfolding newest
table_named-none n = refl

table_named-more : (n : Name) (ts : List NamedTable) (d : NamedTable) → table_named n (ts ++ d ∷ []) ≡ cond (same_name n d.name) (Some d.table) (table_named n ts)
unfolding newest
table_named-more n ts d = fold-append (newer (λ (d : NamedTable). d.name) (λ (d : NamedTable). d.table) n) None ts (d ∷ [])

pub newest_none : {S : Type 0} (map : IndexMap Name Table S) → IsEmpty map → HasNewest map []
newest_none map e = record { newest = λ n. ap (λ (es : List (Name × Table)). lookup (bytes_eq n) es) e ∙ sym (table_named-none n) }

pub newest_more : {S : Type 0} (old new : IndexMap Name Table S) (ts : List NamedTable) (n : Name) (t : Table) → HasNewest old ts → Updates bytes_eq old new n (Some t) → HasNewest new (ts ++ record { name = n; table = t } ∷ [])
newest_more old new ts n t h u =
    record {
      newest = λ m.
          u.0 m
          ∙ (λ i. cond (sym (turned_name n m) i) (Some t) (h.newest m i))
          ∙ sym (table_named-more m ts (record { name = n; table = t }));
    }

-- ---- tables of their types

typed_more : (ds : List NamedTable) (d : NamedTable) → TablesTyped ds → IsTypedTable d.table → TablesTyped (ds ++ d ∷ [])
unfolding TablesTyped
typed_more [] d h t = (t, tt)
typed_more (c ∷ ds) d h t = (h.0, typed_more ds d h.1 t)

pub none_typed : (ds : List NamedTable) → TablesTyped (take 0 ds)
unfolding TablesTyped
none_typed ds = tt

-- a turn of a loop over tables
pub typed_step : (ds : List NamedTable) (i : ℕ) (d : NamedTable) → i < length ds → d ≡ get_or ds i d → TablesTyped (take i ds) → IsTypedTable d.table → TablesTyped (take (i + 1) ds)
typed_step ds i d l is h t = subst (λ (x : List NamedTable). TablesTyped x) (sym (take_more ds i d l ∙ ap (λ (x : NamedTable). take i ds ++ x ∷ []) (sym is))) (typed_more (take i ds) d h t)

pub all_typed : (ds : List NamedTable) (i : ℕ) → length ds ≤ i → TablesTyped (take i ds) → TablesTyped ds
all_typed ds i past h = subst (λ (x : List NamedTable). TablesTyped x) (take_all i ds past) h
