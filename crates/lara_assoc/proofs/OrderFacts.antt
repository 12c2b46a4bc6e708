-- A table in the order of its own key columns is the table.
use Rattle.std.proofs.Common.{◌≡◌, Bool, true, List, [], ◌∷◌, length, refl, sym, ap, ◌∙◌}
use Rattle.std.specs.Prelude.{◌↔◌, IsTrue}
use Rattle.std.specs.Str.{bytes_eq}
use Rattle.std.proofs.lemmas.Bool.{and_from, and_parts}
use Rattle.std.proofs.lemmas.List.{length-map}
use Rattle.std.proofs.lemmas.Slice.Eq.{bytes_eq-Decides}
use Rattle.lara_key.specs.Keys.{tuple_has_length}
use Rattle.lara_data.specs.declared.table_type.KeyCol.{KeyCol}
use Rattle.lara_data.specs.TableTypes.{key_names, key_types}
use Rattle.lara_data.specs.KeyedTables.{AllKeys}
use Rattle.lara_data.specs.Names.{Name, Tuple, distinct, cut_itself}
use Rattle.lara_data.specs.Tables.{Entries, Table}
use Rattle.lara_data.specs.Algebra.{heading, ordered}
use Rattle.lara_data.specs.TypedTables.{KeyHas, IsTypedTable}
use Rattle.lara_data.specs.DistinctColumns.{distinct_key_names}
use Rattle.lara_data.specs.WholeKeys.{IsWhole, agg_itself}
use Rattle.lara_assoc.specs.OwnOrders.{are_names}

names_are : (ks : List KeyCol) (ns : List Name) → are_names ks ns ≡ true → ns ≡ key_names ks
names_are [] [] h = refl
names_are [] (n ∷ ns) h = cc
names_are (k ∷ ks) [] h = cc
names_are (k ∷ ks) (n ∷ ns) h =
    let p = and_parts (bytes_eq n k.name) (are_names ks ns) h in
    λ i. (bytes_eq-Decides n k.name).0 p.0 i ∷ names_are ks ns p.1 i

own_names : (ks : List KeyCol) → are_names ks (key_names ks) ≡ true
own_names [] = refl
own_names (k ∷ ks) = and_from (bytes_eq k.name k.name) (are_names ks (key_names ks)) ((bytes_eq-Decides k.name k.name).1 refl) (own_names ks)

-- what the test of an order says
pub own_order : (ks : List KeyCol) (order : List Name) (b : Bool) → b ≡ are_names ks order → (IsTrue b ↔ (order ≡ key_names ks))
own_order ks order b e = (λ h. names_are ks order (sym e ∙ h), λ h. e ∙ ap (are_names ks) h ∙ own_names ks)

key_length : (keys : List KeyCol) (x : Tuple) → KeyHas keys x → length x ≡ length (key_names keys)
key_length keys x p = tuple_has_length (key_types keys) x p ∙ length-map keys (λ (k : KeyCol). k.ty) ∙ sym (length-map keys (λ (k : KeyCol). k.name))

all_whole : (keys : List KeyCol) (es : Entries) → distinct (key_names keys) ≡ true → AllKeys (KeyHas keys) es → AllKeys (IsWhole (key_names keys)) es
unfolding AllKeys
all_whole keys [] d h = tt
all_whole keys (e ∷ es) d h = (cut_itself (key_names keys) e.key d (key_length keys e.key h.0), all_whole keys es d h.1)

pub ordered_itself : (t : Table) → IsTypedTable t → ordered t (key_names t.ty.keys) ≡ t.entries
unfolding ordered
ordered_itself t h = agg_itself (heading t.ty) t.entries h.table (all_whole t.ty.keys t.entries (distinct_key_names t.ty.keys t.ty.vals h.columns) h.keys)

-- the same, where the test says so
pub ordered_own : (t u : Table) (order : List Name) (b : Bool) → u ≡ t → IsTypedTable t → b ≡ are_names t.ty.keys order → IsTrue b → ordered u order ≡ u.entries
ordered_own t u order b is h e y = (λ i. ordered (is i) (names_are t.ty.keys order (sym e ∙ y) i)) ∙ ordered_itself t h ∙ ap (λ (x : Table). x.entries) (sym is)
