-- Names among those of definitions, of pairs, and of columns under other names.
use Rattle.std.specs.Prelude.{◌≡◌, Bool, ◌&&◌, ◌||◌, List, [], ◌∷◌, ◌++◌, map}
use Rattle.std.proofs.Common.{refl, sym, ap, ◌∙◌}
use Rattle.std.specs.List.{list_any, list_all}
use Rattle.std.specs.Str.{bytes_eq}
use Rattle.lara_data.specs.declared.arg.Def.{Def}
use Rattle.lara_data.specs.declared.arg.NamePair.{NamePair}
use Rattle.lara_data.specs.declared.table_type.KeyCol.{KeyCol}
use Rattle.lara_data.specs.declared.table_type.ValCol.{ValCol}
use Rattle.lara_data.specs.Extensions.{new_name, renamed_columns}
use Rattle.lara_data.specs.TableTypes.{Columns, key_names, val_names}
use Rattle.lara_data.specs.TypeRules.{def_names, old_names, names_of}
use Rattle.lara_data.specs.Names.{Name, has, among, same_name, distinct}

has_named : {A : Type 0} (f : A → Name) (xs : List A) (n : Name) → has (map f xs) n ≡ list_any (λ x. bytes_eq n (f x)) xs
unfolding has same_name
has_named f [] n = refl
has_named f (x ∷ xs) n = λ i. bytes_eq n (f x) || has_named f xs n i

pub has_def_name : (ds : List Def) (n : Name) → has (def_names ds) n ≡ list_any (λ d. bytes_eq n d.col.name) ds
has_def_name ds n = has_named (λ (d : Def). d.col.name) ds n

pub has_old_name : (ps : List NamePair) (n : Name) → has (old_names ps) n ≡ list_any (λ p. bytes_eq n p.old) ps
has_old_name ps n = has_named (λ (p : NamePair). p.old) ps n

pub old_names_among : (ns : List Name) (ps : List NamePair) → among ns (old_names ps) ≡ list_all (λ p. has ns p.old) ps
unfolding among
old_names_among ns [] = refl
old_names_among ns (p ∷ ps) = ap (λ b. has ns p.old && b) (old_names_among ns ps)

module _ (ps : List NamePair) where
  pub has_new_key_name : (keys : List KeyCol) (n : Name) → has (map (λ (k : KeyCol). new_name ps k.name) keys) n ≡ list_any (λ k. bytes_eq n (new_name ps k.name)) keys
  has_new_key_name keys n = has_named (λ (k : KeyCol). new_name ps k.name) keys n

  pub has_new_val_name : (vals : List ValCol) (n : Name) → has (map (λ (v : ValCol). new_name ps v.name) vals) n ≡ list_any (λ v. bytes_eq n (new_name ps v.name)) vals
  has_new_val_name vals n = has_named (λ (v : ValCol). new_name ps v.name) vals n

  new_key_names : (keys : List KeyCol) → key_names (map {A = KeyCol} {B = KeyCol} (λ k. record { name = new_name ps k.name; ty = k.ty }) keys) ≡ map (λ (k : KeyCol). new_name ps k.name) keys
  new_key_names [] = refl
  new_key_names (k ∷ keys) = ap (λ ns. new_name ps k.name ∷ ns) (new_key_names keys)

  new_val_names : (vals : List ValCol) → val_names (map {A = ValCol} {B = ValCol} (λ v. record { name = new_name ps v.name; ty = v.ty }) vals) ≡ map (λ (v : ValCol). new_name ps v.name) vals
  new_val_names [] = refl
  new_val_names (v ∷ vals) = ap (λ ns. new_name ps v.name ∷ ns) (new_val_names vals)

  -- the names of the columns under their new names
  new_columns : (c : Columns) → names_of (renamed_columns ps c) ≡ map (λ (k : KeyCol). new_name ps k.name) c.keys ++ map (λ (v : ValCol). new_name ps v.name) c.vals
  unfolding renamed_columns
  new_columns c = λ i. new_key_names c.keys i ++ new_val_names c.vals i

  pub apart_by : (c : Columns) (keys : List KeyCol) (vals : List ValCol) (b : Bool) → keys ≡ c.keys → vals ≡ c.vals → b ≡ distinct (map (λ (k : KeyCol). new_name ps k.name) keys ++ map (λ (v : ValCol). new_name ps v.name) vals) → b ≡ distinct (names_of (renamed_columns ps c))
  apart_by c keys vals b k v e = e ∙ (λ i. distinct (map (λ (k : KeyCol). new_name ps k.name) (k i) ++ map (λ (v : ValCol). new_name ps v.name) (v i))) ∙ ap distinct (sym (new_columns c))
