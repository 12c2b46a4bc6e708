-- Names among those of columns.
use Rattle.std.specs.Prelude.{◌≡◌, ◌||◌, List, [], ◌∷◌, map}
use Rattle.std.proofs.Common.{refl}
use Rattle.std.specs.List.{list_any}
use Rattle.std.specs.Str.{bytes_eq}
use Rattle.lara_data.specs.declared.table_type.KeyCol.{KeyCol}
use Rattle.lara_data.specs.declared.table_type.ValCol.{ValCol}
use Rattle.lara_data.specs.TableTypes.{key_names, val_names, column_names}
use Rattle.lara_data.specs.Names.{Name, has, has_append, same_name}

has_named : {A : Type 0} (f : A → Name) (xs : List A) (n : Name) → has (map f xs) n ≡ list_any (λ x. bytes_eq n (f x)) xs
unfolding has same_name
has_named f [] n = refl
has_named f (x ∷ xs) n = λ i. bytes_eq n (f x) || has_named f xs n i

pub has_key_name : (keys : List KeyCol) (n : Name) → has (key_names keys) n ≡ list_any (λ k. bytes_eq n k.name) keys
has_key_name keys n = has_named (λ (k : KeyCol). k.name) keys n

pub has_val_name : (vals : List ValCol) (n : Name) → has (val_names vals) n ≡ list_any (λ v. bytes_eq n v.name) vals
has_val_name vals n = has_named (λ (v : ValCol). v.name) vals n

pub has_column_name : (keys : List KeyCol) (vals : List ValCol) (n : Name) → has (column_names keys vals) n ≡ (has (key_names keys) n || has (val_names vals) n)
has_column_name keys vals n = has_append (key_names keys) (val_names vals) n
