-- Lists of named things, of which the last of a name is meant.
use Rattle.std.specs.Prelude.{fold, if◌then◌else◌, List, Option, Some, None}
use Rattle.lara_data.specs.Names.{Name, same_name}

-- what the thing is, where it has the name, else what was found before
abbrev pub newer : {A B : Type 0} → (A → Name) → (A → B) → Name → Option B → A → Option B
newer name_of value_of n found x = if same_name n (name_of x) then Some (value_of x) else found

-- what the last thing of the name is
unfoldable pub newest : {A B : Type 0} → (A → Name) → (A → B) → Name → List A → Option B
newest name_of value_of n xs = fold (newer name_of value_of n) None xs
