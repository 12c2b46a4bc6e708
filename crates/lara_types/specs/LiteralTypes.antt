-- The names of a literal's columns, one after the other.
use Rattle.std.specs.Prelude.{ℕ, if◌then◌else◌, List, [], ◌∷◌, ◌++◌, Ok}
use Rattle.lara_data.specs.declared.refusal.Kind.TheVariants.{NameTwice}
use Rattle.lara_syntax.specs.declared.ast.AstName.{AstName}
use Rattle.lara_syntax.specs.declared.ast.AstKeyCol.{AstKeyCol}
use Rattle.lara_syntax.specs.declared.ast.AstValCol.{AstValCol}
use Rattle.lara_data.specs.Names.{has}
use Rattle.lara_base.specs.Results.{◌>>=◌}
use Rattle.lara_types.specs.Walks.{walk}
use Rattle.lara_data.specs.Judgements.{Judged, refused}

-- one name more, which has not stood before
abbrev pub one_more_name : List (List ℕ) → AstName → Judged (List (List ℕ))
one_more_name names n = if has names n.name then refused n.at NameTwice else Ok (names ++ n.name ∷ [])

-- the name of a key column
abbrev pub key_col_name : AstKeyCol → List ℕ
key_col_name c = c.name.name

-- the name of a value column
abbrev pub val_col_name : AstValCol → List ℕ
val_col_name c = c.name.name

-- the name of one key column more
abbrev pub one_more_key : List (List ℕ) → AstKeyCol → Judged (List (List ℕ))
one_more_key names c = one_more_name names c.name

-- the name of one value column more
abbrev pub one_more_val : List (List ℕ) → AstValCol → Judged (List (List ℕ))
one_more_val names c = one_more_name names c.name

-- the names of all columns, keys first, which differ
unfoldable pub distinct_names : List AstKeyCol → List AstValCol → Judged (List (List ℕ))
distinct_names keys vals = do
  names ← walk one_more_key [] keys
  walk one_more_val names vals
