-- Rules of names, one after the other.
use Rattle.std.specs.Prelude.{not, List, [], ◌∷◌, ◌++◌}
use Rattle.lara_data.specs.declared.refusal.Kind.TheVariants.{NameTwice, NotAKey}
use Rattle.lara_data.specs.declared.table_type.KeyCol.{KeyCol}
use Rattle.lara_data.specs.Names.{Name, has}
use Rattle.lara_data.specs.TableTypes.{key_names}
use Rattle.lara_syntax.specs.declared.ast.AstName.{AstName}
use Rattle.lara_types.specs.Rules.{Rule, rule}

-- each name is a key column's
unfoldable pub key_rules : List KeyCol → List AstName → List Rule
key_rules keys [] = []
key_rules keys (n ∷ ns) = rule n.at NotAKey (has (key_names keys) n.name) ∷ key_rules keys ns

-- no name is among those before it
unfoldable pub once_rules : List Name → List AstName → List Rule
once_rules before [] = []
once_rules before (n ∷ ns) = rule n.at NameTwice (not (has before n.name)) ∷ once_rules (before ++ n.name ∷ []) ns
