-- The typed script of a tree, or the first refusal: that of the first statement that has one.
use Rattle.std.specs.Prelude.{List, [], ◌∷◌, ◌++◌, Option, Some, None, Ok}
use Rattle.lara_data.specs.declared.refusal.Kind.TheVariants.{NoName}
use Rattle.lara_data.specs.declared.schema.Schema.{Schema}
use Rattle.lara_data.specs.declared.script.Statement.{Statement}
use Rattle.lara_data.specs.declared.script.Statement.TheVariants.{Assign, Print, Store}
use Rattle.lara_data.specs.Names.{Name}
use Rattle.lara_data.specs.Plugins.{Plugins}
use Rattle.lara_data.specs.TableTypes.{Columns, key_names}
use Rattle.lara_data.specs.TypedScripts.{known_after}
use Rattle.lara_data.specs.TypedTrees.{type_named}
use Rattle.lara_syntax.specs.declared.ast.Ast.{Ast}
use Rattle.lara_syntax.specs.declared.ast.AstBy.{AstBy}
use Rattle.lara_syntax.specs.declared.ast.AstName.{AstName}
use Rattle.lara_syntax.specs.declared.ast.AstStatement.{AstStatement}
use Rattle.lara_syntax.specs.declared.ast.AstStatement.TheVariants as ast
use Rattle.lara_types.specs.CheckedTrees.{columns_in, checked_node}
use Rattle.lara_types.specs.NodeRules.{known_rules, print_rules}
use Rattle.lara_types.specs.Rules.{by_rules}
use Rattle.lara_types.specs.Written.{plain}
use Rattle.lara_data.specs.Judgements.{Judged}
use Rattle.lara_base.specs.Results.{◌>>=◌}
use Rattle.lara_types.specs.Walks.{walk}

-- the order of a print of these columns: without `by` the declared one
abbrev pub order_in : Columns → Option AstBy → List Name
order_in ty None = key_names ty.keys
order_in ty (Some by) = plain by.names

-- a print of the table of a name, of which this type was found
abbrev pub printed : AstName → Option Columns → Option AstBy → Judged Statement
printed name found by = by_rules (print_rules name found by) (Print name.name (order_in (columns_in found) by))

-- a table of a name, of which this type was found, is stored under another
abbrev pub kept : AstName → Option Columns → AstName → Judged Statement
kept old found new = by_rules (known_rules NoName old found) (Store old.name new.name)

-- a statement, where these names are stored and those assigned
abbrev pub checked_statement : Plugins → List Schema → List Schema → AstStatement → Judged Statement
checked_statement ps stored known (ast.Assign at name node) = do
  table ← checked_node ps stored known node
  Ok (Assign name.name table)
checked_statement ps stored known (ast.Print at name by) = printed name (type_named name.name known) by
checked_statement ps stored known (ast.Store at old new) = kept old (type_named old.name known) new

-- the statements so far, and the names that they assign with their types
pub record Progress : Type 0 where
  pub known : List Schema
  pub statements : List Statement

-- before the first statement
abbrev pub at_start : Progress
at_start = record { known = []; statements = [] }

-- one statement more
abbrev pub one_more : Plugins → List Schema → Progress → AstStatement → Judged Progress
one_more ps stored done statement = do
  s ← checked_statement ps stored done.known statement
  Ok (record { known = known_after done.known s; statements = done.statements ++ s ∷ [] })

-- the typed script of a tree, or the first refusal
unfoldable pub checked : Plugins → List Schema → Ast → Judged (List Statement)
checked ps stored tree = do
  done ← walk (one_more ps stored) at_start tree.statements
  Ok done.statements
