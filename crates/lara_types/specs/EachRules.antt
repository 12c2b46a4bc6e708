-- The rules of maps, filters, promotes and renames, in their order.
use Rattle.std.specs.Prelude.{ℕ, not, List, [], ◌∷◌, ◌++◌, map}
use Rattle.lara_data.specs.declared.expr_val.ExprType.TheVariants.{Flag}
use Rattle.lara_data.specs.declared.order.EachOp.TheVariants as each
use Rattle.lara_data.specs.declared.refusal.Kind.TheVariants.{NoName, NameTwice, TooManyColumns, TypesDiffer}
use Rattle.lara_data.specs.ExprTypes.{key_expr_type, val_expr_type}
use Rattle.lara_data.specs.Extensions.{each_columns, renamed_columns}
use Rattle.lara_data.specs.Names.{has, distinct}
use Rattle.lara_data.specs.TableTypes.{Columns, key_names, are_columns}
use Rattle.lara_data.specs.TypeRules.{too_many, names_of}
use Rattle.lara_syntax.specs.declared.ast.AstName.{AstName}
use Rattle.lara_syntax.specs.declared.ast_expr.AstExpr.{AstExpr}
use Rattle.lara_syntax.specs.declared.ast_part.AstDef.{AstDef}
use Rattle.lara_syntax.specs.declared.ast_part.AstKeyDef.{AstKeyDef}
use Rattle.lara_syntax.specs.declared.ast_part.AstPair.{AstPair}
use Rattle.lara_types.specs.ExprRules.{is_of, expr_rules, expr_typing, first_word}
use Rattle.lara_types.specs.NameRules.{once_rules}
use Rattle.lara_types.specs.Rules.{Rule, rule}
use Rattle.lara_types.specs.Written.{plain_defs, plain_key_def, plain_pairs}

-- ---- maps

-- the names that a map defines
abbrev pub defined : List AstDef → List AstName
defined ds = map (λ d. d.col.name) ds

-- what each expression is refused for
unfoldable pub exprs_rules : Columns → List AstDef → List Rule
exprs_rules a [] = []
exprs_rules a (d ∷ ds) = expr_rules a d.expr ++ exprs_rules a ds

-- each expression is of its column's type
unfoldable pub fit_rules : Columns → List AstDef → List Rule
fit_rules a [] = []
fit_rules a (d ∷ ds) = rule (first_word d.expr.at d.expr.form) TypesDiffer (is_of (val_expr_type d.col.ty) (expr_typing a d.expr)) ∷ fit_rules a ds

-- the columns of a map
abbrev pub map_columns : Columns → List AstDef → Columns
map_columns a ds = each_columns (each.Map (plain_defs ds)) a

-- Behind the names of a map, whose first word is at this place: what the expressions are refused for, then the types of all, and
-- then the columns are a table's. Where the names differ and there is a definition, as the grammar has it, they are none only
-- where they are too many.
abbrev pub after_names : ℕ → Columns → List AstDef → List Rule
after_names at a ds = exprs_rules a ds ++ (fit_rules a ds ++ rule at TooManyColumns (are_columns (map_columns a ds).keys (map_columns a ds).vals) ∷ [])

-- a map of a table with these columns: no name is a key column's or defined before, and then the other rules
abbrev pub map_rules : ℕ → Columns → List AstDef → List Rule
map_rules at a ds = once_rules (key_names a.keys) (defined ds) ++ after_names at a ds

-- ---- filters

-- a filter: what its test is refused for, and then that it is a flag
abbrev pub filter_rules : ℕ → Columns → AstExpr → List Rule
filter_rules at a e = expr_rules a e ++ rule at TypesDiffer (is_of Flag (expr_typing a e)) ∷ []

-- ---- promotes

-- a promote: its name is no column's, then what the expression is refused for, then its type, then the number of columns
abbrev pub promote_rules : ℕ → Columns → AstKeyDef → List Rule
promote_rules at a d =
    rule at NameTwice (not (has (names_of a) d.col.name.name))
    ∷ (expr_rules a d.expr
    ++ (rule at TypesDiffer (is_of (key_expr_type d.col.ty) (expr_typing a d.expr))
    ∷ rule at TooManyColumns (not (too_many (each_columns (each.Promote (plain_key_def d)) a)))
    ∷ []))

-- ---- renames

-- the names that a rename replaces
abbrev pub olds : List AstPair → List AstName
olds ps = map (λ p. p.old) ps

-- each name is a column's
unfoldable pub column_name_rules : Columns → List AstName → List Rule
column_name_rules a [] = []
column_name_rules a (n ∷ ns) = rule n.at NoName (has (names_of a) n.name) ∷ column_name_rules a ns

-- a rename: all old names are asked for being a column's, then all for standing once, and then no two columns get one name
abbrev pub rename_rules : ℕ → Columns → List AstPair → List Rule
rename_rules at a ps =
    column_name_rules a (olds ps)
    ++ (once_rules [] (olds ps)
    ++ rule at NameTwice (distinct (names_of (renamed_columns (plain_pairs ps) a))) ∷ [])
