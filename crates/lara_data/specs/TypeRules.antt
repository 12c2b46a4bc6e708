-- The types of operators: the rules in their order, and the columns where all are met.
use Rattle.std.specs.Prelude.{◌≡◌, ◌<◌, Bool, false, ◌&&◌, ◌||◌, not, nat_lt, if◌then◌else◌, List, [], ◌∷◌, ◌++◌, map, length, true, Result, Ok, Err}
use Rattle.std.specs.List.{list_any}
use Rattle.lara_key.specs.Keys.{same_key_type}
use Rattle.lara_data.specs.declared.refusal.Kind.{Kind}
use Rattle.lara_data.specs.declared.refusal.Kind.TheVariants.{NoName, NameTwice, TooManyColumns, TypesDiffer, NoCommonValue, NotAKey}
use Rattle.lara_data.specs.declared.table_type.ColumnKind.{ColumnKind}
use Rattle.lara_data.specs.declared.table_type.ColumnKind.TheVariants.{Key, Val}
use Rattle.lara_data.specs.declared.table_type.KeyCol.{KeyCol}
use Rattle.lara_data.specs.declared.table_type.ValCol.{ValCol}
use Rattle.lara_data.specs.TableTypes.{Columns, key_names, column_names, most_columns}
use Rattle.lara_data.specs.Names.{Name, same_name, has, among, distinct}
use Rattle.lara_semiring.specs.Values.{same_val_type}
use Rattle.lara_data.specs.Vals.{Vals}
use Rattle.lara_data.specs.Algebra.{common_vals, join_columns, union_columns, agg_columns}
use Rattle.lara_data.specs.Extensions.{each_columns, renamed_columns}
use Rattle.lara_data.specs.ExprTypes.{key_expr_type, val_expr_type, same_expr_type, expr_type}
use Rattle.lara_data.specs.declared.arg.Def.{Def}
use Rattle.lara_data.specs.declared.arg.KeyDef.{KeyDef}
use Rattle.lara_data.specs.declared.arg.NamePair.{NamePair}
use Rattle.lara_data.specs.declared.expr.Expr.{Expr}
use Rattle.lara_data.specs.declared.expr_val.ExprType.{ExprType}
use Rattle.lara_data.specs.declared.expr_val.ExprType.TheVariants.{Flag}
use Rattle.lara_data.specs.declared.order.EachOp.{EachOp}
use Rattle.lara_data.specs.declared.order.EachOp.TheVariants as each
use Rattle.lara_base.specs.Results.{◌>>=◌}

-- the columns of an operator's result, or the kind of the first rule that is broken
abbrev pub Typing : Type 0
Typing = Result Columns Kind

-- a column: its name, and what it is
pub record Column : Type 0 where
  pub name : Name
  pub kind : ColumnKind

-- a key column
abbrev pub key_column : KeyCol → Column
key_column k = record { name = k.name; kind = Key k.ty }

-- a value column
abbrev pub val_column : ValCol → Column
val_column v = record { name = v.name; kind = Val v.ty }

-- the columns of a type, keys first
abbrev pub all_columns : Columns → List Column
all_columns c = map key_column c.keys ++ map val_column c.vals

-- both are key columns, or both value columns, of one type
abbrev pub same_kind : ColumnKind → ColumnKind → Bool
same_kind (Key t) (Key u) = same_key_type t u
same_kind (Val t) (Val u) = same_val_type t u
same_kind x y = false

-- the columns have one name and are not the same
abbrev pub clash : Column → Column → Bool
clash x y = same_name x.name y.name && not (same_kind x.kind y.kind)

-- a column of the type has the name and is another
abbrev pub clashes : Columns → Column → Bool
clashes c x = list_any (clash x) (all_columns c)

-- a name stands for one thing in one type and for another in the other
unfoldable pub types_differ : Columns → Columns → Bool
types_differ a b = list_any (clashes b) (all_columns a)

-- there is no value column
abbrev pub is_none : Vals → Bool
is_none vs = not (nat_lt 0 (length vs))

-- more key columns or more value columns than a table may have
unfoldable pub too_many : Columns → Bool
too_many c = nat_lt most_columns (length c.keys) || nat_lt most_columns (length c.vals)

-- the columns, unless there are more than a table may have
abbrev pub few_enough : Columns → Typing
few_enough c = if too_many c then Err TooManyColumns else Ok c

-- a join: no types differ, a value column is common, and the columns are few enough
unfoldable pub join_type : Columns → Columns → Typing
join_type a b =
    if types_differ a b
    then Err TypesDiffer
    else (if is_none (common_vals a.vals b.vals) then Err NoCommonValue else few_enough (join_columns a b))

-- a union: no types differ, and the columns are few enough
unfoldable pub union_type : Columns → Columns → Typing
union_type a b = if types_differ a b then Err TypesDiffer else few_enough (union_columns a b)

-- an agg: each of the names is a key column's, and none stands twice
unfoldable pub agg_type : Columns → List Name → Typing
agg_type a ks =
    if among (key_names a.keys) ks
    then (if distinct ks then Ok (agg_columns a ks) else Err NameTwice)
    else Err NotAKey

-- ---- expressions

-- the types of a map's expressions, or the kind of the first rule that one breaks
unfoldable pub def_types : Columns → List Def → Result (List ExprType) Kind
def_types a [] = Ok []
def_types a (d ∷ ds) = do
  t ← expr_type a d.expr
  ts ← def_types a ds
  Ok (t ∷ ts)

-- each expression is of its column's type
unfoldable pub defs_fit : List Def → List ExprType → Bool
defs_fit (d ∷ ds) (t ∷ ts) = same_expr_type (val_expr_type d.col.ty) t && defs_fit ds ts
defs_fit ds ts = true

-- the names that a map defines
abbrev pub def_names : List Def → List Name
def_names ds = map (λ d. d.col.name) ds

-- the rules of a map's types, behind those of its expressions
abbrev pub map_fits : Columns → List Def → List ExprType → Typing
map_fits a ds ts = if defs_fit ds ts then few_enough (each_columns (each.Map ds) a) else Err TypesDiffer

-- a map of one definition at least: no defined name is a key column's or stands twice, each expression has a type, each is
-- of its column's type, and the columns are few enough
unfoldable pub map_type : Columns → List Def → Typing
map_type a ds = if distinct (key_names a.keys ++ def_names ds) then (def_types a ds >>= map_fits a ds) else Err NameTwice

-- a filter: its test has a type, and is a flag
unfoldable pub filter_type : Columns → Expr → Typing
filter_type a e = do
  t ← expr_type a e
  if same_expr_type t Flag then Ok a else Err TypesDiffer

-- the rules of a promote's type, behind those of its expression
abbrev pub promote_fits : Columns → KeyDef → ExprType → Typing
promote_fits a d t = if same_expr_type (key_expr_type d.col.ty) t then few_enough (each_columns (each.Promote d) a) else Err TypesDiffer

-- a promote: its name is no column's, its expression has a type, which is its column's, and the columns are few enough
unfoldable pub promote_type : Columns → KeyDef → Typing
promote_type a d = if has (column_names a.keys a.vals) d.col.name then Err NameTwice else (expr_type a d.expr >>= promote_fits a d)

-- ---- names

-- the names that a rename replaces
abbrev pub old_names : List NamePair → List Name
old_names ps = map (λ p. p.old) ps

-- the names of all columns, keys first
abbrev pub names_of : Columns → List Name
names_of c = column_names c.keys c.vals

-- a rename: each old name is a column's, none stands twice, and no two columns get one name
unfoldable pub rename_type : Columns → List NamePair → Typing
rename_type a ps =
    if among (names_of a) (old_names ps)
    then (if distinct (old_names ps) && distinct (names_of (renamed_columns ps a)) then Ok (renamed_columns ps a) else Err NameTwice)
    else Err NoName

-- ---- extensions

-- the extension has these columns over a table's by its rules; applies, which ask the plugins, have none yet
abbrev pub EachTyped : Columns → EachOp → Columns → Type 0
EachTyped a (each.Map ds) ty = (0 < length ds) × (map_type a ds ≡ Ok ty)
EachTyped a (each.Filter e) ty = filter_type a e ≡ Ok ty
EachTyped a (each.Promote d) ty = promote_type a d ≡ Ok ty
EachTyped a (each.Apply call) ty = ⊥
