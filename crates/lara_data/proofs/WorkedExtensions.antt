-- Maps, filters, promotes and renames of small tables, worked out by hand from the rules.
use Rattle.std.specs.Prelude.{◌≡◌, ℕ, List, [], ◌∷◌, Ok, Err}
use Rattle.std.proofs.Common.{refl}
use Rattle.lara_key.specs.Keys.{tuple_cmp}
use Rattle.lara_key.specs.declared.key.KeyType.TheVariants as key_ty
use Rattle.lara_key.specs.declared.key.KeyVal.TheVariants as key
use Rattle.lara_semiring.specs.Rows.{row_zero, row_plus, row_is_zero}
use Rattle.lara_semiring.specs.Values.{value_zero, value_plus, value_is_zero}
use Rattle.lara_semiring.specs.declared.value.ValType.TheVariants as ty
use Rattle.lara_semiring.specs.declared.value.Value.TheVariants as value
use Rattle.lara_data.specs.declared.arg.Def.{Def}
use Rattle.lara_data.specs.declared.arg.KeyDef.{KeyDef}
use Rattle.lara_data.specs.declared.arg.NamePair.{NamePair}
use Rattle.lara_data.specs.declared.expr.Expr.{Expr}
use Rattle.lara_data.specs.declared.expr.Expr.TheVariants.{Column, Number, Two, Fun}
use Rattle.lara_data.specs.declared.expr.TwoOp.TheVariants as two
use Rattle.lara_data.specs.declared.expr.FunOp.TheVariants as fun
use Rattle.lara_data.specs.declared.order.EachOp.TheVariants as each
use Rattle.lara_data.specs.declared.refusal.Kind.TheVariants.{NoName, NameTwice, TypesDiffer}
use Rattle.lara_data.specs.declared.table_type.KeyCol.{KeyCol}
use Rattle.lara_data.specs.declared.table_type.ValCol.{ValCol}
use Rattle.lara_data.specs.KeyedTables.{same_key, before, at, key_put, key_set, at_keys, total}
use Rattle.lara_data.specs.TableTypes.{Columns}
use Rattle.lara_data.specs.Names.{Name, same_name, has, read, among, distinct}
use Rattle.lara_data.specs.Tables.{Entries, Table, table_of}
use Rattle.lara_data.specs.Plugins.{Plugins}
use Rattle.lara_data.specs.Extensions.{each_columns, of_each, ext, new_name, renamed_columns, renamed}
use Rattle.lara_data.specs.ExprTypes.{key_column_type, val_column_type, expr_type}
use Rattle.lara_data.specs.ExprValues.{row_column, value_of}
use Rattle.lara_data.specs.TypeRules.{too_many, def_types, defs_fit, map_type, filter_type, promote_type, rename_type}

i : Name
i = 105 ∷ []

j : Name
j = 106 ∷ []

h : Name
h = 104 ∷ []

v : Name
v = 118 ∷ []

d : Name
d = 100 ∷ []

nat : Name → KeyCol
nat n = record { name = n; ty = key_ty.Nat }

count : Name → ValCol
count n = record { name = n; ty = ty.Count }

-- [i: nat : v: count]
columns : Columns
columns = record { keys = nat i ∷ []; vals = count v ∷ [] }

-- 1:3; 2:5
given : Table
given = record { ty = columns; entries = record { key = key.Nat 1 ∷ []; row = value.Count 3 ∷ [] } ∷ record { key = key.Nat 2 ∷ []; row = value.Count 5 ∷ [] } ∷ [] }

twice : Expr
twice = Two two.Mul (Column v) (Number 2)

by_twice : KeyDef
by_twice = record { col = nat h; expr = twice }

-- [i: nat, h: nat : v: count] with 1,6:3 and 2,10:5
measured : Table
measured = record {
  ty = record { keys = nat i ∷ nat h ∷ []; vals = count v ∷ [] };
  entries = record { key = key.Nat 1 ∷ key.Nat 6 ∷ []; row = value.Count 3 ∷ [] } ∷ record { key = key.Nat 2 ∷ key.Nat 10 ∷ []; row = value.Count 5 ∷ [] } ∷ [];
}

-- [j: nat, h: nat : v: count]
moved : Table
moved = record { ty = record { keys = nat j ∷ nat h ∷ []; vals = count v ∷ [] }; entries = measured.entries }

-- dist(h) with dist(j) by an operator, as the column d
distances : Expr → List Def
distances e = record { col = record { name = d; ty = ty.MinPlus }; expr = e } ∷ []

of_h : Expr
of_h = Fun fun.Dist (Column h)

of_j : Expr
of_j = Fun fun.Dist (Column j)

-- [j: nat, h: nat : d: minplus] with these distances
far : ℕ → ℕ → Table
far m n = record {
  ty = record { keys = nat j ∷ nat h ∷ []; vals = record { name = d; ty = ty.MinPlus } ∷ [] };
  entries = record { key = key.Nat 1 ∷ key.Nat 6 ∷ []; row = value.MinPlus m ∷ [] } ∷ record { key = key.Nat 2 ∷ key.Nat 10 ∷ []; row = value.MinPlus n ∷ [] } ∷ [];
}

-- the value column v, made of an expression
made : Expr → List Def
made e = record { col = count v; expr = e } ∷ []

module _ (ps : Plugins) where
  -- the new key column stands behind the others, and the row stays
  promoted : ext ps (each.Promote by_twice) given ≡ measured
  unfolding i j h v d nat count columns given twice by_twice measured moved distances of_h of_j far made ext of_each each_columns table_of value_of row_column total key_set key_put at_keys at before same_key tuple_cmp same_name has read value_zero value_plus value_is_zero row_zero row_plus row_is_zero denote.Hole.Carrier.hidden Rattle.lara_data.specs.declared.expr.Expr.TheBlock.hidden-the_row-Expr-0
  promoted = refl

  -- distances one after the other
  added : ext ps (each.Map (distances (Two two.Mul of_h of_j))) moved ≡ far 7 12
  unfolding i j h v d nat count columns given twice by_twice measured moved distances of_h of_j far made ext of_each each_columns table_of value_of row_column total key_set key_put at_keys at before same_key tuple_cmp same_name has read value_zero value_plus value_is_zero row_zero row_plus row_is_zero denote.Hole.Carrier.hidden Rattle.lara_data.specs.declared.expr.Expr.TheBlock.hidden-the_row-Expr-0
  added = refl

  -- the lesser of two distances
  least : ext ps (each.Map (distances (Two two.Add of_h of_j))) moved ≡ far 1 2
  unfolding i j h v d nat count columns given twice by_twice measured moved distances of_h of_j far made ext of_each each_columns table_of value_of row_column total key_set key_put at_keys at before same_key tuple_cmp same_name has read value_zero value_plus value_is_zero row_zero row_plus row_is_zero denote.Hole.Carrier.hidden Rattle.lara_data.specs.declared.expr.Expr.TheBlock.hidden-the_row-Expr-0
  least = refl

  -- a default row is no entry: 3 counts as nothing here
  vanished : (ext ps (each.Map (made (Two two.Mul (Column v) (Fun fun.Num (Two two.Gt (Column v) (Number 3)))))) given).entries ≡ record { key = key.Nat 2 ∷ []; row = value.Count 5 ∷ [] } ∷ []
  unfolding i j h v d nat count columns given twice by_twice measured moved distances of_h of_j far made ext of_each each_columns table_of value_of row_column total key_set key_put at_keys at before same_key tuple_cmp same_name has read value_zero value_plus value_is_zero row_zero row_plus row_is_zero denote.Hole.Carrier.hidden Rattle.lara_data.specs.declared.expr.Expr.TheBlock.hidden-the_row-Expr-0
  vanished = refl

  -- what is true stays
  passed : (ext ps (each.Filter (Two two.Gt (Column v) (Number 3))) given).entries ≡ record { key = key.Nat 2 ∷ []; row = value.Count 5 ∷ [] } ∷ []
  unfolding i j h v d nat count columns given twice by_twice measured moved distances of_h of_j far made ext of_each each_columns table_of value_of row_column total key_set key_put at_keys at before same_key tuple_cmp same_name has read value_zero value_plus value_is_zero row_zero row_plus row_is_zero denote.Hole.Carrier.hidden Rattle.lara_data.specs.declared.expr.Expr.TheBlock.hidden-the_row-Expr-0
  passed = refl

  -- a map of entries that are not summed yet is another than that of their table, so a map needs a table below it
  squares : List Def
  squares = made (Two two.Mul (Column v) (Column v))

  -- 1:3; 1:4, and their table, 1:7
  apart : Entries
  apart = record { key = key.Nat 1 ∷ []; row = value.Count 3 ∷ [] } ∷ record { key = key.Nat 1 ∷ []; row = value.Count 4 ∷ [] } ∷ []

  squares_of_parts : (ext ps (each.Map squares) (record { ty = columns; entries = apart })).entries ≡ record { key = key.Nat 1 ∷ []; row = value.Count 25 ∷ [] } ∷ []
  unfolding squares apart i j h v d nat count columns given twice by_twice measured moved distances of_h of_j far made ext of_each each_columns table_of value_of row_column total key_set key_put at_keys at before same_key tuple_cmp same_name has read value_zero value_plus value_is_zero row_zero row_plus row_is_zero denote.Hole.Carrier.hidden Rattle.lara_data.specs.declared.expr.Expr.TheBlock.hidden-the_row-Expr-0
  squares_of_parts = refl

  square_of_sum : (ext ps (each.Map squares) (table_of columns apart)).entries ≡ record { key = key.Nat 1 ∷ []; row = value.Count 49 ∷ [] } ∷ []
  unfolding squares apart i j h v d nat count columns given twice by_twice measured moved distances of_h of_j far made ext of_each each_columns table_of value_of row_column total key_set key_put at_keys at before same_key tuple_cmp same_name has read value_zero value_plus value_is_zero row_zero row_plus row_is_zero denote.Hole.Carrier.hidden Rattle.lara_data.specs.declared.expr.Expr.TheBlock.hidden-the_row-Expr-0
  square_of_sum = refl

-- ---- names

pair : Name → Name → NamePair
pair m n = record { old = m; new = n }

renamed_to_j : renamed (pair i j ∷ []) measured ≡ moved
unfolding pair i j h v d nat count measured moved renamed renamed_columns new_name same_name
renamed_to_j = refl

-- two columns change their names at once
swapped : renamed_columns (pair j h ∷ pair h j ∷ []) moved.ty ≡ record { keys = nat h ∷ nat j ∷ []; vals = count v ∷ [] }
unfolding pair i j h v d nat count measured moved renamed_columns new_name same_name
swapped = refl

-- ---- types

promote_has : promote_type columns by_twice ≡ Ok measured.ty
unfolding i j h v d nat count columns given twice by_twice measured moved distances of_h of_j far made map_type filter_type promote_type rename_type too_many def_types defs_fit expr_type key_column_type val_column_type each_columns renamed_columns new_name same_name has among distinct denote.Hole.Carrier.hidden Rattle.lara_data.specs.declared.expr.Expr.TheBlock.hidden-the_row-Expr-0
promote_has = refl

-- the new name is a column's already, which is told before what the expression is of
promote_again : promote_type columns (record { col = nat v; expr = Column d }) ≡ Err NameTwice
unfolding i j h v d nat count columns given twice by_twice measured moved distances of_h of_j far made map_type filter_type promote_type rename_type too_many def_types defs_fit expr_type key_column_type val_column_type each_columns renamed_columns new_name same_name has among distinct denote.Hole.Carrier.hidden Rattle.lara_data.specs.declared.expr.Expr.TheBlock.hidden-the_row-Expr-0
promote_again = refl

promote_other : promote_type columns (record { col = nat h; expr = Fun fun.Dist (Column v) }) ≡ Err TypesDiffer
unfolding i j h v d nat count columns given twice by_twice measured moved distances of_h of_j far made map_type filter_type promote_type rename_type too_many def_types defs_fit expr_type key_column_type val_column_type each_columns renamed_columns new_name same_name has among distinct denote.Hole.Carrier.hidden Rattle.lara_data.specs.declared.expr.Expr.TheBlock.hidden-the_row-Expr-0
promote_other = refl

map_has : map_type moved.ty (distances (Two two.Mul of_h of_j)) ≡ Ok (far 7 12).ty
unfolding i j h v d nat count columns given twice by_twice measured moved distances of_h of_j far made map_type filter_type promote_type rename_type too_many def_types defs_fit expr_type key_column_type val_column_type each_columns renamed_columns new_name same_name has among distinct denote.Hole.Carrier.hidden Rattle.lara_data.specs.declared.expr.Expr.TheBlock.hidden-the_row-Expr-0
map_has = refl

-- all names are told before any expression, and a key column's name is none that a map may define
map_of_key : map_type columns (record { col = count d; expr = Column h } ∷ record { col = count i; expr = Column v } ∷ []) ≡ Err NameTwice
unfolding i j h v d nat count columns given twice by_twice measured moved distances of_h of_j far made map_type filter_type promote_type rename_type too_many def_types defs_fit expr_type key_column_type val_column_type each_columns renamed_columns new_name same_name has among distinct denote.Hole.Carrier.hidden Rattle.lara_data.specs.declared.expr.Expr.TheBlock.hidden-the_row-Expr-0
map_of_key = refl

-- all expressions are told before the type of any definition
map_of_unknown : map_type columns (record { col = record { name = d; ty = ty.MinPlus }; expr = Column v } ∷ record { col = count v; expr = Column h } ∷ []) ≡ Err NoName
unfolding i j h v d nat count columns given twice by_twice measured moved distances of_h of_j far made map_type filter_type promote_type rename_type too_many def_types defs_fit expr_type key_column_type val_column_type each_columns renamed_columns new_name same_name has among distinct denote.Hole.Carrier.hidden Rattle.lara_data.specs.declared.expr.Expr.TheBlock.hidden-the_row-Expr-0
map_of_unknown = refl

map_of_other : map_type columns (distances (Column v)) ≡ Err TypesDiffer
unfolding i j h v d nat count columns given twice by_twice measured moved distances of_h of_j far made map_type filter_type promote_type rename_type too_many def_types defs_fit expr_type key_column_type val_column_type each_columns renamed_columns new_name same_name has among distinct denote.Hole.Carrier.hidden Rattle.lara_data.specs.declared.expr.Expr.TheBlock.hidden-the_row-Expr-0
map_of_other = refl

filter_has : filter_type columns (Two two.Gt (Column v) (Number 3)) ≡ Ok columns
unfolding i j h v d nat count columns given twice by_twice measured moved distances of_h of_j far made map_type filter_type promote_type rename_type too_many def_types defs_fit expr_type key_column_type val_column_type each_columns renamed_columns new_name same_name has among distinct denote.Hole.Carrier.hidden Rattle.lara_data.specs.declared.expr.Expr.TheBlock.hidden-the_row-Expr-0
filter_has = refl

filter_of_number : filter_type columns (Column v) ≡ Err TypesDiffer
unfolding i j h v d nat count columns given twice by_twice measured moved distances of_h of_j far made map_type filter_type promote_type rename_type too_many def_types defs_fit expr_type key_column_type val_column_type each_columns renamed_columns new_name same_name has among distinct denote.Hole.Carrier.hidden Rattle.lara_data.specs.declared.expr.Expr.TheBlock.hidden-the_row-Expr-0
filter_of_number = refl

rename_has : rename_type measured.ty (pair i j ∷ []) ≡ Ok moved.ty
unfolding pair i j h v d nat count columns given twice by_twice measured moved distances of_h of_j far made map_type filter_type promote_type rename_type too_many def_types defs_fit expr_type key_column_type val_column_type each_columns renamed_columns new_name same_name has among distinct denote.Hole.Carrier.hidden Rattle.lara_data.specs.declared.expr.Expr.TheBlock.hidden-the_row-Expr-0
rename_has = refl

-- an unknown old name is told before one that is listed again
rename_unknown : rename_type columns (pair i j ∷ pair i h ∷ pair d h ∷ []) ≡ Err NoName
unfolding pair i j h v d nat count columns given twice by_twice measured moved distances of_h of_j far made map_type filter_type promote_type rename_type too_many def_types defs_fit expr_type key_column_type val_column_type each_columns renamed_columns new_name same_name has among distinct denote.Hole.Carrier.hidden Rattle.lara_data.specs.declared.expr.Expr.TheBlock.hidden-the_row-Expr-0
rename_unknown = refl

rename_again : rename_type columns (pair i j ∷ pair i h ∷ []) ≡ Err NameTwice
unfolding pair i j h v d nat count columns given twice by_twice measured moved distances of_h of_j far made map_type filter_type promote_type rename_type too_many def_types defs_fit expr_type key_column_type val_column_type each_columns renamed_columns new_name same_name has among distinct denote.Hole.Carrier.hidden Rattle.lara_data.specs.declared.expr.Expr.TheBlock.hidden-the_row-Expr-0
rename_again = refl

-- two columns would get one name
rename_to_one : rename_type columns (pair i v ∷ []) ≡ Err NameTwice
unfolding pair i j h v d nat count columns given twice by_twice measured moved distances of_h of_j far made map_type filter_type promote_type rename_type too_many def_types defs_fit expr_type key_column_type val_column_type each_columns renamed_columns new_name same_name has among distinct denote.Hole.Carrier.hidden Rattle.lara_data.specs.declared.expr.Expr.TheBlock.hidden-the_row-Expr-0
rename_to_one = refl

-- a swap of all names is none of these
rename_swapped : rename_type moved.ty (pair j h ∷ pair h j ∷ []) ≡ Ok (record { keys = nat h ∷ nat j ∷ []; vals = count v ∷ [] })
unfolding pair i j h v d nat count columns given twice by_twice measured moved distances of_h of_j far made map_type filter_type promote_type rename_type too_many def_types defs_fit expr_type key_column_type val_column_type each_columns renamed_columns new_name same_name has among distinct denote.Hole.Carrier.hidden Rattle.lara_data.specs.declared.expr.Expr.TheBlock.hidden-the_row-Expr-0
rename_swapped = refl
