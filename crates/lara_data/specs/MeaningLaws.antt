-- A typed tree that fits its database means a table of its node's type.
use Rattle.std.specs.Prelude.{◌≡◌, ◌<◌, true, false, cond, fold, length, List, [], ◌∷◌, ◌++◌, Option, Some, None}
use Rattle.std.proofs.Common.{refl, sym, ap, ◌∙◌, subst}
use Rattle.lara_data.specs.declared.node.Op.{Op}
use Rattle.lara_data.specs.declared.node.Op.TheBlock.{end_of-Node, more_of-Node}
use Rattle.lara_data.specs.declared.node.Op.TheVariants.{Load, Named, Literal, Join', Union', Agg', Map', Filter', Promote', Rename', Apply'}
use Rattle.lara_data.specs.declared.schema.Schema.{Schema}
use Rattle.lara_data.specs.TableTypes.{Columns, key_names}
use Rattle.lara_data.specs.Names.{Name, same_name, among, distinct}
use Rattle.lara_data.specs.Newest.{newer, newest}
use Rattle.lara_data.specs.Tables.{Entries, Table, table_of}
use Rattle.lara_data.specs.Algebra.{common_vals, join_columns, union_columns, agg_columns, join_tables, union_tables, agg_table}
use Rattle.lara_data.specs.TypedTables.{IsTypedTable, IsTypedTable-join, IsTypedTable-union, IsTypedTable-agg, IsTypedTable-table_of}
use Rattle.lara_data.specs.TypeRules.{types_differ, is_none, too_many, names_of}
use Rattle.lara_data.specs.TypeRuleLaws.{IsJoin, IsUnion, IsAgg, join_type_rules, union_type_rules, agg_type_rules, join_are_columns, union_are_columns, agg_are_columns}
use Rattle.lara_data.specs.KeyTypeLaws.{same_key_types}
use Rattle.lara_data.specs.declared.arg.Def.{Def}
use Rattle.lara_data.specs.declared.arg.KeyDef.{KeyDef}
use Rattle.lara_data.specs.declared.arg.NamePair.{NamePair}
use Rattle.lara_data.specs.declared.expr.Expr.{Expr}
use Rattle.lara_data.specs.declared.order.EachOp.TheVariants as each
use Rattle.lara_data.specs.Extensions.{each_columns, ext, renamed_columns, renamed}
use Rattle.lara_data.specs.ExtensionLaws.{IsMap, IsFilter, IsPromote, IsRename, map_type_rules, filter_type_rules, promote_type_rules, rename_type_rules, IsTypedTable-map, IsTypedTable-filter, IsTypedTable-promote, IsTypedTable-rename}
use Rattle.lara_data.specs.TypedTrees.{type_named, IsLiteral, OpTyped}
use Rattle.lara_data.specs.Plugins.{Plugins}
use Rattle.lara_data.specs.Denotations.{NamedTable, Database, table_named, table_or_empty, meaning}
use Rattle.lara_data.specs.Fits.{IsTableOf, TablesTyped, LoadFits, OpFits, TablesOf, KnownHaveTables}

-- ---- operators

pub IsTableOf-join : (s r : Table) (t u ty : Columns) → IsTableOf t s → IsTableOf u r → IsJoin t u ty → IsTableOf ty (join_tables s r)
unfolding join_tables
IsTableOf-join s r t u ty p q j =
    let some : is_none (common_vals s.ty.vals r.ty.vals) ≡ false = (λ i. is_none (common_vals (p.columns i).vals (q.columns i).vals)) ∙ j.some in
    let few : too_many (join_columns s.ty r.ty) ≡ false = (λ i. too_many (join_columns (p.columns i) (q.columns i))) ∙ j.few in
    record {
      columns = (λ i. join_columns (p.columns i) (q.columns i)) ∙ j.is;
      typed = IsTypedTable-join s r (join_are_columns s.ty r.ty p.typed.columns q.typed.columns some few) p.typed q.typed;
    }

pub IsTableOf-union : (s r : Table) (t u ty : Columns) → IsTableOf t s → IsTableOf u r → IsUnion t u ty → IsTableOf ty (union_tables s r)
unfolding union_tables
IsTableOf-union s r t u ty p q j =
    let agree : types_differ s.ty r.ty ≡ false = (λ i. types_differ (p.columns i) (q.columns i)) ∙ j.agree in
    let few : too_many (union_columns s.ty r.ty) ≡ false = (λ i. too_many (union_columns (p.columns i) (q.columns i))) ∙ j.few in
    record {
      columns = (λ i. union_columns (p.columns i) (q.columns i)) ∙ j.is;
      typed = IsTypedTable-union s r (union_are_columns s.ty r.ty p.typed.columns q.typed.columns agree few) (same_key_types s.ty r.ty agree) p.typed q.typed;
    }

pub IsTableOf-agg : (s : Table) (t : Columns) (ks : List Name) (ty : Columns) → IsTableOf t s → IsAgg t ks ty → IsTableOf ty (agg_table s ks)
unfolding agg_table
IsTableOf-agg s t ks ty p j =
    let keys : among (key_names s.ty.keys) ks ≡ true = (λ i. among (key_names (p.columns i).keys) ks) ∙ j.keys in
    record {
      columns = (λ i. agg_columns (p.columns i) ks) ∙ j.is;
      typed = IsTypedTable-agg s ks (agg_are_columns s.ty ks p.typed.columns keys j.once) keys p.typed;
    }

pub IsTableOf-map : (ps : Plugins) (s : Table) (t : Columns) (ds : List Def) (ty : Columns) → IsTableOf t s → 0 < length ds → IsMap t ds ty → IsTableOf ty (ext ps (each.Map ds) s)
unfolding ext table_of
IsTableOf-map ps s t ds ty p some m = record {
  columns = ap (each_columns (each.Map ds)) p.columns ∙ m.is;
  typed = IsTypedTable-map ps s p.typed ds ty some (subst (λ u. IsMap u ds ty) (sym p.columns) m);
}

pub IsTableOf-filter : (ps : Plugins) (s : Table) (t : Columns) (test : Expr) (ty : Columns) → IsTableOf t s → IsFilter t test ty → IsTableOf ty (ext ps (each.Filter test) s)
unfolding ext table_of each_columns
IsTableOf-filter ps s t test ty p m = record { columns = p.columns ∙ m.is; typed = IsTypedTable-filter ps s p.typed test }

pub IsTableOf-promote : (ps : Plugins) (s : Table) (t : Columns) (d : KeyDef) (ty : Columns) → IsTableOf t s → IsPromote t d ty → IsTableOf ty (ext ps (each.Promote d) s)
unfolding ext table_of
IsTableOf-promote ps s t d ty p m = record {
  columns = ap (each_columns (each.Promote d)) p.columns ∙ m.is;
  typed = IsTypedTable-promote ps s p.typed d ty (subst (λ u. IsPromote u d ty) (sym p.columns) m);
}

pub IsTableOf-rename : (s : Table) (t : Columns) (pairs : List NamePair) (ty : Columns) → IsTableOf t s → IsRename t pairs ty → IsTableOf ty (renamed pairs s)
unfolding renamed
IsTableOf-rename s t pairs ty p m = record {
  columns = ap (renamed_columns pairs) p.columns ∙ m.is;
  typed = IsTypedTable-rename s p.typed pairs (ap (λ u. distinct (names_of (renamed_columns pairs u))) p.columns ∙ m.apart);
}

pub IsTableOf-literal : (ty : Columns) (es : Entries) → IsLiteral ty es → IsTableOf ty (table_of ty es)
unfolding table_of
IsTableOf-literal ty es h = record { columns = refl; typed = IsTypedTable-table_of ty es h.columns h.rows h.keys }

-- ---- names

-- there is a table where there is a type, and it is of the type
abbrev pub Finds : Option Columns → Option Table → Type 0
Finds None None = Unit {0}
Finds None (Some t) = ⊥
Finds (Some ty) None = ⊥
Finds (Some ty) (Some t) = IsTableOf ty t

-- the type and the table of a name, where a later one may have it
abbrev newer_type : Name → Option Columns → Schema → Option Columns
newer_type n found s = newer (λ s. s.name) (λ s. s.ty) n found s

abbrev newer_table : Name → Option Table → NamedTable → Option Table
newer_table n found d = newer (λ d. d.name) (λ d. d.table) n found d

finds_newer : (n m k : Name) (ty : Columns) (t : Table) (found : Option Columns) (table : Option Table) → k ≡ m → IsTableOf ty t → Finds found table → Finds (cond (same_name n m) (Some ty) found) (cond (same_name n k) (Some t) table)
finds_newer n m k ty t found table e h f =
    subst (λ (x : Name). Finds (cond (same_name n m) (Some ty) found) (cond (same_name n x) (Some t) table)) (sym e)
    (elim (same_name n m) as (λ b. Finds (cond b (Some ty) found) (cond b (Some t) table)) [ true ↦ h | false ↦ f ])

finds_from : (n : Name) (known : List Schema) (tables : List NamedTable) (found : Option Columns) (table : Option Table) → TablesOf known tables → Finds found table → Finds (fold (newer_type n) found known) (fold (newer_table n) table tables)
unfolding TablesOf
finds_from n [] [] found table h f = f
finds_from n [] (d ∷ ds) found table h f = absurd h
finds_from n (s ∷ ss) [] found table h f = absurd h
finds_from n (s ∷ ss) (d ∷ ds) found table h f =
    finds_from n ss ds (newer_type n found s) (newer_table n table d) h.2 (finds_newer n s.name d.name s.ty d.table found table h.0 h.1 f)

-- a name of a known type has a table of the type
pub finds_named : (n : Name) (known : List Schema) (tables : List NamedTable) → TablesOf known tables → Finds (type_named n known) (table_named n tables)
unfolding newest
finds_named n known tables h = finds_from n known tables None None h tt

pub TablesOf-more : (known : List Schema) (tables : List NamedTable) (s : Schema) (d : NamedTable) → TablesOf known tables → d.name ≡ s.name → IsTableOf s.ty d.table → TablesOf (known ++ s ∷ []) (tables ++ d ∷ [])
unfolding TablesOf
TablesOf-more [] [] s d h e t = (e, t, tt)
TablesOf-more [] (c ∷ tables) s d h e t = absurd h
TablesOf-more (k ∷ known) [] s d h e t = absurd h
TablesOf-more (k ∷ known) (c ∷ tables) s d h e t = (h.0, h.1, TablesOf-more known tables s d h.2 e t)

of_known : (ty : Columns) (found : Option Columns) (table : Option Table) → found ≡ Some ty → Finds found table → IsTableOf ty (table_or_empty ty table)
of_known ty None None e f = cc
of_known ty None (Some t) e f = absurd f
of_known ty (Some u) None e f = absurd f
of_known ty (Some u) (Some t) e f = record { columns = f.columns ∙ ap (column_or ty) e; typed = f.typed }
  where
    column_or : Columns → Option Columns → Columns
    column_or d None = d
    column_or d (Some c) = c

-- the table, if there is one, is of its type
abbrev TypedIf : Option Table → Type 0
TypedIf None = Unit {0}
TypedIf (Some t) = IsTypedTable t

typed_from : (n : Name) (db : Database) (found : Option Table) → TablesTyped db → TypedIf found → TypedIf (fold (newer_table n) found db)
unfolding TablesTyped
typed_from n [] found h f = f
typed_from n (d ∷ db) found h f =
    typed_from n db (newer_table n found d) h.1 (elim (same_name n d.name) as (λ b. TypedIf (cond b (Some d.table) found)) [ true ↦ h.0 | false ↦ f ])

typed_named : (n : Name) (db : Database) → TablesTyped db → TypedIf (table_named n db)
unfolding newest
typed_named n db h = typed_from n db None h tt

of_stored : (ty : Columns) (found : Option Table) → LoadFits found ty → TypedIf found → IsTableOf ty (table_or_empty ty found)
of_stored ty None e h = absurd e
of_stored ty (Some t) e h = record { columns = e; typed = h }

-- ---- trees

pub IsTableOf-meaning : (ps : Plugins) (db : Database) (known : List Schema) (tables : List NamedTable) → KnownHaveTables db known tables → (op : Op) (ty : Columns) → OpTyped known op ty → OpFits ps db op ty → IsTableOf ty (meaning ps db tables op ty)
unfolding OpTyped OpFits meaning Rattle.lara_data.specs.declared.node.Op.TheBlock.hidden-the_row-Node-0 denote.Hole.Carrier.hidden
IsTableOf-meaning ps db known tables s (Load n) ty h f = of_stored ty (table_named n db) f (typed_named n db s.stored)
IsTableOf-meaning ps db known tables s (Named n) ty h f = of_known ty (type_named n known) (table_named n tables) h (finds_named n known tables s.assigned)
IsTableOf-meaning ps db known tables s (Literal es) ty h f = IsTableOf-literal ty es h
IsTableOf-meaning ps db known tables s (Join' _ (more_of-Node t a end_of-Node) _ (more_of-Node u b end_of-Node)) ty h f =
    IsTableOf-join (meaning ps db tables a t) (meaning ps db tables b u) t u ty (IsTableOf-meaning ps db known tables s a t h.1 f.0) (IsTableOf-meaning ps db known tables s b u h.2 f.1) (join_type_rules t u ty h.0)
IsTableOf-meaning ps db known tables s (Union' _ (more_of-Node t a end_of-Node) _ (more_of-Node u b end_of-Node)) ty h f =
    IsTableOf-union (meaning ps db tables a t) (meaning ps db tables b u) t u ty (IsTableOf-meaning ps db known tables s a t h.1 f.0) (IsTableOf-meaning ps db known tables s b u h.2 f.1) (union_type_rules t u ty h.0)
IsTableOf-meaning ps db known tables s (Agg' _ (more_of-Node t a end_of-Node) ks) ty h f =
    IsTableOf-agg (meaning ps db tables a t) t ks ty (IsTableOf-meaning ps db known tables s a t h.1 f) (agg_type_rules t ks ty h.0)
IsTableOf-meaning ps db known tables s (Map' _ (more_of-Node t a end_of-Node) defs) ty h f =
    IsTableOf-map ps (meaning ps db tables a t) t defs ty (IsTableOf-meaning ps db known tables s a t h.2 f) h.0 (map_type_rules t defs ty h.1)
IsTableOf-meaning ps db known tables s (Filter' _ (more_of-Node t a end_of-Node) test) ty h f =
    IsTableOf-filter ps (meaning ps db tables a t) t test ty (IsTableOf-meaning ps db known tables s a t h.1 f) (filter_type_rules t test ty h.0)
IsTableOf-meaning ps db known tables s (Promote' _ (more_of-Node t a end_of-Node) def) ty h f =
    IsTableOf-promote ps (meaning ps db tables a t) t def ty (IsTableOf-meaning ps db known tables s a t h.1 f) (promote_type_rules t def ty h.0)
IsTableOf-meaning ps db known tables s (Rename' _ (more_of-Node t a end_of-Node) pairs) ty h f =
    IsTableOf-rename (meaning ps db tables a t) t pairs ty (IsTableOf-meaning ps db known tables s a t h.1 f) (rename_type_rules t pairs ty h.0)
IsTableOf-meaning ps db known tables s (Apply' _ (more_of-Node t a end_of-Node) call) ty h f = absurd h
