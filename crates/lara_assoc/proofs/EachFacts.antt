-- What comes of the entries of maps, filters and promotes: the loops over them, and their tables.
use Rattle.std.specs.Prelude.{◌≡◌, ◌<◌, Bool, true, false, cond, List, [], ◌∷◌, ◌++◌, map, filter, length, Ok, Err, IsOk}
use Rattle.std.specs.List.{flat_map}
use Rattle.std.proofs.Common.{refl, sym, ap, ◌∙◌, subst}
use Rattle.std.proofs.lemmas.Bool.{and_parts}
use Rattle.std.proofs.lemmas.List.Concat.{flat_map_single}
use Rattle.lara_key.specs.Keys.{tuple_cmp}
use Rattle.lara_semiring.specs.Rows.{row_has}
use Rattle.lara_data.specs.declared.arg.Def.{Def}
use Rattle.lara_data.specs.declared.arg.KeyDef.{KeyDef}
use Rattle.lara_data.specs.declared.arg.NamePair.{NamePair}
use Rattle.lara_data.specs.declared.expr.Expr.{Expr}
use Rattle.lara_data.specs.declared.order.EachOp.{EachOp}
use Rattle.lara_data.specs.declared.order.EachOp.TheVariants as each
use Rattle.lara_data.specs.KeyedTables.{Types, Row, SameAt, AllKeys, all_have}
use Rattle.lara_data.specs.KeyedPuts.{put}
use Rattle.lara_data.specs.MapTables.{of_pairs}
use Rattle.lara_data.specs.Names.{Tuple}
use Rattle.lara_data.specs.TableTypes.{Columns, types, are_columns}
use Rattle.lara_data.specs.Tables.{Entry, Entries, Table, table_of}
use Rattle.lara_data.specs.TypedTables.{KeyHas, IsTypedTable}
use Rattle.lara_data.specs.Plugins.{Plugins}
use Rattle.lara_data.specs.Extensions.{each_columns, defined_row, of_each, ext, renamed_columns, renamed}
use Rattle.lara_data.specs.TypeRules.{map_type, promote_type, rename_type}
use Rattle.lara_data.specs.ExtensionLaws.{IsMap, IsPromote, IsRename, map_type_rules, promote_type_rules, rename_type_rules, map_are_columns, promote_are_columns, rename_are_columns, computed_has, IsTypedTable-map, IsTypedTable-filter, IsTypedTable-promote, IsTypedTable-rename}
use Rattle.lara_assoc.specs.EachEntries.{mapped, kept, promoted}
use Rattle.lara_assoc.specs.Summed.{Summed, IsLeft, AreSumsOf}
use Rattle.lara_assoc.proofs.SumFacts.{left_one, left_whole}

-- no plugins, which no map, filter or promote asks
none : Plugins
none = record { Impl = ⊥; Held = λ _. Unit {0}; Allocator = Unit {0}; meaning = λ i. absurd i; boxes = [] }

-- ---- the rules that are met

map_rules : (a : Columns) (ds : List Def) → IsOk (map_type a ds) → (map_type a ds ≡ Ok (each_columns (each.Map ds) a)) × IsMap a ds (each_columns (each.Map ds) a)
map_rules a ds h =
    elim (map_type a ds) as (λ r. map_type a ds ≡ r → IsOk r → (r ≡ Ok (each_columns (each.Map ds) a)) × IsMap a ds (each_columns (each.Map ds) a)) [
      | Ok c ↦ λ e g. let j = map_type_rules a ds c e in (ap Ok (sym j.is), subst (IsMap a ds) (sym j.is) j)
      | Err kind ↦ λ e g. cc
    ] refl h

promote_rules : (a : Columns) (d : KeyDef) → IsOk (promote_type a d) → IsPromote a d (each_columns (each.Promote d) a)
promote_rules a d h =
    elim (promote_type a d) as (λ r. promote_type a d ≡ r → IsOk r → IsPromote a d (each_columns (each.Promote d) a)) [
      | Ok c ↦ λ e g. let j = promote_type_rules a d c e in subst (IsPromote a d) (sym j.is) j
      | Err kind ↦ λ e g. cc
    ] refl h

rename_rules : (a : Columns) (ps : List NamePair) → IsOk (rename_type a ps) → IsRename a ps (renamed_columns ps a)
rename_rules a ps h =
    elim (rename_type a ps) as (λ r. rename_type a ps ≡ r → IsOk r → IsRename a ps (renamed_columns ps a)) [
      | Ok c ↦ λ e g. let j = rename_type_rules a ps c e in subst (IsRename a ps) (sym j.is) j
      | Err kind ↦ λ e g. cc
    ] refl h

-- ---- columns that a table may have

pub map_fine : (a : Columns) (ds : List Def) → 0 < length ds → IsOk (map_type a ds) → are_columns (each_columns (each.Map ds) a).keys (each_columns (each.Map ds) a).vals ≡ true
map_fine a ds s h = let m = (map_rules a ds h).1 in map_are_columns a ds s m.once m.few

pub map_found : (a : Columns) (ds : List Def) (u : Columns) → IsOk (map_type a ds) → u ≡ each_columns (each.Map ds) a → map_type a ds ≡ Ok u
map_found a ds u h e = (map_rules a ds h).0 ∙ ap Ok (sym e)

pub promote_fine : (a : Columns) (d : KeyDef) → are_columns a.keys a.vals ≡ true → IsOk (promote_type a d) → are_columns (each_columns (each.Promote d) a).keys (each_columns (each.Promote d) a).vals ≡ true
promote_fine a d p h = let m = promote_rules a d h in promote_are_columns a d p m.fresh m.few

pub rename_fine : (a : Columns) (ps : List NamePair) → are_columns a.keys a.vals ≡ true → IsOk (rename_type a ps) → are_columns (renamed_columns ps a).keys (renamed_columns ps a).vals ≡ true
rename_fine a ps p h = rename_are_columns a ps p (rename_rules a ps h).apart

-- the same entries under other names are a table
pub renamed_typed : (t : Table) (ps : List NamePair) (u : Columns) → IsTypedTable t → IsOk (rename_type t.ty ps) → u ≡ renamed_columns ps t.ty → IsTypedTable (record { ty = u; entries = t.entries })
unfolding renamed
renamed_typed t ps u p h e = subst (λ (c : Columns). IsTypedTable (record { ty = c; entries = t.entries })) (sym e) (IsTypedTable-rename t p ps (rename_rules t.ty ps h).apart)

pub renamed_is : (t : Table) (ps : List NamePair) (u : Columns) → u ≡ renamed_columns ps t.ty → record { ty = u; entries = t.entries } ≡ renamed ps t
unfolding renamed
renamed_is t ps u e = λ i. record { ty = e i; entries = t.entries }

-- ---- what comes of all entries

map_flat : (ps : Plugins) (ty : Columns) (ds : List Def) (es : Entries) → flat_map (of_each ps ty (each.Map ds)) es ≡ map (mapped ty ds) es
unfolding of_each
map_flat ps ty ds es = flat_map_single (mapped ty ds) es

filter_flat : (ps : Plugins) (ty : Columns) (test : Expr) (es : Entries) → flat_map (of_each ps ty (each.Filter test)) es ≡ filter (kept ty test) es
unfolding of_each
filter_flat ps ty test [] = refl
filter_flat ps ty test (e ∷ es) =
    elim (kept ty test e) as (λ b. cond b (e ∷ []) [] ++ flat_map (of_each ps ty (each.Filter test)) es ≡ cond b (e ∷ filter (kept ty test) es) (filter (kept ty test) es)) [
      | true ↦ ap (λ xs. e ∷ xs) (filter_flat ps ty test es)
      | false ↦ filter_flat ps ty test es
    ]

promote_flat : (ps : Plugins) (ty : Columns) (d : KeyDef) (es : Entries) → flat_map (of_each ps ty (each.Promote d)) es ≡ map (promoted ty d) es
unfolding of_each
promote_flat ps ty d es = flat_map_single (promoted ty d) es

-- the table of these entries is that of the extension
ext_is : (ps : Plugins) (op : EachOp) (t : Table) (u : Columns) (es : Entries) → u ≡ each_columns op t.ty → flat_map (of_each ps t.ty op) t.entries ≡ es → table_of u es ≡ ext ps op t
unfolding ext
ext_is ps op t u es c f = λ i. table_of (c i) (sym f i)

-- sums of these entries are a table's
ext_sums : (op : EachOp) (t : Table) (u : Columns) (es : Entries) (sums : Summed) → u ≡ each_columns op t.ty → flat_map (of_each none t.ty op) t.entries ≡ es → IsTypedTable (ext none op t) → sums.types ≡ types u.vals → SameAt tuple_cmp sums.types sums.entries es → AreSumsOf u sums
ext_sums op t u es sums c f p e same = record { summed = es; same = same; typed = subst (λ (x : Table). IsTypedTable x) (sym (ext_is none op t u es c f)) p; types = e }

-- what a call makes of the entries is the extension's table
pub map_is_ext : (ps : Plugins) (t : Table) (ds : List Def) (op : EachOp) → op ≡ each.Map ds → table_of (each_columns (each.Map ds) t.ty) (map (mapped t.ty ds) t.entries) ≡ ext ps op t
map_is_ext ps t ds op e = ext_is ps (each.Map ds) t (each_columns (each.Map ds) t.ty) (map (mapped t.ty ds) t.entries) refl (map_flat ps t.ty ds t.entries) ∙ ap (λ (o : EachOp). ext ps o t) (sym e)

pub filter_is_ext : (ps : Plugins) (t : Table) (test : Expr) (op : EachOp) → op ≡ each.Filter test → table_of t.ty (filter (kept t.ty test) t.entries) ≡ ext ps op t
unfolding each_columns
filter_is_ext ps t test op e = ext_is ps (each.Filter test) t t.ty (filter (kept t.ty test) t.entries) refl (filter_flat ps t.ty test t.entries) ∙ ap (λ (o : EachOp). ext ps o t) (sym e)

pub promote_is_ext : (ps : Plugins) (t : Table) (d : KeyDef) (op : EachOp) → op ≡ each.Promote d → table_of (each_columns (each.Promote d) t.ty) (map (promoted t.ty d) t.entries) ≡ ext ps op t
promote_is_ext ps t d op e = ext_is ps (each.Promote d) t (each_columns (each.Promote d) t.ty) (map (promoted t.ty d) t.entries) refl (promote_flat ps t.ty d t.entries) ∙ ap (λ (o : EachOp). ext ps o t) (sym e)

pub map_sums : (t : Table) (ds : List Def) (u : Columns) (sums : Summed) → u ≡ each_columns (each.Map ds) t.ty → IsTypedTable t → 0 < length ds → IsOk (map_type t.ty ds) → sums.types ≡ types u.vals → SameAt tuple_cmp sums.types sums.entries (map (mapped t.ty ds) t.entries) → AreSumsOf u sums
map_sums t ds u sums c p s h e same =
    ext_sums (each.Map ds) t u (map (mapped t.ty ds) t.entries) sums c (map_flat none t.ty ds t.entries) (IsTypedTable-map none t p ds (each_columns (each.Map ds) t.ty) s (map_rules t.ty ds h).1) e same

pub filter_sums : (t : Table) (test : Expr) (u : Columns) (sums : Summed) → u ≡ t.ty → IsTypedTable t → sums.types ≡ types t.ty.vals → SameAt tuple_cmp sums.types sums.entries (filter (kept t.ty test) t.entries) → AreSumsOf u sums
unfolding each_columns
filter_sums t test u sums c p e same =
    ext_sums (each.Filter test) t u (filter (kept t.ty test) t.entries) sums c (filter_flat none t.ty test t.entries) (IsTypedTable-filter none t p test) (e ∙ ap (λ (x : Columns). types x.vals) (sym c)) same

pub promote_sums : (t : Table) (d : KeyDef) (u : Columns) (sums : Summed) → u ≡ each_columns (each.Promote d) t.ty → IsTypedTable t → IsOk (promote_type t.ty d) → sums.types ≡ types t.ty.vals → SameAt tuple_cmp sums.types sums.entries (map (promoted t.ty d) t.entries) → AreSumsOf u sums
unfolding each_columns
promote_sums t d u sums c p h e same =
    ext_sums (each.Promote d) t u (map (promoted t.ty d) t.entries) sums c (promote_flat none t.ty d t.entries) (IsTypedTable-promote none t p d (each_columns (each.Promote d) t.ty) (promote_rules t.ty d h)) (e ∙ ap (λ (x : Columns). types x.vals) (sym c)) same

-- ---- turns of the loops

-- a row that a map computes for an entry at hand is of the types
pub computed_typed : (a : Columns) (ds : List Def) (u : Columns) (us : Types) (k : Tuple) (r row : Row) (it next : List (Tuple × Row)) → map_type a ds ≡ Ok u → us ≡ types u.vals → row ≡ defined_row a ds (record { key = k; row = r }) → it ≡ (k, r) ∷ next → all_have (types a.vals) (of_pairs it) ≡ true → AllKeys (KeyHas a.keys) (of_pairs it) → row_has us row ≡ true
unfolding each_columns all_have AllKeys
computed_typed a ds u us k r row it next h t d f p q =
    let m = map_type_rules a ds u h in
    let rows = and_parts (row_has (types a.vals) r) (all_have (types a.vals) (of_pairs next)) (ap (λ (x : List (Tuple × Row)). all_have (types a.vals) (of_pairs x)) (sym f) ∙ p) in
    let keys = subst (λ (x : List (Tuple × Row)). AllKeys (KeyHas a.keys) (of_pairs x)) f q in
    (λ i. row_has ((t ∙ ap (λ (c : Columns). types c.vals) (sym m.is)) i) (d i)) ∙ computed_has a ds m.found k r keys.0 rows.0 m.typed m.fit

-- the keys behind the first are of the types
pub rest_keys : (P : Tuple → Type 0) (k : Tuple) (r : Row) (it next : List (Tuple × Row)) → it ≡ (k, r) ∷ next → AllKeys P (of_pairs it) → AllKeys P (of_pairs next)
unfolding AllKeys
rest_keys P k r it next f h = (subst (λ (x : List (Tuple × Row)). AllKeys P (of_pairs x)) f h).1

-- an entry that stays
pub kept_step : (p : Entry → Bool) (ts : Types) (s t : Summed) (it next : List (Tuple × Row)) (k : Tuple) (r : Row) (e : Entry) (all : Entries) → it ≡ (k, r) ∷ next → p (record { key = k; row = r }) ≡ true → e ≡ record { key = k; row = r } → t.types ≡ s.types → t.entries ≡ put tuple_cmp s.types e s.entries → IsLeft ts s (filter p (of_pairs it)) all → IsLeft ts t (filter p (of_pairs next)) all
kept_step p ts s t it next k r e all is b m y q h =
    let here : filter p (of_pairs it) ≡ e ∷ filter p (of_pairs next) = ap (λ (x : List (Tuple × Row)). filter p (of_pairs x)) is ∙ ap (λ c. cond c (record { key = k; row = r } ∷ filter p (of_pairs next)) (filter p (of_pairs next))) b ∙ ap (λ (z : Entry). z ∷ filter p (of_pairs next)) (sym m) in
    left_one ts s t e (filter p (of_pairs next)) all (subst (λ (z : Entries). IsLeft ts s z all) here h) y q

-- an entry that goes
pub left_out_step : (p : Entry → Bool) (ts : Types) (s : Summed) (it next : List (Tuple × Row)) (k : Tuple) (r : Row) (all : Entries) → it ≡ (k, r) ∷ next → p (record { key = k; row = r }) ≡ false → IsLeft ts s (filter p (of_pairs it)) all → IsLeft ts s (filter p (of_pairs next)) all
left_out_step p ts s it next k r all is b h =
    let here : filter p (of_pairs it) ≡ filter p (of_pairs next) = ap (λ (x : List (Tuple × Row)). filter p (of_pairs x)) is ∙ ap (λ c. cond c (record { key = k; row = r } ∷ filter p (of_pairs next)) (filter p (of_pairs next))) b in
    subst (λ (z : Entries). IsLeft ts s z all) here h

pub kept_end : (p : Entry → Bool) (ts : Types) (s : Summed) (it : List (Tuple × Row)) (all : Entries) → it ≡ [] → IsLeft ts s (filter p (of_pairs it)) all → SameAt tuple_cmp s.types s.entries all
kept_end p ts s it all e h = left_whole ts s (filter p (of_pairs it)) all (ap (λ (x : List (Tuple × Row)). filter p (of_pairs x)) e) h
