-- A literal that has its columns and entries is typed.
use Rattle.std.specs.Prelude.{◌≡◌, true, false, not, List, [], ◌∷◌}
use Rattle.std.specs.List.{list_all, list_any}
use Rattle.std.proofs.Common.{refl, ap}
use Rattle.std.proofs.lemmas.Bool.{and_from, or_from}
use Rattle.lara_key.specs.Keys.{has_key_type, tuple_has, key_is_over}
use Rattle.lara_semiring.specs.Values.{has_type, value_is_over}
use Rattle.lara_semiring.specs.Rows.{row_has, row_is_over}
use Rattle.lara_data.specs.declared.node.Node.{Node}
use Rattle.lara_data.specs.declared.table_type.KeyCol.{KeyCol}
use Rattle.lara_data.specs.declared.table_type.ValCol.{ValCol}
use Rattle.lara_data.specs.KeyedTables.{AllKeys, Row, all_have}
use Rattle.lara_data.specs.Names.{Tuple}
use Rattle.lara_data.specs.TableTypes.{Columns, types, key_types}
use Rattle.lara_data.specs.Tables.{Entries, is_entry_in_range}
use Rattle.lara_data.specs.TypedTables.{KeyHas}
use Rattle.lara_data.specs.TypedTrees.{IsLiteral}
use Rattle.lara_syntax.specs.declared.ast.AstEntry.{AstEntry}
use Rattle.lara_syntax.specs.declared.ast.AstLit.{AstLit}
use Rattle.lara_syntax.specs.declared.ast.AstType.{AstType}
use Rattle.lara_syntax.specs.LiteralLaws.{key_is, val_is}
use Rattle.lara_types.specs.HasTypes.{AreKeys, AreVals, AreEntries, LiteralHas}

-- ---- keys, rows and entries

keys_are : (cs : List KeyCol) (ls : List AstLit) (ks : Tuple) → AreKeys cs ls ks → KeyHas cs ks × (list_any key_is_over ks ≡ false)
unfolding AreKeys tuple_has
keys_are [] [] [] h = (refl, refl)
keys_are [] [] (k ∷ ks) h = absurd h
keys_are [] (l ∷ ls) ks h = absurd h
keys_are (c ∷ cs) [] ks h = absurd h
keys_are (c ∷ cs) (l ∷ ls) [] h = absurd h
keys_are (c ∷ cs) (l ∷ ls) (k ∷ ks) h =
    let one = key_is c.ty l.value k h.0 in
    let all = keys_are cs ls ks h.1 in
    (and_from (has_key_type c.ty k) (tuple_has (key_types cs) ks) one.0 all.0, or_from (key_is_over k) (list_any key_is_over ks) one.1 all.1)

pub vals_are : (cs : List ValCol) (ls : List AstLit) (vs : Row) → AreVals cs ls vs → (row_has (types cs) vs ≡ true) × (row_is_over (types cs) vs ≡ false)
unfolding AreVals row_has row_is_over
vals_are [] [] [] h = (refl, refl)
vals_are [] [] (v ∷ vs) h = absurd h
vals_are [] (l ∷ ls) vs h = absurd h
vals_are (c ∷ cs) [] vs h = absurd h
vals_are (c ∷ cs) (l ∷ ls) [] h = absurd h
vals_are (c ∷ cs) (l ∷ ls) (v ∷ vs) h =
    let one = val_is c.ty l.value v h.0 in
    let all = vals_are cs ls vs h.1 in
    (and_from (has_type c.ty v) (row_has (types cs) vs) one.0 all.0, or_from (value_is_over c.ty v) (row_is_over (types cs) vs) one.1 all.1)

entries_are : (ty : Columns) (xs : List AstEntry) (es : Entries) → AreEntries ty xs es → AllKeys (KeyHas ty.keys) es × (all_have (types ty.vals) es ≡ true) × (list_all (is_entry_in_range (types ty.vals)) es ≡ true)
unfolding AreEntries AllKeys all_have
entries_are ty [] [] h = (tt, refl, refl)
entries_are ty [] (e ∷ es) h = absurd h
entries_are ty (x ∷ xs) [] h = absurd h
entries_are ty (x ∷ xs) (e ∷ es) h =
    let key = keys_are ty.keys x.key e.key h.0 in
    let row = vals_are ty.vals x.row e.row h.1 in
    let all = entries_are ty xs es h.2 in
    let in_range = and_from (not (list_any key_is_over e.key)) (not (row_is_over (types ty.vals) e.row)) (ap not key.1) (ap not row.1) in
    ((key.0, all.0), and_from (row_has (types ty.vals) e.row) (all_have (types ty.vals) es) row.0 all.1, and_from (is_entry_in_range (types ty.vals) e) (list_all (is_entry_in_range (types ty.vals)) es) in_range all.2)

-- a literal that has its columns and entries is typed
pub is_literal : (ty : AstType) (xs : List AstEntry) (node : Node) (h : LiteralHas ty xs node) → IsLiteral node.ty h.entries
is_literal ty xs node h =
    let all = entries_are node.ty xs h.entries h.are_entries in
    record { columns = h.of_table; keys = all.0; rows = all.1; in_range = all.2 }
