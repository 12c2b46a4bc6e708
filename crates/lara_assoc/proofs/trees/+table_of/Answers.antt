use Rattle.std.proofs.Common.{arith, ap, refl, ◌∙◌}
use Rattle.std.specs.Prelude.{is_ok}
use Rattle.lara_data.specs.declared.node.Node.{Node}
use Rattle.lara_assoc.proofs.MeantFacts.{load_means, name_means, literal_means, literal_typed, join_left, join_right, join_means, join_typed, union_left, union_right, union_means, union_typed, agg_below, agg_means, agg_typed, agg_join_means, agg_join_typed, map_below, map_means, map_some, map_typed, filter_below, filter_means, promote_below, promote_means, promote_typed, rename_below, rename_means, rename_typed, no_apply}
use Rattle.lara_assoc.proofs.EachFacts.{map_is_ext, filter_is_ext, promote_is_ext}
use Rattle.lara_assoc.proofs.TableFacts.{ok_is}
use Rattle.lara_data.specs.TreeSizes.{nodes}
use Rattle.lara_data.proofs.SizeEquations.{nodes_Join, nodes_Union, nodes_Agg, nodes_Map, nodes_Filter, nodes_Promote, nodes_Rename}
use Rattle.lara_assoc.proofs.trees.+table_of.Goals as goal

pub total-requires-clause-keys : goal.total-requires-clause-keys
total-requires-clause-keys g t c = (literal_typed _ _ c.requires.tables c.args.node.now c.in-Literal.entries c.in-Literal.is c.requires.meant).keys

pub total-requires-clause-rows : goal.total-requires-clause-rows
total-requires-clause-rows g t c = (literal_typed _ _ c.requires.tables c.args.node.now c.in-Literal.entries c.in-Literal.is c.requires.meant).rows

pub table_of-requires : goal.table_of-requires
table_of-requires g t c =
    let s = nodes_Join c.in-Join.a c.in-Join.b in
    let e = ap nodes c.in-Join.is in
    let r = ap (λ (n : Node). nodes n.op) c.get.ensures in
    (omega (arith, s, e, r), record { tables = c.requires.tables; newest = c.requires.newest; meant = join_left _ _ c.requires.tables c.args.node.now c.in-Join.a c.in-Join.b _ c.in-Join.is c.get.ensures c.requires.meant })

pub table_of-requires-in-Join : goal.table_of-requires-in-Join
table_of-requires-in-Join g t c =
    let s = nodes_Join c.in-Join.a c.in-Join.b in
    let e = ap nodes c.in-Join.is in
    let r = ap (λ (n : Node). nodes n.op) c.get-in-Join.ensures in
    (omega (arith, s, e, r), record { tables = c.requires.tables; newest = c.requires.newest; meant = join_right _ _ c.requires.tables c.args.node.now c.in-Join.a c.in-Join.b _ c.in-Join.is c.get-in-Join.ensures c.requires.meant })

pub join-requires : goal.join-requires
join-requires g t c =
    ap is_ok (join_typed _ _ c.requires.tables c.args.node.now c.in-Join.a c.in-Join.b _ _ c.in_ok-left-in-Join.left c.in_ok-right-in-Join.right c.in-Join.is c.get.ensures c.get-in-Join.ensures c.requires.meant
    (c.in_ok-left-in-Join.ensures c.requires.tables c.requires.newest) (c.in_ok-right-in-Join.ensures c.requires.tables c.requires.newest))

pub table_of-requires-in-Union : goal.table_of-requires-in-Union
table_of-requires-in-Union g t c =
    let s = nodes_Union c.in-Union.a c.in-Union.b in
    let e = ap nodes c.in-Union.is in
    let r = ap (λ (n : Node). nodes n.op) c.get-in-Union.ensures in
    (omega (arith, s, e, r), record { tables = c.requires.tables; newest = c.requires.newest; meant = union_left _ _ c.requires.tables c.args.node.now c.in-Union.a c.in-Union.b _ c.in-Union.is c.get-in-Union.ensures c.requires.meant })

pub table_of-requires-in-Union-2 : goal.table_of-requires-in-Union-2
table_of-requires-in-Union-2 g t c =
    let s = nodes_Union c.in-Union.a c.in-Union.b in
    let e = ap nodes c.in-Union.is in
    let r = ap (λ (n : Node). nodes n.op) c.get-in-Union-2.ensures in
    (omega (arith, s, e, r), record { tables = c.requires.tables; newest = c.requires.newest; meant = union_right _ _ c.requires.tables c.args.node.now c.in-Union.a c.in-Union.b _ c.in-Union.is c.get-in-Union-2.ensures c.requires.meant })

pub union-requires : goal.union-requires
union-requires g t c =
    ap is_ok (union_typed _ _ c.requires.tables c.args.node.now c.in-Union.a c.in-Union.b _ _ c.in_ok-left-in-Union.left c.in_ok-right-in-Union.right c.in-Union.is c.get-in-Union.ensures c.get-in-Union-2.ensures c.requires.meant
    (c.in_ok-left-in-Union.ensures c.requires.tables c.requires.newest) (c.in_ok-right-in-Union.ensures c.requires.tables c.requires.newest))

pub table_of-requires-in-Join-op : goal.table_of-requires-in-Join-op
table_of-requires-in-Join-op g t c =
    let below = agg_below _ _ c.requires.tables c.args.node.now c.in-Agg.a _ c.in-Agg.keys c.in-Agg.is c.get-in-Agg.ensures c.requires.meant in
    let s = nodes_Agg c.in-Agg.a c.in-Agg.keys in
    let e = ap nodes c.in-Agg.is in
    let r = ap (λ (n : Node). nodes n.op) c.get-in-Agg.ensures in
    let u = nodes_Join c.in-Join-op.left c.in-Join-op.right in
    let f = ap nodes c.in-Join-op.is in
    let v = ap (λ (n : Node). nodes n.op) c.get-in-Join-op.ensures in
    (omega (arith, s, e, r, u, f, v), record { tables = c.requires.tables; newest = c.requires.newest; meant = join_left _ _ c.requires.tables _ c.in-Join-op.left c.in-Join-op.right _ c.in-Join-op.is c.get-in-Join-op.ensures below })

pub table_of-requires-in-Join-op-2 : goal.table_of-requires-in-Join-op-2
table_of-requires-in-Join-op-2 g t c =
    let below = agg_below _ _ c.requires.tables c.args.node.now c.in-Agg.a _ c.in-Agg.keys c.in-Agg.is c.get-in-Agg.ensures c.requires.meant in
    let s = nodes_Agg c.in-Agg.a c.in-Agg.keys in
    let e = ap nodes c.in-Agg.is in
    let r = ap (λ (n : Node). nodes n.op) c.get-in-Agg.ensures in
    let u = nodes_Join c.in-Join-op.left c.in-Join-op.right in
    let f = ap nodes c.in-Join-op.is in
    let v = ap (λ (n : Node). nodes n.op) c.get-in-Join-op-2.ensures in
    (omega (arith, s, e, r, u, f, v), record { tables = c.requires.tables; newest = c.requires.newest; meant = join_right _ _ c.requires.tables _ c.in-Join-op.left c.in-Join-op.right _ c.in-Join-op.is c.get-in-Join-op-2.ensures below })

pub agg_of_join-requires-clause-joined : goal.agg_of_join-requires-clause-joined
agg_of_join-requires-clause-joined g t c =
    ap is_ok (join_typed _ _ c.requires.tables _ c.in-Join-op.left c.in-Join-op.right _ _ c.in_ok-left-in-Agg.left c.in_ok-right-in-Agg.right c.in-Join-op.is c.get-in-Join-op.ensures c.get-in-Join-op-2.ensures
    (agg_below _ _ c.requires.tables c.args.node.now c.in-Agg.a _ c.in-Agg.keys c.in-Agg.is c.get-in-Agg.ensures c.requires.meant) (c.in_ok-left-in-Agg.ensures c.requires.tables c.requires.newest)
    (c.in_ok-right-in-Agg.ensures c.requires.tables c.requires.newest))

pub agg_of_join-requires-clause-summed : goal.agg_of_join-requires-clause-summed
agg_of_join-requires-clause-summed g t c =
    ap is_ok (agg_join_typed _ _ c.requires.tables c.args.node.now c.in-Agg.a _ c.in-Join-op.left c.in-Join-op.right _ _ c.in-Agg.keys c.in_ok-left-in-Agg.left c.in_ok-right-in-Agg.right c.in-Agg.is c.get-in-Agg.ensures
    c.in-Join-op.is c.get-in-Join-op.ensures c.get-in-Join-op-2.ensures c.requires.meant (c.in_ok-left-in-Agg.ensures c.requires.tables c.requires.newest) (c.in_ok-right-in-Agg.ensures c.requires.tables c.requires.newest))

pub returns-in-Join-op : goal.returns-in-Join-op
returns-in-Join-op g t c =
    λ ts newest. ok_is c.agg_of_join.result _ _
    (agg_join_means _ _ ts c.args.node.now c.in-Agg.a _ c.in-Join-op.left c.in-Join-op.right _ _ c.in-Agg.keys c.in_ok-left-in-Agg.left c.in_ok-right-in-Agg.right c.in-Agg.is c.get-in-Agg.ensures c.in-Join-op.is
    c.get-in-Join-op.ensures c.get-in-Join-op-2.ensures (c.in_ok-left-in-Agg.ensures ts newest) (c.in_ok-right-in-Agg.ensures ts newest)) c.agg_of_join.ensures

pub table_of-requires-in-Agg : goal.table_of-requires-in-Agg
table_of-requires-in-Agg g t c =
    let s = nodes_Agg c.in-Agg.a c.in-Agg.keys in
    let e = ap nodes c.in-Agg.is in
    let r = ap (λ (n : Node). nodes n.op) c.get-in-Agg-2.ensures in
    (omega (arith, s, e, r), record { tables = c.requires.tables; newest = c.requires.newest; meant = agg_below _ _ c.requires.tables c.args.node.now c.in-Agg.a _ c.in-Agg.keys c.in-Agg.is c.get-in-Agg-2.ensures c.requires.meant })

pub agg-requires : goal.agg-requires
agg-requires g t c =
    ap is_ok (agg_typed _ _ c.requires.tables c.args.node.now c.in-Agg.a _ c.in-Agg.keys c.in_ok-table-in-Agg.table c.in-Agg.is c.get-in-Agg-2.ensures c.requires.meant (c.in_ok-table-in-Agg.ensures c.requires.tables c.requires.newest))

pub returns-in-Load : goal.returns-in-Load
returns-in-Load g t c = λ ts newest. ok_is c.copy_named.result _ _ (load_means _ _ ts c.args.node.now c.in-Load.name c.in-Load.is) c.copy_named.ensures

pub returns-in-Named : goal.returns-in-Named
returns-in-Named g t c = λ ts newest. ok_is c.copy_of.result _ _ (name_means _ _ ts c.args.node.now c.in-Named.name c.in-Named.is) (c.copy_of.ensures ts newest)

pub returns-in-Literal : goal.returns-in-Literal
returns-in-Literal g t c = λ ts newest. ok_is c.total.result _ _ (literal_means _ _ ts c.args.node.now c.in-Literal.entries c.in-Literal.is) c.total.ensures.table

pub returns-in_ok-right-in-Join : goal.returns-in_ok-right-in-Join
returns-in_ok-right-in-Join g t c =
    λ ts newest. ok_is c.join.result _ _
    (join_means _ _ ts c.args.node.now c.in-Join.a c.in-Join.b _ _ c.in_ok-left-in-Join.left c.in_ok-right-in-Join.right c.in-Join.is c.get.ensures c.get-in-Join.ensures (c.in_ok-left-in-Join.ensures ts newest)
    (c.in_ok-right-in-Join.ensures ts newest)) c.join.ensures

pub returns-in_ok-right-in-Union : goal.returns-in_ok-right-in-Union
returns-in_ok-right-in-Union g t c =
    λ ts newest. ok_is c.union.result _ _
    (union_means _ _ ts c.args.node.now c.in-Union.a c.in-Union.b _ _ c.in_ok-left-in-Union.left c.in_ok-right-in-Union.right c.in-Union.is c.get-in-Union.ensures c.get-in-Union-2.ensures
    (c.in_ok-left-in-Union.ensures ts newest) (c.in_ok-right-in-Union.ensures ts newest)) c.union.ensures

pub returns-in_ok-table-in-Agg : goal.returns-in_ok-table-in-Agg
returns-in_ok-table-in-Agg g t c =
    λ ts newest. ok_is c.agg.result _ _ (agg_means _ _ ts c.args.node.now c.in-Agg.a _ c.in-Agg.keys c.in_ok-table-in-Agg.table c.in-Agg.is c.get-in-Agg-2.ensures (c.in_ok-table-in-Agg.ensures ts newest)) c.agg.ensures

pub table_of-requires-in-Map : goal.table_of-requires-in-Map
table_of-requires-in-Map g t c =
    let s = nodes_Map c.in-Map.a c.in-Map.defs in
    let e = ap nodes c.in-Map.is in
    let r = ap (λ (n : Node). nodes n.op) c.get-in-Map.ensures in
    (omega (arith, s, e, r), record { tables = c.requires.tables; newest = c.requires.newest; meant = map_below _ _ c.requires.tables c.args.node.now c.in-Map.a _ c.in-Map.defs c.in-Map.is c.get-in-Map.ensures c.requires.meant })

pub map_table-requires-clause-some : goal.map_table-requires-clause-some
map_table-requires-clause-some g t c = map_some _ _ c.requires.tables c.args.node.now c.in-Map.a c.in-Map.defs c.in-Map.is c.requires.meant

pub map_table-requires-clause-typed : goal.map_table-requires-clause-typed
map_table-requires-clause-typed g t c =
    ap is_ok (map_typed _ _ c.requires.tables c.args.node.now c.in-Map.a _ c.in-Map.defs c.in_ok-table-in-Map.table c.in-Map.is c.get-in-Map.ensures c.requires.meant (c.in_ok-table-in-Map.ensures c.requires.tables c.requires.newest))

pub returns-in_ok-table-in-Map : goal.returns-in_ok-table-in-Map
returns-in_ok-table-in-Map g t c =
    λ ts newest. ok_is c.map_table.result _ _
    (map_is_ext _ c.in_ok-table-in-Map.table c.in-Map.defs _ refl ∙ map_means _ _ ts c.args.node.now c.in-Map.a _ c.in-Map.defs c.in_ok-table-in-Map.table c.in-Map.is c.get-in-Map.ensures (c.in_ok-table-in-Map.ensures ts newest))
    c.map_table.ensures

pub table_of-requires-in-Filter : goal.table_of-requires-in-Filter
table_of-requires-in-Filter g t c =
    let s = nodes_Filter c.in-Filter.a c.in-Filter.test in
    let e = ap nodes c.in-Filter.is in
    let r = ap (λ (n : Node). nodes n.op) c.get-in-Filter.ensures in
    (omega (arith, s, e, r), record { tables = c.requires.tables; newest = c.requires.newest; meant = filter_below _ _ c.requires.tables c.args.node.now c.in-Filter.a _ c.in-Filter.test c.in-Filter.is c.get-in-Filter.ensures c.requires.meant })

pub returns-in_ok-table-in-Filter : goal.returns-in_ok-table-in-Filter
returns-in_ok-table-in-Filter g t c =
    λ ts newest. ok_is c.filter_table.result _ _
    (filter_is_ext _ c.in_ok-table-in-Filter.table c.in-Filter.test _ refl ∙ filter_means _ _ ts c.args.node.now c.in-Filter.a _ c.in-Filter.test c.in_ok-table-in-Filter.table c.in-Filter.is c.get-in-Filter.ensures (c.in_ok-table-in-Filter.ensures ts newest))
    c.filter_table.ensures

pub table_of-requires-in-Promote : goal.table_of-requires-in-Promote
table_of-requires-in-Promote g t c =
    let s = nodes_Promote c.in-Promote.a c.in-Promote.def in
    let e = ap nodes c.in-Promote.is in
    let r = ap (λ (n : Node). nodes n.op) c.get-in-Promote.ensures in
    (omega (arith, s, e, r), record { tables = c.requires.tables; newest = c.requires.newest; meant = promote_below _ _ c.requires.tables c.args.node.now c.in-Promote.a _ c.in-Promote.def c.in-Promote.is c.get-in-Promote.ensures c.requires.meant })

pub promote_table-requires : goal.promote_table-requires
promote_table-requires g t c =
    ap is_ok (promote_typed _ _ c.requires.tables c.args.node.now c.in-Promote.a _ c.in-Promote.def c.in_ok-table-in-Promote.table c.in-Promote.is c.get-in-Promote.ensures c.requires.meant (c.in_ok-table-in-Promote.ensures c.requires.tables c.requires.newest))

pub returns-in_ok-table-in-Promote : goal.returns-in_ok-table-in-Promote
returns-in_ok-table-in-Promote g t c =
    λ ts newest. ok_is c.promote_table.result _ _
    (promote_is_ext _ c.in_ok-table-in-Promote.table c.in-Promote.def _ refl ∙ promote_means _ _ ts c.args.node.now c.in-Promote.a _ c.in-Promote.def c.in_ok-table-in-Promote.table c.in-Promote.is c.get-in-Promote.ensures (c.in_ok-table-in-Promote.ensures ts newest))
    c.promote_table.ensures

pub table_of-requires-in-Rename : goal.table_of-requires-in-Rename
table_of-requires-in-Rename g t c =
    let s = nodes_Rename c.in-Rename.a c.in-Rename.pairs in
    let e = ap nodes c.in-Rename.is in
    let r = ap (λ (n : Node). nodes n.op) c.get-in-Rename.ensures in
    (omega (arith, s, e, r), record { tables = c.requires.tables; newest = c.requires.newest; meant = rename_below _ _ c.requires.tables c.args.node.now c.in-Rename.a _ c.in-Rename.pairs c.in-Rename.is c.get-in-Rename.ensures c.requires.meant })

pub rename-requires : goal.rename-requires
rename-requires g t c =
    ap is_ok (rename_typed _ _ c.requires.tables c.args.node.now c.in-Rename.a _ c.in-Rename.pairs c.in_ok-table-in-Rename.table c.in-Rename.is c.get-in-Rename.ensures c.requires.meant (c.in_ok-table-in-Rename.ensures c.requires.tables c.requires.newest))

pub returns-in_ok-table-in-Rename : goal.returns-in_ok-table-in-Rename
returns-in_ok-table-in-Rename g t c =
    λ ts newest. ok_is c.rename.result _ _ (rename_means _ _ ts c.args.node.now c.in-Rename.a _ c.in-Rename.pairs c.in_ok-table-in-Rename.table c.in-Rename.is c.get-in-Rename.ensures (c.in_ok-table-in-Rename.ensures ts newest)) c.rename.ensures

pub returns-in-Apply : goal.returns-in-Apply
returns-in-Apply g t c = absurd (no_apply _ _ _ c.args.node.now _ _ c.in-Apply.is c.requires.meant)
