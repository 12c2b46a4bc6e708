use Rattle.std.proofs.Common.{arith, ap}
use Rattle.lara_syntax.specs.declared.ast.AstNode.{AstNode}
use Rattle.lara_types.specs.Sizes.{written_nodes}
use Rattle.lara_types.proofs.CheckEquations.{written_Join, written_Union, written_Agg, written_Map, written_Filter, written_Promote, written_Rename}
use Rattle.lara_types.proofs.trees.+node_of.Goals as goal

pub node_of-requires : goal.node_of-requires
node_of-requires g t c =
    let s = written_Join c.in-Join.a c.in-Join.b in
    let e = ap written_nodes c.in-Join.is in
    let r = ap (λ (n : AstNode). written_nodes n.op) c.get.ensures in
    (omega (arith, s, e, r), tt)

pub node_of-requires-in-Join : goal.node_of-requires-in-Join
node_of-requires-in-Join g t c =
    let s = written_Join c.in-Join.a c.in-Join.b in
    let e = ap written_nodes c.in-Join.is in
    let r = ap (λ (n : AstNode). written_nodes n.op) c.get-in-Join.ensures in
    (omega (arith, s, e, r), tt)

pub node_of-requires-in-Union : goal.node_of-requires-in-Union
node_of-requires-in-Union g t c =
    let s = written_Union c.in-Union.a c.in-Union.b in
    let e = ap written_nodes c.in-Union.is in
    let r = ap (λ (n : AstNode). written_nodes n.op) c.get-in-Union.ensures in
    (omega (arith, s, e, r), tt)

pub node_of-requires-in-Union-2 : goal.node_of-requires-in-Union-2
node_of-requires-in-Union-2 g t c =
    let s = written_Union c.in-Union.a c.in-Union.b in
    let e = ap written_nodes c.in-Union.is in
    let r = ap (λ (n : AstNode). written_nodes n.op) c.get-in-Union-2.ensures in
    (omega (arith, s, e, r), tt)

pub node_of-requires-in-Agg : goal.node_of-requires-in-Agg
node_of-requires-in-Agg g t c =
    let s = written_Agg c.in-Agg.a c.in-Agg.keys in
    let e = ap written_nodes c.in-Agg.is in
    let r = ap (λ (n : AstNode). written_nodes n.op) c.get-in-Agg.ensures in
    (omega (arith, s, e, r), tt)

pub node_of-requires-in-Map : goal.node_of-requires-in-Map
node_of-requires-in-Map g t c =
    let s = written_Map c.in-Map.a c.in-Map.defs in
    let e = ap written_nodes c.in-Map.is in
    let r = ap (λ (n : AstNode). written_nodes n.op) c.get-in-Map.ensures in
    (omega (arith, s, e, r), tt)

pub node_of-requires-in-Filter : goal.node_of-requires-in-Filter
node_of-requires-in-Filter g t c =
    let s = written_Filter c.in-Filter.a c.in-Filter.test in
    let e = ap written_nodes c.in-Filter.is in
    let r = ap (λ (n : AstNode). written_nodes n.op) c.get-in-Filter.ensures in
    (omega (arith, s, e, r), tt)

pub node_of-requires-in-Promote : goal.node_of-requires-in-Promote
node_of-requires-in-Promote g t c =
    let s = written_Promote c.in-Promote.a c.in-Promote.def in
    let e = ap written_nodes c.in-Promote.is in
    let r = ap (λ (n : AstNode). written_nodes n.op) c.get-in-Promote.ensures in
    (omega (arith, s, e, r), tt)

pub node_of-requires-in-Rename : goal.node_of-requires-in-Rename
node_of-requires-in-Rename g t c =
    let s = written_Rename c.in-Rename.a c.in-Rename.pairs in
    let e = ap written_nodes c.in-Rename.is in
    let r = ap (λ (n : AstNode). written_nodes n.op) c.get-in-Rename.ensures in
    (omega (arith, s, e, r), tt)
