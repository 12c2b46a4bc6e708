use Rattle.std.proofs.Common.{rules, ◌≡◌, [], ◌∙◌}
use Rattle.lara_data.specs.TableTypes.{types, are_columns}
use Rattle.lara_data.specs.Algebra.{heading, shares, union_columns}
use Rattle.lara_assoc.proofs.RuleFacts.{union_fine, union_sums}
use Rattle.lara_assoc.proofs.SumFacts.{both_added}
use Rattle.lara_assoc.proofs.TableFacts.{ok_is, union_is}
use Rattle.lara_assoc.proofs.unions.union.Goals as goal

pub union_columns-requires : goal.union_columns-requires
union_columns-requires c =
    (λ i.
    let s = c.ty.ensures.columns i in
    let t = c.ty-2.ensures.columns i in
    are_columns (union_columns s t).keys (union_columns s t).vals)
    ∙ union_fine c.args.a.now c.args.b.now c.ty.ensures.typed c.ty-2.ensures.typed c.requires

pub of_sums-requires : goal.of_sums-requires
of_sums-requires c =
    let ty = c.in_ok-ty.ty in
    let xs = shares (heading c.args.a.now.ty) (heading ty) c.args.a.now.entries in
    let ys = shares (heading c.args.b.now.ty) (heading ty) c.args.b.now.entries in
    let begun : c.in_ok-sums.sums ≡ record { types = types ty.vals; entries = [] } = search rules in
    let typed : c.add_shares-2.new.sums.types ≡ types ty.vals = search rules in
    let same = both_added (types ty.vals) c.in_ok-sums.sums c.add_shares.new.sums c.add_shares-2.new.sums xs ys begun c.in_ok-add_shares.ensures.types c.in_ok-add_shares.ensures.sums c.in_ok-add_shares-2.ensures.types
    c.in_ok-add_shares-2.ensures.sums in
    union_sums c.args.a.now c.args.b.now ty c.add_shares-2.new.sums (c.in_ok-ty.ensures ∙ (λ i. union_columns (c.ty.ensures.columns i) (c.ty-2.ensures.columns i))) c.ty.ensures.typed c.ty-2.ensures.typed c.requires typed same

pub returns : goal.returns
returns c =
    let ty = c.in_ok-ty.ty in
    let xs = shares (heading c.args.a.now.ty) (heading ty) c.args.a.now.entries in
    let ys = shares (heading c.args.b.now.ty) (heading ty) c.args.b.now.entries in
    let begun : c.in_ok-sums.sums ≡ record { types = types ty.vals; entries = [] } = search rules in
    let same = both_added (types ty.vals) c.in_ok-sums.sums c.add_shares.new.sums c.add_shares-2.new.sums xs ys begun c.in_ok-add_shares.ensures.types c.in_ok-add_shares.ensures.sums c.in_ok-add_shares-2.ensures.types
    c.in_ok-add_shares-2.ensures.sums in
    ok_is c.of_sums.result _ _ (union_is c.args.a.now c.args.b.now ty (c.in_ok-ty.ensures ∙ (λ i. union_columns (c.ty.ensures.columns i) (c.ty-2.ensures.columns i)))) (c.of_sums.ensures _ same)
