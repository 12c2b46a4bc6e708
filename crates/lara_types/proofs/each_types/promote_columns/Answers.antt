use Rattle.std.proofs.Common.{ap, ◌∙◌, ◌≡◌, ◌++◌, ◌∷◌, []}
use Rattle.lara_data.specs.TableTypes.{Columns}
use Rattle.lara_types.proofs.EachTypes.{promote_is, promote_makes}
use Rattle.lara_types.proofs.each_types.promote_columns.Goals as goal

pub invariant_of-result : goal.invariant_of-result
invariant_of-result c =
    let k : c.push.new.self ≡ c.args.a.now.keys ++ c.args.def.now.col ∷ [] = c.in_ok-push.ensures.ok ∙ (λ i. (c.in_ok-keys.ensures.same ∙ ap (λ (t : Columns). t.keys) c.a.view_is) i ++ c.in_ok-copy.ensures i ∷ []) in
    promote_makes c.args.a.now c.args.def.now _ _ (record { keys = c.a.inside.keys; vals = c.a.inside.vals }) c.a.invariant c.a.view_is c.requires k (c.in_ok-vals.ensures.same ∙ ap (λ (t : Columns). t.vals) c.a.view_is)

pub returns : goal.returns
returns c =
    let k : c.push.new.self ≡ c.args.a.now.keys ++ c.args.def.now.col ∷ [] = c.in_ok-push.ensures.ok ∙ (λ i. (c.in_ok-keys.ensures.same ∙ ap (λ (t : Columns). t.keys) c.a.view_is) i ++ c.in_ok-copy.ensures i ∷ []) in
    promote_is c.args.a.now c.args.def.now _ _ k (c.in_ok-vals.ensures.same ∙ ap (λ (t : Columns). t.vals) c.a.view_is)
