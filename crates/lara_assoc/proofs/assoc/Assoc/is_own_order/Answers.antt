use Rattle.std.proofs.Common.{rules, ◌≡◌, sym, ap, ◌∙◌}
use Rattle.lara_data.specs.Tables.{Table}
use Rattle.lara_assoc.specs.OwnOrders.{are_names}
use Rattle.lara_assoc.proofs.OrderFacts.{own_order, ordered_own}
use Rattle.lara_assoc.proofs.assoc.Assoc.is_own_order.Goals as goal

pub returns-clause-exact : goal.returns-clause-exact
returns-clause-exact c =
    let tested : c.are_names.result ≡ are_names c.self.inside.ty.keys c.args.order.now = search rules in
    own_order c.args.self.now.ty.keys c.args.order.now c.are_names.result (tested ∙ ap (λ (t : Table). are_names t.ty.keys c.args.order.now) c.self.view_is)

pub returns-clause-same : goal.returns-clause-same
returns-clause-same c =
    let tested : c.are_names.result ≡ are_names c.self.inside.ty.keys c.args.order.now = search rules in
    ordered_own _ c.args.self.now c.args.order.now c.are_names.result (sym c.self.view_is) c.self.invariant tested
