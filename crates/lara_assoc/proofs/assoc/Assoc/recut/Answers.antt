use Rattle.lara_data.specs.TableTypes.{types, key_names}
use Rattle.std.proofs.Common.{rules, ◌∙◌}
use Rattle.lara_data.specs.Names.{cut}
use Rattle.lara_data.specs.Tables.{recut}
use Rattle.lara_assoc.specs.Places.{ArePlaces}
use Rattle.lara_assoc.proofs.SumFacts.{first_typed, rest_typed, mapped_step, mapped_end}
use Rattle.lara_assoc.proofs.assoc.Assoc.recut.Goals as goal

pub add-requires : goal.add-requires
add-requires c =
    first_typed (types c.args.self.now.ty.vals) c.loop-key.sums.types c.in-Some.key.now c.in-Some.row.now c.in_ok-copy.field-0 c.loop-key.key-iterator c.next.new.self c.loop-key.invariant.left.types
    c.in-Some.ensures.steps c.loop-key.invariant.typed c.in_ok-copy.ensures.same

pub loop-key-preserved : goal.loop-key-preserved
unfolding recut
loop-key-preserved c =
    let ns = key_names c.args.self.now.ty.keys in
    let places : ArePlaces ns c.args.order.now c.in_ok-places.places = search rules in
    let key = c.in_ok-picked.ensures ∙ places.cuts c.in-Some.key.now in
    record {
      left =
          mapped_step (λ e. record { key = cut ns c.args.order.now e.key; row = e.row }) (types c.args.self.now.ty.vals) c.loop-key.sums c.add.new.self c.loop-key.key-iterator c.next.new.self c.in-Some.key.now
          c.in-Some.row.now (record { key = c.in_ok-picked.field-0; row = c.in_ok-copy.field-0 }) _ c.in-Some.ensures.steps (λ i. record { key = key i; row = c.in_ok-copy.ensures.same i }) c.in_ok-add.ensures.types
          c.in_ok-add.ensures.sums c.loop-key.invariant.left;
      typed = rest_typed (types c.args.self.now.ty.vals) c.in-Some.key.now c.in-Some.row.now c.loop-key.key-iterator c.next.new.self c.in-Some.ensures.steps c.loop-key.invariant.typed;
    }

pub returns-clause-sums : goal.returns-clause-sums
unfolding recut
returns-clause-sums c =
    mapped_end (λ e. record { key = cut (key_names c.args.self.now.ty.keys) c.args.order.now e.key; row = e.row }) (types c.args.self.now.ty.vals) c.loop-key.sums c.loop-key.key-iterator _ c.in-None.ensures.steps.0
    c.loop-key.invariant.left
