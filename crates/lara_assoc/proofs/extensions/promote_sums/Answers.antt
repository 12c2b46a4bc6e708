use Rattle.std.proofs.Common.{rules, ◌≡◌}
use Rattle.lara_data.specs.TableTypes.{types}
use Rattle.lara_data.specs.Extensions.{promoted_key}
use Rattle.lara_assoc.specs.EachEntries.{promoted}
use Rattle.lara_assoc.proofs.SumFacts.{first_typed, rest_typed, mapped_step}
use Rattle.lara_assoc.proofs.extensions.promote_sums.Goals as goal

pub add-requires : goal.add-requires
add-requires c =
    first_typed (types c.args.a.now.ty.vals) c.loop-key.sums.types c.in-Some.key.now c.in-Some.row.now c.in_ok-copy.field-0 c.loop-key.key-iterator c.next.new.self c.loop-key.invariant.left.types c.in-Some.ensures.steps
    c.loop-key.invariant.typed c.in_ok-copy.ensures.same

pub loop-key-preserved : goal.loop-key-preserved
loop-key-preserved c =
    let key : c.in_ok-longer.longer ≡ promoted_key c.args.a.now.ty c.args.def.now (record { key = c.in-Some.key.now; row = c.in-Some.row.now }) = search rules in
    record {
      left =
          mapped_step (promoted c.args.a.now.ty c.args.def.now) (types c.args.a.now.ty.vals) c.loop-key.sums c.add.new.self c.loop-key.key-iterator c.next.new.self c.in-Some.key.now c.in-Some.row.now
          (record { key = c.in_ok-longer.longer; row = c.in_ok-copy.field-0 }) _ c.in-Some.ensures.steps (λ i. record { key = key i; row = c.in_ok-copy.ensures.same i }) c.in_ok-add.ensures.types c.in_ok-add.ensures.sums
          c.loop-key.invariant.left;
      typed = rest_typed (types c.args.a.now.ty.vals) c.in-Some.key.now c.in-Some.row.now c.loop-key.key-iterator c.next.new.self c.in-Some.ensures.steps c.loop-key.invariant.typed;
    }
