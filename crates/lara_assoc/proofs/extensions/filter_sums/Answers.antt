use Rattle.std.proofs.Common.{rules, ◌≡◌, ◌∙◌, sym}
use Rattle.lara_data.specs.TableTypes.{types}
use Rattle.lara_data.specs.ExprValues.{is_true, value_of}
use Rattle.lara_assoc.specs.EachEntries.{kept}
use Rattle.lara_assoc.proofs.EachFacts.{kept_step, left_out_step}
use Rattle.lara_assoc.proofs.SumFacts.{first_typed, rest_typed}
use Rattle.lara_assoc.proofs.extensions.filter_sums.Goals as goal

pub add-requires : goal.add-requires
add-requires c =
    first_typed (types c.args.a.now.ty.vals) c.loop-key.sums.types c.in-Some.key.now c.in-Some.row.now c.in_ok-copy-2.field-0 c.loop-key.key-iterator c.next.new.self c.loop-key.invariant.left.types c.in-Some.ensures.steps
    c.loop-key.invariant.typed c.in_ok-copy-2.ensures.same

pub loop-key-preserved-in_ok-add : goal.loop-key-preserved-in_ok-add
loop-key-preserved-in_ok-add c =
    let test : c.in_ok-passes.field-0 ≡ is_true (value_of c.args.a.now.ty c.in-Some.key.now c.in-Some.row.now c.args.test.now) = search rules in
    record {
      left =
          kept_step (kept c.args.a.now.ty c.args.test.now) (types c.args.a.now.ty.vals) c.loop-key.sums c.add.new.self c.loop-key.key-iterator c.next.new.self c.in-Some.key.now c.in-Some.row.now
          (record { key = c.in_ok-copy.field-0; row = c.in_ok-copy-2.field-0 }) _ c.in-Some.ensures.steps (sym test ∙ c.if-branch.true) (λ i. record { key = c.in_ok-copy.ensures.same i; row = c.in_ok-copy-2.ensures.same i })
          c.in_ok-add.ensures.types c.in_ok-add.ensures.sums c.loop-key.invariant.left;
      typed = rest_typed (types c.args.a.now.ty.vals) c.in-Some.key.now c.in-Some.row.now c.loop-key.key-iterator c.next.new.self c.in-Some.ensures.steps c.loop-key.invariant.typed;
    }

pub loop-key-preserved : goal.loop-key-preserved
loop-key-preserved c =
    let test : c.in_ok-passes.field-0 ≡ is_true (value_of c.args.a.now.ty c.in-Some.key.now c.in-Some.row.now c.args.test.now) = search rules in
    record {
      left =
          left_out_step (kept c.args.a.now.ty c.args.test.now) (types c.args.a.now.ty.vals) c.loop-key.sums c.loop-key.key-iterator c.next.new.self c.in-Some.key.now c.in-Some.row.now _ c.in-Some.ensures.steps
          (sym test ∙ c.if-branch.false) c.loop-key.invariant.left;
      typed = rest_typed (types c.args.a.now.ty.vals) c.in-Some.key.now c.in-Some.row.now c.loop-key.key-iterator c.next.new.self c.in-Some.ensures.steps c.loop-key.invariant.typed;
    }
