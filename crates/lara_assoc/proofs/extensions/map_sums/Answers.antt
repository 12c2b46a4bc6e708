use Rattle.std.proofs.Common.{rules, ◌≡◌}
use Rattle.lara_data.specs.TableTypes.{types}
use Rattle.lara_data.specs.TypedTables.{KeyHas}
use Rattle.lara_data.specs.Extensions.{defined_row}
use Rattle.lara_assoc.specs.EachEntries.{mapped}
use Rattle.lara_assoc.proofs.EachFacts.{computed_typed, rest_keys}
use Rattle.lara_assoc.proofs.SumFacts.{rest_typed, mapped_step}
use Rattle.lara_assoc.proofs.extensions.map_sums.Goals as goal

pub add-requires : goal.add-requires
add-requires c =
    let row : c.in_ok-computed.computed ≡ defined_row c.args.a.now.ty c.args.defs.now (record { key = c.in-Some.key.now; row = c.in-Some.row.now }) = search rules in
    computed_typed c.args.a.now.ty c.args.defs.now c.args.ty.now c.loop-key.sums.types c.in-Some.key.now c.in-Some.row.now c.in_ok-computed.computed c.loop-key.key-iterator c.next.new.self c.requires.typed
    c.loop-key.invariant.left.types row c.in-Some.ensures.steps c.loop-key.invariant.typed c.loop-key.invariant.keys

pub loop-key-preserved : goal.loop-key-preserved
loop-key-preserved c =
    let row : c.in_ok-computed.computed ≡ defined_row c.args.a.now.ty c.args.defs.now (record { key = c.in-Some.key.now; row = c.in-Some.row.now }) = search rules in
    record {
      left =
          mapped_step (mapped c.args.a.now.ty c.args.defs.now) (types c.args.ty.now.vals) c.loop-key.sums c.add.new.self c.loop-key.key-iterator c.next.new.self c.in-Some.key.now c.in-Some.row.now
          (record { key = c.in_ok-copy.field-0; row = c.in_ok-computed.computed }) _ c.in-Some.ensures.steps (λ i. record { key = c.in_ok-copy.ensures.same i; row = row i }) c.in_ok-add.ensures.types c.in_ok-add.ensures.sums
          c.loop-key.invariant.left;
      typed = rest_typed (types c.args.a.now.ty.vals) c.in-Some.key.now c.in-Some.row.now c.loop-key.key-iterator c.next.new.self c.in-Some.ensures.steps c.loop-key.invariant.typed;
      keys = rest_keys (KeyHas c.args.a.now.ty.keys) c.in-Some.key.now c.in-Some.row.now c.loop-key.key-iterator c.next.new.self c.in-Some.ensures.steps c.loop-key.invariant.keys;
    }
