use Rattle.std.proofs.Common.{rules, ◌≡◌, ◌∙◌}
use Rattle.lara_semiring.specs.Rows.{row_has}
use Rattle.lara_data.specs.TableTypes.{types, key_names}
use Rattle.lara_data.specs.Vals.{brought, brought_has}
use Rattle.lara_data.specs.Algebra.{heading, share, shares}
use Rattle.lara_assoc.specs.Places.{ArePlaces}
use Rattle.lara_assoc.proofs.SumFacts.{first_typed, rest_typed, mapped_step, mapped_end}
use Rattle.lara_assoc.proofs.unions.add_shares.Goals as goal

pub add-requires : goal.add-requires
add-requires c =
    let row : c.in_ok-brought.field-0 ≡ brought c.args.a.now.ty.vals c.args.ty.now.vals c.in-Some.row.now = search rules in
    let typed = first_typed (types c.args.a.now.ty.vals) (types c.args.a.now.ty.vals) c.in-Some.key.now c.in-Some.row.now c.in-Some.row.now c.loop-key.key-iterator c.next.new.self (λ i. types c.args.a.now.ty.vals)
    c.in-Some.ensures.steps c.loop-key.invariant.typed (λ i. c.in-Some.row.now) in
    (λ i. row_has (c.loop-key.invariant.left.types i) (row i)) ∙ brought_has c.args.a.now.ty.vals c.args.ty.now.vals c.in-Some.row.now typed

pub loop-key-preserved : goal.loop-key-preserved
unfolding shares
loop-key-preserved c =
    let row : c.in_ok-brought.field-0 ≡ brought c.args.a.now.ty.vals c.args.ty.now.vals c.in-Some.row.now = search rules in
    let places : ArePlaces (key_names c.args.a.now.ty.keys) (key_names c.args.ty.now.keys) c.in_ok-places.places = search rules in
    let key = c.in_ok-key.ensures ∙ places.cuts c.in-Some.key.now in
    record {
      left =
          mapped_step (share (heading c.args.a.now.ty) (heading c.args.ty.now)) (types c.args.ty.now.vals) c.loop-key.sums c.add.new.self c.loop-key.key-iterator c.next.new.self c.in-Some.key.now c.in-Some.row.now
          (record { key = c.in_ok-key.key; row = c.in_ok-brought.field-0 }) _ c.in-Some.ensures.steps (λ i. record { key = key i; row = row i }) c.in_ok-add.ensures.types c.in_ok-add.ensures.sums
          c.loop-key.invariant.left;
      typed = rest_typed (types c.args.a.now.ty.vals) c.in-Some.key.now c.in-Some.row.now c.loop-key.key-iterator c.next.new.self c.in-Some.ensures.steps c.loop-key.invariant.typed;
    }

pub returns-clause-sums : goal.returns-clause-sums
unfolding shares
returns-clause-sums c =
    rw (c.requires, ← c.loop-key.invariant.left.types)
    (mapped_end (share (heading c.args.a.now.ty) (heading c.args.ty.now)) (types c.args.ty.now.vals) c.loop-key.sums c.loop-key.key-iterator _ c.in-None.ensures.steps.0 c.loop-key.invariant.left)
