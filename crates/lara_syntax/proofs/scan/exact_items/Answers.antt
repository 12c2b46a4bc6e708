-- At the end, and where no token stands.
use Rattle.std.proofs.Common.{length, subst}
use Rattle.lara_syntax.specs.TokenWords.{GivesStep}
use Rattle.lara_syntax.proofs.ItemLaws.{all_items, stop_at-end}
use Rattle.lara_syntax.proofs.scan.exact_items.Goals as goal

pub returns-in-End : goal.returns-in-End
returns-in-End c =
    let e = subst (GivesStep (length c.args.bytes.now) c.loop-list.rest.now) c.in-End.is c.in_ok-step.ensures in
    all_items c.args.bytes.now c.loop-list.list c.loop-list.rest.now _ _ c.loop-list.invariant.0 e (stop_at-end (length c.args.bytes.now))

pub returns-in-Refused : goal.returns-in-Refused
returns-in-Refused c =
    let e = subst (GivesStep (length c.args.bytes.now) c.loop-list.rest.now) c.in-Refused.is c.in_ok-step.ensures in
    all_items c.args.bytes.now c.loop-list.list c.loop-list.rest.now e.0 _ c.loop-list.invariant.0 e.1 e.2
