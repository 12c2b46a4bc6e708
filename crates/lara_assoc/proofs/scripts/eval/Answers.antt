use Rattle.std.proofs.Common.{◌≡◌, ◌<◌, ◌≤◌, List, length, refl, ◌∙◌, subst, get_or}
use Rattle.lara_data.specs.declared.script.Statement.{Statement}
use Rattle.lara_data.specs.TypedScripts.{ScriptTyped}
use Rattle.lara_assoc.proofs.RunningFacts.{run_begins, can_run, run_more, run_counts, run_ends}
use Rattle.lara_assoc.proofs.scripts.eval.Goals as goal

pub loop-statement-init : goal.loop-statement-init
loop-statement-init g c = record { run = run_begins _ _ _ c.args.script.now refl c.new.ensures c.new-2.ensures c.new-3.ensures; counted = refl }

pub run-requires-clause-can : goal.run-requires-clause-can
run-requires-clause-can g c =
    let i = c.loop-statement.statement-index in
    let all = c.as_slice-statement-items.ensures ∙ c.script.view_is in
    let within = subst (λ (ss : List Statement). i < length ss) all c.loop-statement-test.true in
    let here = subst (λ (ss : List Statement). c.statement-item.result ≡ get_or ss i c.statement-item.result) all c.statement-item.is in
    let typed = subst (λ (ss : List Statement). ScriptTyped ss) c.script.view_is c.script.invariant in
    can_run _ _ c.args.script.now i c.statement-item.result c.loop-statement.running c.are_typed.ensures typed c.requires.fits within here c.loop-statement.invariant.run

pub loop-statement-preserved : goal.loop-statement-preserved
loop-statement-preserved g c =
    let i = c.loop-statement.statement-index in
    let all = c.as_slice-statement-items.ensures ∙ c.script.view_is in
    let within = subst (λ (ss : List Statement). i < length ss) all c.loop-statement-test.true in
    let here = subst (λ (ss : List Statement). c.statement-item.result ≡ get_or ss i c.statement-item.result) all c.statement-item.is in
    let more = c.in_ok-run.ensures _ c.loop-statement.invariant.run in
    record {
      run = run_more _ _ c.args.script.now i c.statement-item.result c.loop-statement.running c.run.new.self within here more;
      counted = run_counts _ _ c.args.script.now i c.statement-item.result c.loop-statement.running c.run.new.self c.loop-statement.invariant.counted c.loop-statement.invariant.run more;
    }

pub returns : goal.returns
returns g c =
    let i = c.loop-statement.statement-index in
    let past = subst (λ (ss : List Statement). length ss ≤ i) (c.as_slice-statement-items.ensures ∙ c.script.view_is) c.loop-statement-test.false in
    run_ends _ _ c.args.script.now i c.loop-statement.running past c.loop-statement.invariant.run
