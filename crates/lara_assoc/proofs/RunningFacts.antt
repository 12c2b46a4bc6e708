-- The statements of a script, run one after the other.
use Rattle.std.specs.Prelude.{◌≡◌, ◌<◌, ◌≤◌, ◌+◌, ℕ, List, [], take, length}
use Rattle.std.proofs.Common.{refl, sym, ap, ◌∙◌, subst, get_or, add-one}
use Rattle.std.proofs.Math.Seq.{take-suc}
use Rattle.std.proofs.lemmas.List.{take_all}
use Rattle.lara_data.specs.declared.schema.Schema.{Schema}
use Rattle.lara_data.specs.declared.script.Statement.{Statement}
use Rattle.lara_data.specs.declared.script.Statement.TheVariants.{Assign, Print, Store}
use Rattle.lara_data.specs.Plugins.{Plugins}
use Rattle.lara_data.specs.Fits.{ScriptFits, StatementFits, TablesTyped, KnownHaveTables}
use Rattle.lara_data.specs.TypedScripts.{ScriptTyped, StatementTyped, all_known}
use Rattle.lara_data.specs.ScriptLaws.{typed_item, fits_item, after_all-more, KnownHaveTables-take}
use Rattle.lara_data.specs.Denotations as denoted
use Rattle.lara_data.specs.Denotations.{Database, NamedTable, after, after_all, denotation}
use Rattle.lara_assoc.specs.declared.scripts.Running.{Running}
use Rattle.lara_assoc.specs.Newest.{HasNewest}
use Rattle.lara_assoc.specs.RunningScripts.{IsRunning, CanRun}

counts : (ps : Plugins) (db : Database) (r : denoted.Running) (s : Statement) → (after ps db r s).statement ≡ r.statement + 1
counts ps db r (Assign n t) = refl
counts ps db r (Print n o) = refl
counts ps db r (Store o n) = refl

can : (ps : Plugins) (db : Database) (e : Running) (known : List Schema) (tables : List NamedTable) → KnownHaveTables db known tables → HasNewest e.assigned.tables tables → (s : Statement) → StatementTyped known s → StatementFits ps db s → CanRun ps db e s
can ps db e known tables stands is (Assign n node) typed fits = record { tables = tables; newest = is; meant = record { known = known; stands = stands; typed = typed; fits = fits } }
can ps db e known tables stands is (Print n o) typed fits = tt
can ps db e known tables stands is (Store o n) typed fits = tt

pub run_begins : (ps : Plugins) (db : Database) (e : Running) (ss : List Statement) → e.statement ≡ 0 → HasNewest e.assigned.tables [] → e.prints ≡ [] → e.stores ≡ [] → IsRunning e (after_all ps db (take 0 ss))
unfolding after_all
run_begins ps db e ss s t p q = record { statement = s; tables = t; prints = p; stores = q }

module _ (ps : Plugins) (db : Database) (ss : List Statement) (i : ℕ) (s : Statement) (e : Running) where
  pub can_run : TablesTyped db → ScriptTyped ss → ScriptFits ps db ss → i < length ss → s ≡ get_or ss i s → IsRunning e (after_all ps db (take i ss)) → CanRun ps db e s
  can_run stored typed fits within here run =
      can ps db e (all_known [] (take i ss)) (after_all ps db (take i ss)).tables (KnownHaveTables-take ps db ss i stored typed fits) run.tables s (typed_item [] ss i s typed within here) (fits_item ps db ss i s fits within here)

  pub run_more : (new : Running) → i < length ss → s ≡ get_or ss i s → IsRunning new (after ps db (after_all ps db (take i ss)) s) → IsRunning new (after_all ps db (take (i + 1) ss))
  run_more new within here run =
      subst (λ (r : denoted.Running). IsRunning new r) (sym (rw (add-one, take-suc ss i s within, ← here) (after_all-more ps db (take i ss) s))) run

  pub run_counts : (new : Running) → e.statement ≡ i → IsRunning e (after_all ps db (take i ss)) → IsRunning new (after ps db (after_all ps db (take i ss)) s) → new.statement ≡ i + 1
  run_counts new at run more = more.statement ∙ counts ps db (after_all ps db (take i ss)) s ∙ ap (λ n. n + 1) (sym run.statement ∙ at)

pub run_ends : (ps : Plugins) (db : Database) (ss : List Statement) (i : ℕ) (e : Running) → length ss ≤ i → IsRunning e (after_all ps db (take i ss)) → ◌≡◌ {A = denoted.Answers} (record { prints = e.prints; stores = e.stores }) (denotation ps db ss)
unfolding denotation
run_ends ps db ss i e past run =
    let whole : take i ss ≡ ss = take_all i ss past in
    (λ k. record { prints = (run.prints ∙ ap (λ (xs : List Statement). (after_all ps db xs).prints) whole) k; stores = (run.stores ∙ ap (λ (xs : List Statement). (after_all ps db xs).stores) whole) k })
