-- Scripts statement by statement: what stays typed, what fits, and which tables stand for the names.
use Rattle.std.specs.Prelude.{◌≡◌, ℕ, ◌<◌, fold, List, [], ◌∷◌, ◌++◌, length, take}
use Rattle.std.proofs.Common.{refl, sym, subst, arith, get_or, zero, suc}
use Rattle.lara_data.specs.declared.schema.Schema.{Schema}
use Rattle.lara_data.specs.declared.script.Statement.{Statement}
use Rattle.lara_data.specs.declared.script.Statement.TheVariants.{Assign, Print, Store}
use Rattle.lara_data.specs.TypedScripts.{StatementTyped, known_after, all_known, AllTyped, ScriptTyped}
use Rattle.lara_data.specs.Plugins.{Plugins}
use Rattle.lara_data.specs.Denotations.{Database, meaning, Running, after, before_all, after_all}
use Rattle.lara_data.specs.Fits.{TablesTyped, TablesOf, StatementFits, ScriptFits, KnownHaveTables}
use Rattle.lara_data.specs.MeaningLaws.{TablesOf-more, IsTableOf-meaning}

-- ---- typed scripts

-- one statement more
pub AllTyped-more : (known : List Schema) (ss : List Statement) (s : Statement) → AllTyped known ss → StatementTyped (all_known known ss) s → AllTyped known (ss ++ s ∷ [])
unfolding AllTyped all_known
AllTyped-more known [] s h t = (t, tt)
AllTyped-more known (r ∷ ss) s h t = (h.0, AllTyped-more (known_after known r) ss s h.1 t)

pub all_known-more : (known : List Schema) (ss : List Statement) (s : Statement) → all_known known (ss ++ s ∷ []) ≡ known_after (all_known known ss) s
unfolding all_known
all_known-more known [] s = refl
all_known-more known (r ∷ ss) s = all_known-more (known_after known r) ss s

-- the statement at a place is typed where the names of those before it are known
pub typed_item : (known : List Schema) (ss : List Statement) (i : ℕ) (s : Statement) → AllTyped known ss → i < length ss → s ≡ get_or ss i s → StatementTyped (all_known known (take i ss)) s
unfolding AllTyped all_known
typed_item known [] i s h l e = absurd (omega (arith, l))
typed_item known (r ∷ ss) zero s h l e = subst (λ (x : Statement). StatementTyped known x) (sym e) h.0
typed_item known (r ∷ ss) (suc i) s h l e = typed_item (known_after known r) ss i s h.1 (omega (arith, l)) e

pub fits_item : (ps : Plugins) (db : Database) (ss : List Statement) (i : ℕ) (s : Statement) → ScriptFits ps db ss → i < length ss → s ≡ get_or ss i s → StatementFits ps db s
unfolding ScriptFits
fits_item ps db [] i s h l e = absurd (omega (arith, l))
fits_item ps db (r ∷ ss) zero s h l e = subst (λ (x : Statement). StatementFits ps db x) (sym e) h.0
fits_item ps db (r ∷ ss) (suc i) s h l e = fits_item ps db ss i s h.1 (omega (arith, l)) e

-- ---- running

pub after_all-more : (ps : Plugins) (db : Database) (ss : List Statement) (s : Statement) → after_all ps db (ss ++ s ∷ []) ≡ after ps db (after_all ps db ss) s
unfolding after_all
after_all-more ps db ss s = from before_all ss
  where
    from : (r : Running) (ss : List Statement) → fold (after ps db) r (ss ++ s ∷ []) ≡ after ps db (fold (after ps db) r ss) s
    from r [] = refl
    from r (q ∷ ss) = from (after ps db r q) ss

-- what is known has its tables after one more statement
pub KnownHaveTables-after : (ps : Plugins) (db : Database) (known : List Schema) (r : Running) (s : Statement) → KnownHaveTables db known r.tables → StatementTyped known s → StatementFits ps db s → KnownHaveTables db (known_after known s) (after ps db r s).tables
KnownHaveTables-after ps db known r (Assign name node) h t f =
    record {
      stored = h.stored;
      assigned = TablesOf-more known r.tables (record { name = name; ty = node.ty }) (record { name = name; table = meaning ps db r.tables node.op node.ty }) h.assigned refl (IsTableOf-meaning ps db known r.tables h node.op node.ty t f);
    }
KnownHaveTables-after ps db known r (Print name order) h t f = h
KnownHaveTables-after ps db known r (Store old new) h t f = h

stands_from : (ps : Plugins) (db : Database) (known : List Schema) (r : Running) (ss : List Statement) (i : ℕ) → KnownHaveTables db known r.tables → AllTyped known ss → ScriptFits ps db ss → KnownHaveTables db (fold known_after known (take i ss)) (fold (after ps db) r (take i ss)).tables
unfolding AllTyped ScriptFits
stands_from ps db known r ss zero h t f = h
stands_from ps db known r [] (suc i) h t f = h
stands_from ps db known r (s ∷ ss) (suc i) h t f = stands_from ps db (known_after known s) (after ps db r s) ss i (KnownHaveTables-after ps db known r s h t.0 f.0) t.1 f.1

-- what is known has its tables behind the first statements of a typed script that fits
pub KnownHaveTables-take : (ps : Plugins) (db : Database) (ss : List Statement) (i : ℕ) → TablesTyped db → ScriptTyped ss → ScriptFits ps db ss → KnownHaveTables db (all_known [] (take i ss)) (after_all ps db (take i ss)).tables
unfolding all_known after_all TablesOf
KnownHaveTables-take ps db ss i d t f = stands_from ps db [] before_all ss i (record { stored = d; assigned = tt }) t f
