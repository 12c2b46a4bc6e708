-- How far the evaluation of a script is.
use Rattle.std.specs.Prelude.{◌≡◌}
use Rattle.lara_data.specs.declared.script.Statement.{Statement}
use Rattle.lara_data.specs.declared.script.Statement.TheVariants.{Assign, Print, Store}
use Rattle.lara_data.specs.Plugins.{Plugins}
use Rattle.lara_data.specs.Denotations as denoted
use Rattle.lara_assoc.specs.declared.scripts.Running.{Running}
use Rattle.lara_assoc.specs.Meant.{IsMeantBy}
use Rattle.lara_assoc.specs.Newest.{HasNewest}

-- the evaluation has the tables, prints and stores of what was run
pub record IsRunning (e : Running) (r : denoted.Running) : Type 0 where
  pub statement : e.statement ≡ r.statement
  pub tables : HasNewest e.assigned.tables r.tables
  pub prints : e.prints ≡ r.prints
  pub stores : e.stores ≡ r.stores

-- the tree of the statement, if it has one, means a table of its type
abbrev pub CanRun : Plugins → denoted.Database → Running → Statement → Type 0
CanRun ps db e (Assign name node) = IsMeantBy ps db e.assigned.tables node
CanRun ps db e (Print name order) = Unit {0}
CanRun ps db e (Store old new) = Unit {0}
