-- The list ends where no item follows.
use Rattle.std.proofs.Common.{sym, ◌∙◌}
use Rattle.lara_syntax.specs.Reading.{comma_val_col}
use Rattle.lara_syntax.proofs.Turns.{items-none}
use Rattle.lara_syntax.proofs.RuleReaders.{comma_val_col-one}
use Rattle.lara_syntax.proofs.rules.columns.more_val_cols.Goals as goal

pub returns-in-None : goal.returns-in-None
returns-in-None c = sym c.loop-cols.invariant ∙ items-none comma_val_col comma_val_col-one c.loop-cols.cols c.loop-cols.rest.now c.in_ok-x.x c.in_ok-x.after.now c.in_ok-x.ensures c.in-None.is
