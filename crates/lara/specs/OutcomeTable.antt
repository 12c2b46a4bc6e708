-- The table of the outcomes: by what each comes, and until which step. All that is said of endings (Endings.antt) goes by
-- cases on a row, so that a new outcome is a new row.
use Rattle.std.specs.Prelude.{ℕ}
use Rattle.lara_base.specs.declared.file_name.FileName.{FileName}
use Rattle.lara_base.specs.declared.file_name.FileName.TheVariants.{Catalog, Cells}
use Rattle.lara.specs.declared.outcome.Outcome.{Outcome}
use Rattle.lara.specs.declared.outcome.Outcome.TheVariants.{Done, Usage, Script, Triples, Choice, Range, Damaged, DepotFault, SourceFault, SinkFault, Full, Memory}
use Rattle.lara.specs.Stops.{at_input, at_syntax, at_catalog, at_stored_words, at_types, at_choices, at_room, at_cells, at_range, at_new_files, at_output, at_commit, at_end}

-- what a refusal is of; the rules alone decide it
pub data Matter : Type 0 where
  of_words : Matter
  of_script : Matter
  of_triples : Matter
  of_choices : Matter
  of_range : Matter
  of_catalog : Matter
  of_room : Matter

-- what an outcome has to show that comes only by its cause: a device whose count of faults rose, or a file of cells that
-- is wrong at a place
pub data Cause : Type 0 where
  depot : Cause
  source : Cause
  sink : Cause
  wrong : FileName → ℕ → Cause

-- the first step at which a cause is met
abbrev pub met : Cause → ℕ
met source = at_input
met depot = at_catalog
met (wrong file place) = at_cells
met sink = at_output

-- by what an outcome comes: the run is done; exactly by the rules; only by its cause; or free, at any place
pub data Half : Type 0 where
  done : Half
  exact : Matter → Half
  only : Cause → Half
  free : Half

-- the last step at which an outcome can come, and by what
pub record Row : Type 0 where
  pub last : ℕ
  pub half : Half

abbrev pub until : ℕ → Half → Row
until step half = record { last = step; half = half }

-- The table. Memory is taken before the text is written, and not while it is.
abbrev pub row : Outcome → Row
row (Usage at) = until at_stored_words (exact of_words)
row (Script at kind) = until at_types (exact of_script)
row (Triples number kind) = until at_syntax (exact of_triples)
row (Damaged Catalog at) = until at_catalog (exact of_catalog)
row (Choice index) = until at_choices (exact of_choices)
row (Full what) = until at_room (exact of_room)
row (Range statement) = until at_range (exact of_range)
row (Damaged (Cells generation number) at) = until at_output (only (wrong (Cells generation number) at))
row SourceFault = until at_input (only source)
row SinkFault = until at_output (only sink)
row DepotFault = until at_commit (only depot)
row Memory = until at_new_files free
row Done = until at_end done
