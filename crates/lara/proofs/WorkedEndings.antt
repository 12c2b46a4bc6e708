-- The table of outcomes at work: which outcome excuses which refusal, which come before the writing, and which a call can
-- have. Worked out by hand from the order of the endings.
use Rattle.std.specs.Prelude.{ℕ, ◌^◌, ◌+◌, Ok, Err}
use Rattle.std.proofs.Common.{◌≡◌, ◌⊎◌, refl, arith, inl, inr}
use Rattle.lara_base.specs.declared.file_name.FileName.TheVariants.{Catalog, Cells}
use Rattle.lara_data.specs.declared.refusal.Kind.TheVariants.{NoName, TooLong, Unexpected}
use Rattle.lara.specs.declared.words.Command.TheVariants.{Run}
use Rattle.lara.specs.declared.outcome.Outcome.TheVariants.{Done, Usage, Script, Triples, Choice, Range, Damaged, DepotFault, SourceFault, SinkFault, Full, Memory}
use Rattle.lara.specs.declared.outcome.Room.TheVariants.{Tables}
use Rattle.lara.specs.declared.outcome.TripleKind.TheVariants as triple
use Rattle.lara.specs.Stops.{stop, at_words, at_input, at_syntax, at_types, at_cells, at_range, at_output}
use Rattle.lara.specs.OutcomeTable.{source, sink}
use Rattle.lara.specs.Endings.{StopsWith, Allows, Reaches, Excused, Exactly, IsExact, Quiet, Caused, no_fault}
use Rattle.lara.specs.Commands.{CanCome, script_limit, most_read, too_long}
use Rattle.lara.specs.Words.{command_of}

-- ---- what comes in place of a refusal: what is met at its step or before

-- the input fails while it is read, so before the grammar reads it
input_before_syntax : Excused {A = ℕ} (stop at_syntax (Script 0 Unexpected)) SourceFault
input_before_syntax = omega arith

-- and while it is found too long
input_while_read : Excused {A = ℕ} (stop at_input (Script 1048576 TooLong)) SourceFault
input_while_read = omega arith

-- but not before the words are read
no_input_before_words : Excused {A = ℕ} (stop at_words (Usage 0)) SourceFault → ⊥
no_input_before_words h = omega (arith, h)

-- the output is written after all refusals
no_output_before_range : Excused {A = ℕ} (stop at_range (Range 3)) SinkFault → ⊥
no_output_before_range h = omega (arith, h)

no_output_before_syntax : Excused {A = ℕ} (stop at_syntax (Script 0 Unexpected)) SinkFault → ⊥
no_output_before_syntax h = omega (arith, h)

-- the depot is met behind the syntax and before the types
depot_before_types : Excused {A = ℕ} (stop at_types (Script 8 NoName)) DepotFault
depot_before_types = omega arith

no_depot_before_syntax : Excused {A = ℕ} (stop at_syntax (Script 0 Unexpected)) DepotFault → ⊥
no_depot_before_syntax h = omega (arith, h)

-- memory may be wanted anywhere; a refusal, a wrong file or an answer excuses none
memory_anywhere : Excused {A = ℕ} (stop at_syntax (Script 0 Unexpected)) Memory
memory_anywhere = tt

no_other_refusal : Excused {A = ℕ} (stop at_types (Script 8 NoName)) (Range 1) → ⊥
no_other_refusal h = h

no_wrong_file : Excused {A = ℕ} (stop at_range (Range 1)) (Damaged (Cells 1 2) 3) → ⊥
no_wrong_file h = h

no_answer : Excused {A = ℕ} (stop at_range (Range 1)) Done → ⊥
no_answer h = h

-- ---- a refusal comes exactly

exactly_there : Exactly {A = ℕ} (stop at_range (Range 3)) (Range 3) (Range 3)
exactly_there = record { only = λ same. refl; comes = λ there. inl refl }

not_elsewhere : Exactly {A = ℕ} (stop at_range (Range 3)) (Range 4) (Range 4) → ⊥
not_elsewhere h = let e = h.only refl in cc

not_past_it : Exactly {A = ℕ} (stop at_range (Range 3)) (Range 3) Done → ⊥
not_past_it h = elim (h.comes refl) [ inl e ↦ absurd cc | inr e ↦ e ]

-- a stop at a wrong file lets what comes behind it come, and no refusal of a step before
wrong_file_lets_range : Allows {A = ℕ} (stop at_cells (Damaged (Cells 1 2) 3)) (Range 3)
wrong_file_lets_range = omega arith

wrong_file_lets_no_script : Allows {A = ℕ} (stop at_cells (Damaged (Cells 1 2) 3)) (Script 8 NoName) → ⊥
wrong_file_lets_no_script h = omega (arith, h)

-- ---- what comes before the writing leaves the output

refusals_are_quiet : Quiet ⊥ (Range 3) → ⊥
refusals_are_quiet h = h

memory_is_quiet : Quiet ⊥ Memory → ⊥
memory_is_quiet h = h

input_is_quiet : Quiet ⊥ SourceFault → ⊥
input_is_quiet h = h

done_is_not : Quiet ⊥ Done
done_is_not = tt

output_is_not : Quiet ⊥ SinkFault
output_is_not = tt

-- ---- what a call can have

run_can_refuse : CanCome (Ok Run) (Script 0 Unexpected)
run_can_refuse = tt

run_can_fail : CanCome (Ok Run) SinkFault
run_can_fail = tt

run_reads_no_triples : CanCome (Ok Run) (Triples 1 (triple.BadNumber)) → ⊥
run_reads_no_triples h = h

run_stores_nothing : CanCome (Ok Run) (Full Tables) → ⊥
run_stores_nothing h = h

run_meets_no_depot : CanCome (Ok Run) DepotFault → ⊥
run_meets_no_depot h = h

run_meets_no_catalog : CanCome (Ok Run) (Damaged Catalog 0) → ⊥
run_meets_no_catalog h = h

run_has_understood_its_words : CanCome (Ok Run) (Usage 0) → ⊥
run_has_understood_its_words h = h

-- ---- limits

a_megabyte : script_limit ≡ 2 ^ 20
a_megabyte = refl

one_byte_past_it : most_read (Ok Run) ≡ 2 ^ 20 + 1
one_byte_past_it = refl

nothing_without_a_command : most_read (stop at_words (Usage 0)) ≡ 0
nothing_without_a_command = refl
