-- How a call may end. All is by cases on a row of the table, none on an outcome.
use Rattle.std.specs.Prelude.{◌≡◌, ◌≤◌, ◌⊎◌, ℕ, nat_lt, Bool, true, false, Result, Ok, Err}
use Rattle.lara_base.specs.declared.file_name.FileName.{FileName}
use Rattle.lara.specs.declared.outcome.Outcome.{Outcome}
use Rattle.lara.specs.declared.outcome.Outcome.TheVariants.{Done}
use Rattle.lara.specs.OutcomeTable.{Matter, of_words, of_script, of_triples, of_choices, of_range, of_catalog, of_room, Cause, depot, source, sink, wrong, met, Half, done, exact, only, free, row}
use Rattle.lara.specs.Stops.{Stop, at_output}

-- a fact for each way to come
abbrev pub by_half : Half → (answer : Type 0) → (refusal : Matter → Type 0) → (memory : Type 0) → (cause : Cause → Type 0) → Type 0
by_half done answer refusal memory cause = answer
by_half (exact matter) answer refusal memory cause = refusal matter
by_half (only c) answer refusal memory cause = cause c
by_half free answer refusal memory cause = memory

-- the same for an outcome, by its row
abbrev pub by_row : Outcome → (answer : Type 0) → (refusal : Matter → Type 0) → (memory : Type 0) → (cause : Cause → Type 0) → Type 0
by_row outcome answer refusal memory cause = by_half (row outcome).half answer refusal memory cause

-- ---- what the rules say

-- a fact where the rules stop at a file of cells that is wrong, from where on they say no more, and one for any other stop
abbrev pub at_stop : Stop → (past other : Type 0) → Type 0
at_stop e past other = by_row e.outcome other (λ matter. other) other (λ cause. past)

-- the rules stop the run with this outcome
abbrev pub StopsWith : {A : Type 0} → Result A Stop → Outcome → Type 0
StopsWith (Ok x) outcome = ⊥
StopsWith (Err e) outcome = e.outcome ≡ outcome

-- they do, or they stop before at a file that is wrong
abbrev pub Allows : {A : Type 0} → Result A Stop → Outcome → Type 0
Allows (Ok x) outcome = ⊥
Allows (Err e) outcome = at_stop e (e.step ≤ (row outcome).last) (e.outcome ≡ outcome)

-- the rules answer, or stop at a file that is wrong
abbrev pub Answers : {A : Type 0} → Result A Stop → Type 0
Answers (Ok x) = Unit {0}
Answers (Err e) = at_stop e (Unit {0}) ⊥

-- no step before this one stops the run, or a file is wrong
abbrev pub Reaches : {A : Type 0} → ℕ → Result A Stop → Type 0
Reaches step (Ok x) = Unit {0}
Reaches step (Err e) = at_stop e (Unit {0}) (step ≤ e.step)

-- the rules stop at a file that is wrong
abbrev pub Astray : {A : Type 0} → Result A Stop → Type 0
Astray (Ok x) = ⊥
Astray (Err e) = at_stop e (Unit {0}) ⊥

-- the rules leave room for a cause: its first step is reached, or, for a wrong file, they stop at one
abbrev pub Comes : {A : Type 0} → Cause → Result A Stop → Type 0
Comes depot ruled = Reaches (met depot) ruled
Comes source ruled = Reaches (met source) ruled
Comes sink ruled = Reaches (met sink) ruled
Comes (wrong file place) ruled = Astray ruled

-- ---- what a call shows

-- what the counts of the devices and the files of cells show
abbrev pub shows : (depot_rose source_rose sink_rose : Type 0) → (FileName → ℕ → Type 0) → Cause → Type 0
shows d s o f depot = d
shows d s o f source = s
shows d s o f sink = o
shows d s o f (wrong file place) = f file place

-- no file of cells is wrong
abbrev pub no_file : FileName → ℕ → Type 0
no_file file place = ⊥

-- no cause is shown
abbrev pub no_fault : Cause → Type 0
no_fault cause = ⊥

-- of the devices the source alone shows one
abbrev pub source_shows : Type 0 → Cause → Type 0
source_shows s = shows ⊥ s ⊥ no_file

-- ---- how a call ends

-- how a call ended, by the row of its outcome
abbrev pub Ended : {A : Type 0} → (Cause → Type 0) → Result A Stop → Outcome → Type 0
Ended shown ruled outcome = by_row outcome (Answers ruled) (λ matter. Allows ruled outcome) (Unit {0}) (λ cause. shown cause × Comes cause ruled)

-- the same of a step that did not answer
abbrev pub Stopped : {A : Type 0} → (Cause → Type 0) → Result A Stop → Outcome → Type 0
Stopped shown ruled outcome = by_row outcome ⊥ (λ matter. Allows ruled outcome) (Unit {0}) (λ cause. shown cause × Comes cause ruled)

-- what a step answers is what the rules say
abbrev pub Gives : {A B : Type 0} → (A → B) → (Cause → Type 0) → Result B Stop → Result A Outcome → Type 0
Gives view shown ruled (Ok x) = ruled ≡ Ok (view x)
Gives view shown ruled (Err outcome) = Stopped shown ruled outcome

-- the last step: done, or what comes by its cause alone
abbrev pub Finishes : (Cause → Type 0) → Outcome → Type 0
Finishes shown outcome = by_row outcome (Unit {0}) (λ matter. ⊥) ⊥ shown

-- what may come in place of a refusal: want of memory, or what comes by its cause at a step that is no later
abbrev pub Excused : {A : Type 0} → Result A Stop → Outcome → Type 0
Excused ruled outcome = by_row outcome ⊥ (λ matter. ⊥) (Unit {0}) (λ cause. Comes cause ruled)

-- A refusal comes only where the rules say so, and does come there, unless it is excused.
pub record Exactly {A : Type 0} (ruled : Result A Stop) (refusal result : Outcome) : Type 0 where
  pub only : result ≡ refusal → Allows ruled refusal
  pub comes : StopsWith ruled refusal → (result ≡ refusal) ⊎ Excused ruled result

-- the rules alone decide this outcome
abbrev pub IsExact : Outcome → Type 0
IsExact outcome = by_row outcome ⊥ (λ matter. Unit {0}) ⊥ (λ cause. ⊥)

-- ---- what is known also where nothing is told

-- a fact, where a test is met
abbrev pub fact_where : Bool → Type 0 → Type 0
fact_where true fact = fact
fact_where false fact = Unit {0}

-- a fact for each outcome that comes before the text is written
abbrev pub Quiet : Type 0 → Outcome → Type 0
Quiet fact outcome = fact_where (nat_lt (row outcome).last at_output) fact

-- what an outcome that is not Done shows
abbrev pub Caused : (Cause → Type 0) → Outcome → Type 0
Caused shown outcome = by_row outcome ⊥ (λ matter. Unit {0}) (Unit {0}) shown

-- what a script may be refused for
abbrev pub OfScript : Matter → Type 0
OfScript of_words = ⊥
OfScript of_script = Unit {0}
OfScript of_triples = ⊥
OfScript of_choices = ⊥
OfScript of_range = Unit {0}
OfScript of_catalog = ⊥
OfScript of_room = ⊥

-- what may stop a script once it is read: a refusal, a table out of range, or want of memory
abbrev pub StopsScript : Outcome → Type 0
StopsScript outcome = by_row outcome ⊥ OfScript (Unit {0}) no_fault

-- the words alone decide, without memory
abbrev pub ByWords : {A : Type 0} → Result A Stop → Outcome → Type 0
ByWords (Ok x) outcome = Unit {0}
ByWords (Err e) outcome = outcome ≡ e.outcome

-- the outcome of a step: Done where it answers
abbrev pub outcome_of : {A : Type 0} → Result A Outcome → Outcome
outcome_of (Ok x) = Done
outcome_of (Err outcome) = outcome
