-- How the whole call ends.
use Rattle.std.specs.Prelude.{IsOk, Option, Some, None, Result, Ok, Err}
use Rattle.std.proofs.Common.{◌≡◌, ◌⊎◌, ℕ, inl, inr, refl, sym, subst, ap, ◌∙◌, List, []}
use Rattle.std.proofs.lemmas.List.{append-nil}
use Rattle.lara_base.specs.Moves.{Adds, AddsFront}
use Rattle.lara_base.specs.declared.file_name.FileName.{FileName}
use Rattle.lara_base.specs.declared.file_name.FileName.TheVariants.{Catalog, Cells}
use Rattle.lara.specs.declared.words.Command.{Command}
use Rattle.lara.specs.declared.outcome.Outcome.{Outcome}
use Rattle.lara.specs.declared.outcome.Outcome.TheVariants.{Done, Usage, Script, Triples, Choice, Range, Damaged, DepotFault, SourceFault, SinkFault, Full, Memory}
use Rattle.lara.specs.Stops.{Stop, at_input}
use Rattle.lara.specs.OutcomeTable.{Matter, Cause, depot, source, sink, wrong, Half, done, exact, only, free, row}
use Rattle.lara.specs.Endings.{by_half, StopsWith, Answers, Reaches, Comes, shows, no_file, no_fault, Ended, Stopped, Exactly, IsExact, Caused, OfScript, StopsScript, ByWords}
use Rattle.lara.specs.Commands.{ReadsInput, CanCome, MayRefuse, MayMeet}
use Rattle.lara.specs.declared.words.Command.TheVariants.{Run}
use Rattle.lara.specs.Ruling.{Answer, Front, Whole, Tells, call_shows}
use Rattle.lara.proofs.Chains.{More, ended, exactly}

-- ---- what the output has

adds_none : (held : Option (List ℕ)) → Adds held held []
adds_none None = refl
adds_none (Some xs) = ap (λ (l : List ℕ). Some l) (sym (append-nil xs))

same_by : (h : Half) (same : Type 0) → same → by_half h same (λ m. same) same (λ c. Unit {0})
same_by done same x = x
same_by (exact m) same x = x
same_by (only c) same x = tt
same_by free same x = x

-- nothing was written
front_none : (r : Result Answer Stop) (held : Option (List ℕ)) → Front r held held
front_none (Ok answer) held = ([], (answer.text, refl), adds_none held)
front_none (Err e) held = same_by (row e.outcome).half (held ≡ held) refl

not_done : (shown : Cause → Type 0) (r : Result Answer Stop) (o : Outcome) → Stopped shown r o → o ≡ Done → ⊥
not_done shown r o s same = subst (λ (x : Outcome). Stopped shown r x) same s

-- a call that stopped before the text was written
pub tells_stopped : (shown : Cause → Type 0) (r : Result Answer Stop) (o : Outcome) (held : Option (List ℕ)) → Stopped shown r o → Tells shown r o held held
tells_stopped shown r o held s = record {
  ended = ended shown r o s;
  front = front_none r held;
  whole = λ same. absurd (not_done shown r o s same);
}

-- a call whose text was written whole
pub tells_done : (shown : Cause → Type 0) (r : Result Answer Stop) (answer : Answer) (old new : Option (List ℕ)) → r ≡ Ok answer → AddsFront old new answer.text → Adds old new answer.text → Tells shown r Done old new
tells_done shown r answer old new e front whole = rw e (record { ended = tt; front = front; whole = λ same. whole })

-- a call whose text was not
pub tells_failed : (shown : Cause → Type 0) (r : Result Answer Stop) (answer : Answer) (old new : Option (List ℕ)) → r ≡ Ok answer → shown sink → AddsFront old new answer.text → Tells shown r SinkFault old new
tells_failed shown r answer old new e rose front = rw e (record { ended = (rose, tt); front = front; whole = λ same. absurd cc })

-- ---- what a call shows

-- what the input shows is shown of a call that reads it
pub call_shows_more : (command : Result Command Stop) (s o : Type 0) → ReadsInput command → More (shows ⊥ s ⊥ no_file) (call_shows command s o)
call_shows_more command s o reads depot h = h
call_shows_more command s o reads source h = (reads, h)
call_shows_more command s o reads sink h = absurd h
call_shows_more command s o reads (wrong file place) h = h

-- the output shows more once it is written
pub output_shows_more : (command : Result Command Stop) (s o : Type 0) → More (call_shows command s ⊥) (call_shows command s o)
output_shows_more command s o depot h = h
output_shows_more command s o source h = h
output_shows_more command s o sink h = absurd h
output_shows_more command s o (wrong file place) h = h

-- ---- what follows from all that is told

module _ (shown : Cause → Type 0) (r : Result Answer Stop) (result : Outcome) (old new : Option (List ℕ)) (t : Tells shown r result old new) where
  pub tells_exactly : (refusal : Outcome) → IsExact refusal → Exactly r refusal result
  tells_exactly refusal is = exactly shown r refusal result is t.ended

  pub tells_text : (answer : Answer) → result ≡ Done → r ≡ Ok answer → Adds old new answer.text
  tells_text answer same e = subst (λ (q : Result Answer Stop). Whole q old new) e (t.whole same)

  pub tells_source : result ≡ SourceFault → Reaches at_input r
  tells_source same = let e : Ended shown r SourceFault = subst (λ (o : Outcome). Ended shown r o) same t.ended in e.1

-- ---- what is known of the words and of a script

pub words_decide : {A : Type 0} (r : Result A Stop) (o : Outcome) → StopsWith r o → ByWords r o
words_decide (Ok x) o s = absurd s
words_decide (Err e) o s = sym s

pub words_can : (r : Result Command Stop) (o : Outcome) → StopsWith r o → CanCome r o
words_can (Ok command) o s = absurd s
words_can (Err e) o s = sym s

can_by : (h : Half) → by_half h ⊥ OfScript (Unit {0}) no_fault → by_half h (Unit {0}) (MayRefuse Run) (Unit {0}) (MayMeet Run)
can_by done s = absurd s
can_by (exact m) s = s
can_by (only c) s = absurd s
can_by free s = tt

pub script_can : (o : Outcome) → StopsScript o → CanCome (Ok Run) o
script_can o s = can_by (row o).half s

caused_by : (shown : Cause → Type 0) (h : Half) → by_half h ⊥ OfScript (Unit {0}) no_fault → by_half h ⊥ (λ m. Unit {0}) (Unit {0}) shown
caused_by shown done s = absurd s
caused_by shown (exact m) s = tt
caused_by shown (only c) s = absurd s
caused_by shown free s = tt

pub script_caused : (shown : Cause → Type 0) (o : Outcome) → StopsScript o → Caused shown o
script_caused shown o s = caused_by shown (row o).half s

-- ---- a call that nothing stops

complete_by : (o : Outcome) → by_half (row o).half (Unit {0}) (λ m. ⊥) (Unit {0}) no_fault → (o ≡ Done) ⊎ (o ≡ Memory)
complete_by Done s = inl refl
complete_by (Usage at) s = absurd s
complete_by (Script at kind) s = absurd s
complete_by (Triples number kind) s = absurd s
complete_by (Choice index) s = absurd s
complete_by (Range statement) s = absurd s
complete_by (Damaged Catalog at) s = absurd s
complete_by (Damaged (Cells generation number) at) s = absurd s
complete_by DepotFault s = absurd s
complete_by SourceFault s = absurd s
complete_by SinkFault s = absurd s
complete_by (Full what) s = absurd s
complete_by Memory s = inr refl

none_by : (h : Half) (cause : Cause → Type 0) → ((c : Cause) → cause c → ⊥) → by_half h (Unit {0}) (λ m. ⊥) (Unit {0}) cause → by_half h (Unit {0}) (λ m. ⊥) (Unit {0}) no_fault
none_by done cause never s = s
none_by (exact m) cause never s = s
none_by (only c) cause never s = never c s
none_by free cause never s = s

none_comes : (command : Result Command Stop) (s o : Type 0) (answer : Answer) → ¬ s → ¬ o → (c : Cause) → call_shows command s o c × Comes {A = Answer} c (Ok answer) → ⊥
none_comes command s o answer y z depot h = h.0
none_comes command s o answer y z source h = y h.0.1
none_comes command s o answer y z sink h = z h.0
none_comes command s o answer y z (wrong file place) h = h.0

-- where the rules answer and no device failed, the call is done, or memory ran out
pub complete : (command : Result Command Stop) (s o : Type 0) (r : Result Answer Stop) (outcome : Outcome) → Ended (call_shows command s o) r outcome → IsOk r → ¬ s → ¬ o → (outcome ≡ Done) ⊎ (outcome ≡ Memory)
complete command s o (Ok answer) outcome e ok y z = complete_by outcome (none_by (row outcome).half (λ c. call_shows command s o c × Comes {A = Answer} c (Ok answer)) (none_comes command s o answer y z) e)
complete command s o (Err e) outcome h ok y z = cc
