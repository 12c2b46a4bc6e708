-- What the relations say of a run is what the ruling says.
use Rattle.std.specs.Prelude.{Option, Some, None, Result, Ok, Err, IsOk, if◌then◌else◌}
use Rattle.std.proofs.Common.{◌≡◌, ◌≤◌, ◌<◌, ◌⊎◌, inl, inr, ℕ, refl, sym, ap, subst, ◌∙◌, arith, List, [], length, true, false, Bool, nat_lt}
use Rattle.std.proofs.lemmas.Bool.Decides.{nat_tests}
use Rattle.lara_base.specs.Results.{◌>>=◌}
use Rattle.lara_base.specs.Moves.{Adds}
use Rattle.lara_data.specs.declared.refusal.Refusal.{Refusal}
use Rattle.lara_data.specs.declared.refusal.Kind.{Kind}
use Rattle.lara_data.specs.declared.refusal.Kind.TheVariants.{TooLong}
use Rattle.lara_data.specs.declared.script.Statement.{Statement}
use Rattle.lara_data.specs.Denotations.{Printed, denotation}
use Rattle.lara_data.specs.Plugins.{Plugins}
use Rattle.lara_syntax.specs.declared.ast.Ast.{Ast}
use Rattle.lara_syntax.specs.Parsed.{parsed}
use Rattle.lara_syntax.proofs.ScriptLaws.{parsed_decides_scripts}
use Rattle.lara_types.specs.Checks.{checked}
use Rattle.lara_types.specs.Found.{checked_has}
use Rattle.lara_types.specs.Only.{has_checked}
use Rattle.lara_types.specs.RefusedLaws.{script_judged, script_refused}
use Rattle.lara.specs.declared.words.Command.{Command}
use Rattle.lara.specs.declared.words.Command.TheVariants.{Run}
use Rattle.lara.specs.declared.outcome.Outcome.{Outcome}
use Rattle.lara.specs.declared.outcome.Outcome.TheVariants.{Done, Usage, Script, Triples, Choice, Range, Damaged, DepotFault, SourceFault, SinkFault, Full, Memory}
use Rattle.lara.specs.Stops.{Stop, stop, at_input, at_syntax, at_types, at_range}
use Rattle.lara_base.specs.declared.file_name.FileName.TheVariants.{Catalog, Cells}
use Rattle.lara.specs.OutcomeTable.{Cause}
use Rattle.lara.specs.Endings.{StopsWith, Allows, Excused}
use Rattle.lara.specs.Commands.{script_limit, within, CanCome}
use Rattle.lara.specs.Words.{command_of}
use Rattle.lara.specs.ScriptBytes.{tree_of, at_step}
use Rattle.lara.specs.Prints.{texts}
use Rattle.lara.specs.Ranges.{past_range}
use Rattle.lara.specs.Ruling.{Answer, printed, by_range, answer_of, statements_of, script_ruling, command_ruling, ruling, Tells}
use Rattle.lara.specs.RunRelations.{IsScript, ScriptRefused, too_many, by_syntax, by_types, Disturbed, RunTells}
use Rattle.lara.proofs.Ends.{tells_exactly, tells_text}

-- ---- the parts of the ruling

fits : (bytes : List ℕ) → length bytes ≤ script_limit → nat_lt script_limit (length bytes) ≡ false
fits bytes l = grind (arith, nat_tests)

is_long : (bytes : List ℕ) → script_limit < length bytes → nat_lt script_limit (length bytes) ≡ true
is_long bytes l = grind (arith, nat_tests)

is_short : (bytes : List ℕ) → nat_lt script_limit (length bytes) ≡ false → length bytes ≤ script_limit
is_short bytes e = grind (arith, nat_tests)

long_is : (bytes : List ℕ) → nat_lt script_limit (length bytes) ≡ true → script_limit < length bytes
long_is bytes e = grind (arith, nat_tests)

-- what the types of a tree answer
abbrev typed_answer : Plugins → Result (List Statement) Refusal → Result Answer Stop
typed_answer ps types = at_step at_types types >>= λ ss. answer_of (denotation ps [] ss)

module _ (ps : Plugins) (bytes : List ℕ) where
  script_is : (tree : Ast) → parsed bytes ≡ Ok tree → script_ruling ps bytes ≡ typed_answer ps (checked ps [] tree)
  unfolding script_ruling
  script_is tree e = rw e refl

  typed_is : (ss : List Statement) → typed_answer ps (Ok ss) ≡ answer_of (denotation ps [] ss)
  typed_is ss = refl

  module _ (words : List (List ℕ)) (run : command_of words ≡ Ok Run) where
    ruling_is : length bytes ≤ script_limit → ruling ps words bytes ≡ script_ruling ps bytes
    unfolding ruling command_ruling
    ruling_is l = rw (run, fits bytes l) refl

    ruling_long : script_limit < length bytes → ruling ps words bytes ≡ stop at_input (Script script_limit TooLong)
    unfolding ruling command_ruling
    ruling_long l = rw (run, is_long bytes l) refl

    -- a script is answered as its denotation says
    pub script_ruled : (ss : List Statement) (over : Option ℕ) → IsScript ps bytes ss → past_range (denotation ps [] ss) ≡ over → ruling ps words bytes ≡ by_range (denotation ps [] ss).prints over
    script_ruled ss over s e =
        ruling_is s.short
        ∙ script_is s.tree (parsed_decides_scripts.only bytes s.tree s.stands)
        ∙ ap (typed_answer ps) (has_checked ps [] s.tree ss s.typed)
        ∙ typed_is ss
        ∙ ap (by_range (denotation ps [] ss).prints) e

    -- bytes that are no script are refused so
    pub refused_ruled : (r : Refusal) → ScriptRefused ps bytes r → StopsWith (ruling ps words bytes) (Script r.at r.kind)
    unfolding script_ruling
    refused_ruled r (too_many l) = rw (ruling_long l) refl
    refused_ruled r (by_syntax _ l h) = rw (ruling_is l, parsed_decides_scripts.only_refusal bytes r h) refl
    refused_ruled r (by_types _ tree l s h) = rw (ruling_is l, script_is tree (parsed_decides_scripts.only bytes tree s), script_judged ps [] tree r h) refl

    -- ---- the other way

    -- a ruling over a script of these statements
    pub record Answered (r : Result Answer Stop) : Type 0 where
      pub ss : List Statement
      pub script : IsScript ps bytes ss
      pub is : r ≡ answer_of (denotation ps [] ss)

    -- a ruling over bytes that are none
    pub record Declined (r : Result Answer Stop) : Type 0 where
      pub step : ℕ
      pub refusal : Refusal
      pub refused : ScriptRefused ps bytes refusal
      pub is : r ≡ stop step (Script refusal.at refusal.kind)

    types_split : (tree : Ast) (types : Result (List Statement) Refusal) → length bytes ≤ script_limit → parsed bytes ≡ Ok tree → checked ps [] tree ≡ types → Answered (typed_answer ps types) ⊎ Declined (typed_answer ps types)
    types_split tree (Ok ss) l p c = inl (record { ss = ss; script = record { short = l; tree = tree; stands = parsed_decides_scripts.found bytes tree p; typed = checked_has ps [] tree ss c }; is = typed_is ss })
    types_split tree (Err r) l p c = inr (record { step = at_types; refusal = r; refused = by_types r tree l (parsed_decides_scripts.found bytes tree p) (script_refused ps [] tree r c); is = refl })

    tree_split : (tree : Result Ast Refusal) → length bytes ≤ script_limit → parsed bytes ≡ tree → Answered (script_ruling ps bytes) ⊎ Declined (script_ruling ps bytes)
    unfolding script_ruling
    tree_split (Ok tree) l p = subst (λ (r : Result Answer Stop). Answered r ⊎ Declined r) (sym (script_is tree p)) (types_split tree (checked ps [] tree) l p refl)
    tree_split (Err r) l p = inr (record { step = at_syntax; refusal = r; refused = by_syntax r l (parsed_decides_scripts.refused bytes r p); is = rw p refl })

    -- the bytes are a script, or they are refused
    pub split : Answered (ruling ps words bytes) ⊎ Declined (ruling ps words bytes)
    split = by (nat_lt script_limit (length bytes)) refl
      where
        by : (b : Bool) → nat_lt script_limit (length bytes) ≡ b → Answered (ruling ps words bytes) ⊎ Declined (ruling ps words bytes)
        by true e = inr (record { step = at_input; refusal = record { at = script_limit; kind = TooLong }; refused = too_many (long_is bytes e); is = ruling_long (long_is bytes e) })
        by false e = subst (λ (r : Result Answer Stop). Answered r ⊎ Declined r) (sym (ruling_is (is_short bytes e))) (tree_split (parsed bytes) (is_short bytes e) refl)

-- ---- what a run tells

ok_in_range : (prints : List Printed) (over : Option ℕ) → IsOk (by_range prints over) → over ≡ None
ok_in_range prints None ok = refl
ok_in_range prints (Some n) ok = cc

not_ok : {A : Type 0} (r : Result A Stop) (step : ℕ) (o : Outcome) → r ≡ stop step o → IsOk r → ⊥
not_ok (Ok x) step o e ok = absurd cc
not_ok (Err s) step o e ok = absurd cc

stop_not_ok : {A : Type 0} (r : Result A Stop) (o : Outcome) → StopsWith r o → IsOk r → ⊥
stop_not_ok (Ok x) o s ok = s
stop_not_ok (Err e) o s ok = absurd cc

-- an answer is no refusal of the script, and one of the range where a print is over
no_script : (prints : List Printed) (over : Option ℕ) (at : ℕ) (kind : Kind) → Allows (by_range prints over) (Script at kind) → ⊥
no_script prints None at kind a = a
no_script prints (Some n) at kind a = absurd cc

range_is : (prints : List Printed) (over : Option ℕ) (n : ℕ) → Allows (by_range prints over) (Range n) → over ≡ Some n
range_is prints None n a = absurd a
range_is prints (Some m) n a = let e : m ≡ n = cc in ap (λ (k : ℕ). Some k) e

range_stops : (prints : List Printed) (n : ℕ) → StopsWith (by_range prints (Some n)) (Range n)
range_stops prints n = refl

-- a refusal of the script is of no range, and of one place and kind
no_range : (step : ℕ) (r : Refusal) (n : ℕ) → Allows {A = Answer} (stop step (Script r.at r.kind)) (Range n) → ⊥
no_range step r n a = absurd cc

same_refusal : (step : ℕ) (r s : Refusal) → Allows {A = Answer} (stop step (Script r.at r.kind)) (Script s.at s.kind) → r ≡ s
same_refusal step r s a =
    let at : r.at ≡ s.at = cc in
    let kind : r.kind ≡ s.kind = cc in
    λ i. record { at = at i; kind = kind i }

-- what stands in for a refusal of a run is the fault of its input, or want of memory
disturbed : (r : Result Answer Stop) (refusal result : Outcome) → StopsWith r refusal → CanCome (Ok Run) result → (result ≡ SinkFault → IsOk r) → Excused r result → Disturbed result
disturbed r refusal Done s can answered e = absurd e
disturbed r refusal (Usage at) s can answered e = absurd e
disturbed r refusal (Script at kind) s can answered e = absurd e
disturbed r refusal (Triples number kind) s can answered e = absurd e
disturbed r refusal (Choice index) s can answered e = absurd e
disturbed r refusal (Range statement) s can answered e = absurd e
disturbed r refusal (Damaged Catalog at) s can answered e = absurd e
disturbed r refusal (Damaged (Cells generation number) at) s can answered e = absurd can
disturbed r refusal DepotFault s can answered e = absurd can
disturbed r refusal SourceFault s can answered e = inl refl
disturbed r refusal SinkFault s can answered e = absurd (stop_not_ok r refusal s (answered refl))
disturbed r refusal (Full what) s can answered e = absurd e
disturbed r refusal Memory s can answered e = inr refl

module _ (ps : Plugins) (words : List (List ℕ)) (bytes : List ℕ) (shown : Cause → Type 0) (result : Outcome) (old new : Option (List ℕ)) where
  -- a refusal that the rules have comes, unless the run is disturbed
  comes_or : (refusal : Outcome) → (result ≡ refusal) ⊎ Excused (ruling ps words bytes) result → StopsWith (ruling ps words bytes) refusal → CanCome (Ok Run) result → (result ≡ SinkFault → IsOk (ruling ps words bytes)) → (result ≡ refusal) ⊎ Disturbed result
  comes_or refusal (inl same) s can answered = inl same
  comes_or refusal (inr e) s can answered = inr (disturbed (ruling ps words bytes) refusal result s can answered e)

  module _ (run : command_of words ≡ Ok Run) (t : Tells shown (ruling ps words bytes) result old new) (can : CanCome (Ok Run) result) (answered : (result ≡ Done) ⊎ (result ≡ SinkFault) → IsOk (ruling ps words bytes)) where
    done_by : Answered ps bytes words run (ruling ps words bytes) ⊎ Declined ps bytes words run (ruling ps words bytes) → result ≡ Done → (ss : List Statement) × IsScript ps bytes ss × (past_range (denotation ps [] ss) ≡ None)
    done_by (inl a) same = (a.ss, a.script, ok_in_range (denotation ps [] a.ss).prints (past_range (denotation ps [] a.ss)) (subst (λ (r : Result Answer Stop). IsOk r) a.is (answered (inl same))))
    done_by (inr d) same = absurd (not_ok (ruling ps words bytes) d.step (Script d.refusal.at d.refusal.kind) d.is (answered (inl same)))

    text_by : (ss : List Statement) → IsScript ps bytes ss → result ≡ Done → Adds old new (texts (denotation ps [] ss).prints)
    text_by ss s same =
        let prints = (denotation ps [] ss).prints in
        let past = past_range (denotation ps [] ss) in
        let in_range : past ≡ None = ok_in_range prints past (subst (λ (r : Result Answer Stop). IsOk r) (script_ruled ps bytes words run ss past s refl) (answered (inl same))) in
        tells_text shown (ruling ps words bytes) result old new t (printed (texts prints)) same (script_ruled ps bytes words run ss None s in_range)

    script_by : Answered ps bytes words run (ruling ps words bytes) ⊎ Declined ps bytes words run (ruling ps words bytes) → (r : Refusal) → Allows (ruling ps words bytes) (Script r.at r.kind) → ScriptRefused ps bytes r
    script_by (inl a) r allowed = absurd (no_script (denotation ps [] a.ss).prints (past_range (denotation ps [] a.ss)) r.at r.kind (subst (λ (q : Result Answer Stop). Allows q (Script r.at r.kind)) a.is allowed))
    script_by (inr d) r allowed = subst (λ (q : Refusal). ScriptRefused ps bytes q) (same_refusal d.step d.refusal r (subst (λ (q : Result Answer Stop). Allows q (Script r.at r.kind)) d.is allowed)) d.refused

    range_by : Answered ps bytes words run (ruling ps words bytes) ⊎ Declined ps bytes words run (ruling ps words bytes) → (n : ℕ) → Allows (ruling ps words bytes) (Range n) → (ss : List Statement) × IsScript ps bytes ss × (past_range (denotation ps [] ss) ≡ Some n)
    range_by (inl a) n allowed = (a.ss, a.script, range_is (denotation ps [] a.ss).prints (past_range (denotation ps [] a.ss)) n (subst (λ (q : Result Answer Stop). Allows q (Range n)) a.is allowed))
    range_by (inr d) n allowed = absurd (no_range d.step d.refusal n (subst (λ (q : Result Answer Stop). Allows q (Range n)) d.is allowed))

    pub run_tells : RunTells ps bytes result old new
    run_tells = record {
      done_only = done_by (split ps bytes words run);
      done_text = text_by;
      script_only = λ r same. script_by (split ps bytes words run) r ((tells_exactly shown (ruling ps words bytes) result old new t (Script r.at r.kind) tt).only same);
      script_comes = λ r h.
          let s = refused_ruled ps bytes words run r h in
          comes_or (Script r.at r.kind) ((tells_exactly shown (ruling ps words bytes) result old new t (Script r.at r.kind) tt).comes s) s can (λ same. answered (inr same));
      range_only = λ n same. range_by (split ps bytes words run) n ((tells_exactly shown (ruling ps words bytes) result old new t (Range n) tt).only same);
      range_comes = λ ss n s over.
          let stops = subst (λ (r : Result Answer Stop). StopsWith r (Range n)) (sym (script_ruled ps bytes words run ss (Some n) s over)) (range_stops (denotation ps [] ss).prints n) in
          comes_or (Range n) ((tells_exactly shown (ruling ps words bytes) result old new t (Range n) tt).comes stops) stops can (λ same. answered (inr same));
    }
