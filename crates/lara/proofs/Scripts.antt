-- The steps of a script in a row.
use Rattle.std.specs.Prelude.{ℕ, List, [], Option, Some, None, Result, Ok, Err}
use Rattle.std.proofs.Common.{◌≡◌, refl, sym, ap, subst, ◌∙◌}
use Rattle.lara_data.specs.declared.script.Statement.{Statement}
use Rattle.lara_data.specs.Denotations.{Printed, Answers, denotation}
use Rattle.lara_data.specs.Plugins.{Plugins}
use Rattle.lara_syntax.specs.declared.ast.Ast.{Ast}
use Rattle.lara_types.specs.Checks.{checked}
use Rattle.lara_base.specs.Results.{◌>>=◌}
use Rattle.lara.specs.declared.outcome.Outcome.{Outcome}
use Rattle.lara.specs.declared.outcome.Outcome.TheVariants.{Range}
use Rattle.lara.specs.Stops.{Stop, at_types}
use Rattle.lara.specs.Endings.{Stopped, Allows, Gives, no_fault}
use Rattle.lara.specs.ScriptBytes.{tree_of, at_step}
use Rattle.lara.specs.Prints.{first_over, texts}
use Rattle.lara.specs.Ranges.{lesser, print_past, store_past, past_range}
use Rattle.lara.specs.Ruling.{Answer, printed, ranged, prints_text, by_range, answer_of, statements_of, script_ruling}
use Rattle.lara.proofs.Chains.{refused_then, gives_then, gives_seen}
use Rattle.lara.proofs.RangeFacts.{over_is}

module _ (ps : Plugins) (bytes : List ℕ) where
  -- a stop of the syntax
  pub syntax_stops : (o : Outcome) → Stopped no_fault (tree_of bytes) o → Stopped no_fault (statements_of ps bytes) o
  syntax_stops o s = refused_then no_fault (tree_of bytes) (λ tree. at_step at_types (checked ps [] tree)) o s

  -- what the types of the tree give
  pub types_give : (tree : Ast) (result : Result (List Statement) Outcome) → tree_of bytes ≡ Ok tree → Gives (λ ss. ss) no_fault (at_step at_types (checked ps [] tree)) result → Gives (λ ss. ss) no_fault (statements_of ps bytes) result
  types_give tree result e g = gives_then (λ ss. ss) no_fault no_fault (tree_of bytes) tree (λ t. at_step at_types (checked ps [] t)) result e (λ c n. n) g

  -- a stop of the syntax or the types
  pub reading_stopped : (o : Outcome) → Stopped no_fault (statements_of ps bytes) o → Stopped no_fault (script_ruling ps bytes) o
  unfolding script_ruling
  reading_stopped o s = refused_then no_fault (statements_of ps bytes) (λ ss. answer_of (denotation ps [] ss)) o s

  -- what the prints and stores give
  pub answers_give : (ss : List Statement) (result : Result (List ℕ) Outcome) → statements_of ps bytes ≡ Ok ss → Gives printed no_fault (answer_of (denotation ps [] ss)) result → Gives printed no_fault (script_ruling ps bytes) result
  unfolding script_ruling
  answers_give ss result e g = rw e g

-- ---- the range

lesser_none : (o : Option ℕ) → lesser o None ≡ o
lesser_none None = refl
lesser_none (Some n) = refl

texts_by_range : (prints : List Printed) (past : Option ℕ) → ((ranged prints past >>= λ xs. Ok (texts xs)) >>= λ text. Ok (printed text)) ≡ by_range prints past
texts_by_range prints None = refl
texts_by_range prints (Some n) = refl

-- where no store is past its range, the prints alone decide
pub prints_decide : (d : Answers) (result : Result (List ℕ) Outcome) → None ≡ store_past d.stores → Gives (λ t. t) no_fault (prints_text d.prints) result → Gives printed no_fault (answer_of d) result
unfolding prints_text
prints_decide d result none g =
    let past : first_over d.prints ≡ past_range d = over_is d.prints ∙ sym (lesser_none (print_past d.prints)) ∙ ap (lesser (print_past d.prints)) none in
    subst (λ (r : Result Answer Stop). Gives printed no_fault r result) (texts_by_range d.prints (first_over d.prints) ∙ ap (by_range d.prints) past) (gives_seen (λ t. t) printed (prints_text d.prints) result g)

-- where one is, the lesser of two statements is the first
pub store_decides : (d : Answers) (print : Option ℕ) (store n : ℕ) → print ≡ print_past d.prints → Some store ≡ store_past d.stores → Some n ≡ lesser print (Some store) → Stopped no_fault (answer_of d) (Range n)
store_decides d print store n e f g =
    let past : Some n ≡ past_range d = g ∙ ap (λ (o : Option ℕ). lesser o (Some store)) e ∙ ap (lesser (print_past d.prints)) f in
    subst (λ (o : Option ℕ). Allows (by_range d.prints o) (Range n)) past refl
