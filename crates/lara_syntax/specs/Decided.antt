-- What decides a start symbol of the grammar, for all bytes.
use Rattle.std.specs.Prelude.{◌≡◌, ℕ, List, Result, Ok, Err}
use Rattle.lara_data.specs.declared.refusal.Refusal.{Refusal}
use Rattle.lara_syntax.specs.Limits.{Limits}
use Rattle.lara_syntax.specs.Steps.{Items}
use Rattle.lara_syntax.specs.StartSymbols.{Stands}
use Rattle.lara_syntax.specs.Refusals.{FirstWrong}

-- What is given stands in the grammar, and what stands in it is given; what is refused is the first wrong place, and the
-- first wrong place is refused.
pub record Decides {A : Type 0} (X : Limits → A → Items → Type 0) (parse : List ℕ → Result A Refusal) : Type 0 where
  pub found : (bytes : List ℕ) (x : A) → parse bytes ≡ Ok x → Stands X bytes x
  pub only : (bytes : List ℕ) (x : A) → Stands X bytes x → parse bytes ≡ Ok x
  pub refused : (bytes : List ℕ) (refusal : Refusal) → parse bytes ≡ Err refusal → FirstWrong X bytes refusal
  pub only_refusal : (bytes : List ℕ) (refusal : Refusal) → FirstWrong X bytes refusal → parse bytes ≡ Err refusal
