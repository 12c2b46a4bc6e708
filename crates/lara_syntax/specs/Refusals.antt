-- What bytes that are nothing of a start symbol X are refused for: their wrong places, of which the first counts.
use Rattle.std.specs.Prelude.{◌≤◌, ℕ, List, [], ◌∷◌, ◌++◌, length, Option, Some, None}
use Rattle.lara_syntax.specs.declared.item.Item.{Item}
use Rattle.lara_data.specs.declared.refusal.Kind.{Kind}
use Rattle.lara_data.specs.declared.refusal.Kind.TheVariants.{Unexpected, TooMany}
use Rattle.lara_data.specs.declared.refusal.Refusal.{Refusal}
use Rattle.lara_data.specs.declared.refusal.ReadFault.{ReadFault}
use Rattle.lara_data.specs.declared.refusal.ReadFault.TheVariants as faults
use Rattle.lara_syntax.specs.Limits.{Limits, most}
use Rattle.lara_syntax.specs.Steps.{Items}
use Rattle.lara_syntax.specs.StartSymbols.{StartSymbol, SomeBegins, NoneBegins, LongBegins, NoLongBegins}
use Rattle.lara_syntax.specs.TokenReadings.{Reads}

-- The kind of a word behind which nothing of X goes on: too many, where with other limits something does.
pub data KindOf {A : Type 0} (X : Limits → A → Items → Type 0) : Kind → Items → Type 0 where
  too_many : (ts : Items) → LongBegins X ts → KindOf X TooMany ts
  unexpected : (ts : Items) → NoLongBegins X ts → KindOf X Unexpected ts

-- The word that is wrong, and what is wrong with it.
pub data WrongWord {A : Type 0} (X : Limits → A → Items → Type 0) (bytes : List ℕ) : Refusal → Type 0 where
  -- nothing goes on with the word, and something does before it
  at_word : (before : Items) (bad : Item) (after : Items) (stop : Option Refusal) (kind : Kind)
      → Reads (length bytes) bytes (before ++ bad ∷ after) stop → SomeBegins X before → NoneBegins X (before ++ bad ∷ []) → KindOf X kind (before ++ bad ∷ [])
      → WrongWord X bytes (record { at = bad.at; kind = kind })
  -- the end, where something goes on and nothing ends
  at_end : (items : Items) → Reads (length bytes) bytes items None → SomeBegins X items → ((x : A) → X most x items → ⊥)
      → WrongWord X bytes (record { at = length bytes; kind = Unexpected })
  -- what is no token, behind words with which something goes on
  at_token : (items : Items) (refusal : Refusal) → Reads (length bytes) bytes items (Some refusal) → SomeBegins X items → WrongWord X bytes refusal

-- A place that is wrong, with the kind of what is wrong there.
pub data WrongPlace {A : Type 0} (X : Limits → A → Items → Type 0) (bytes : List ℕ) : Refusal → Type 0 where
  by_words : (refusal : Refusal) → WrongWord X bytes refusal → WrongPlace X bytes refusal

-- The refusal of bytes: a wrong place, before which there is none.
pub record FirstWrong {A : Type 0} (X : Limits → A → Items → Type 0) (bytes : List ℕ) (refusal : Refusal) : Type 0 where
  pub wrong : WrongPlace X bytes refusal
  pub least : (other : Refusal) → WrongPlace X bytes other → refusal.at ≤ other.at

-- a refusal is the first wrong place; of memory nothing is said
abbrev pub RefusesFirst : {A : Type 0} → StartSymbol A → List ℕ → ReadFault → Type 0
RefusesFirst X bytes faults.Memory = Unit {0}
RefusesFirst X bytes (faults.Refused refusal) = FirstWrong X bytes refusal
