-- What is shown of the items of a script.
use Rattle.std.specs.Prelude.{◌≡◌, ℕ, List, length, map, Option}
use Rattle.lara_syntax.specs.declared.item.Item.{Item}
use Rattle.lara_syntax.specs.declared.item.Lexeme.{Lexeme}
use Rattle.lara_syntax.specs.declared.item.Lexeme.TheVariants as lexeme
use Rattle.lara_data.specs.declared.refusal.Refusal.{Refusal}
use Rattle.lara_syntax.specs.declared.token.Token.{Token}
use Rattle.lara_syntax.specs.declared.token.TokenWord.{TokenWord}
use Rattle.lara_syntax.specs.declared.token.TokenWord.TheVariants.{Name, Keyword, Number, Text, Sign}
use Rattle.lara_syntax.specs.TokenReadings.{Reads}
use Rattle.lara_syntax.specs.Spans.{AreInOrder, AreSlices}

-- the lexeme without the name, the keyword or the sign that it is
abbrev pub word_of : Lexeme → TokenWord
word_of (lexeme.Name n) = Name
word_of (lexeme.Key k) = Keyword
word_of (lexeme.Number n) = Number n
word_of (lexeme.Text c) = Text c
word_of (lexeme.Sign s) = Sign

-- an item without the name, the keyword or the sign that it is
abbrev pub token_of : Item → Token
token_of x = record { at = x.at; len = x.len; word = word_of x.lexeme }

-- the tokens and the refusal show a reading of the bytes
pub record Show (bytes : List ℕ) (tokens : List Token) (stopped : Option Refusal) : Type 0 where
  pub items : List Item
  pub reading : Reads (length bytes) bytes items stopped
  pub order : AreInOrder 0 (length bytes) items stopped
  pub slices : AreSlices bytes items
  pub shown : tokens ≡ map token_of items

-- whatever reads the bytes is shown so
abbrev pub ShowAll : List ℕ → List Token → Option Refusal → Type 0
ShowAll bytes tokens stopped = (xs : List Item) (stop : Option Refusal) → Reads (length bytes) bytes xs stop → (map token_of xs ≡ tokens) × (stop ≡ stopped)
