-- The tokens of a script: blanks and tokens in turn, up to its end or to what is wrong.
use Rattle.std.specs.Prelude.{◌≡◌, ◌≢◌, ℕ, ◌-◌, true, List, [], ◌∷◌, ◌++◌, length, Option, Some, None}
use Rattle.lara_data.specs.declared.refusal.Kind.{Kind}
use Rattle.lara_data.specs.declared.refusal.Refusal.{Refusal}
use Rattle.lara_syntax.specs.declared.item.Item.{Item}
use Rattle.lara_syntax.specs.declared.item.Lexeme.{Lexeme}
use Rattle.lara_syntax.specs.ByteClasses.{is_space}
use Rattle.lara_syntax.specs.Spellings.{Spells, Ends, Wrong}

-- the rest of a line, and what is behind it: from an LF on, or the end of the script
pub data Line : List ℕ → List ℕ → Type 0 where
  line_end : (rest : List ℕ) → Line (10 ∷ rest) (10 ∷ rest)
  script_end : Line [] []
  in_line : (b : ℕ) (bs rest : List ℕ) → b ≢ 10 → Line bs rest → Line (b ∷ bs) rest

-- white space and comments in front, and what is behind them; a comment goes from `#` to the end of the line
pub data Blank : List ℕ → List ℕ → Type 0 where
  no_more : (rest : List ℕ) → Blank rest rest
  space : (b : ℕ) (bs rest : List ℕ) → is_space b ≡ true → Blank bs rest → Blank (b ∷ bs) rest
  comment : (bs after rest : List ℕ) → Line bs after → Blank after rest → Blank (35 ∷ bs) rest

-- the place of what is left of so many bytes
abbrev pub place : ℕ → List ℕ → ℕ
place size rest = size - length rest

-- the items of bytes that are the last of so many, and what is wrong where they stop before the end
pub data Reads (size : ℕ) : List ℕ → List Item → Option Refusal → Type 0 where
  ended : (bytes : List ℕ) → Blank bytes [] → Reads size bytes [] None
  stopped : (bytes rest : List ℕ) (kind : Kind) → Blank bytes rest → Wrong kind rest → Reads size bytes [] (Some (record { at = place size rest; kind = kind }))
  next : (bytes text rest : List ℕ) (lexeme : Lexeme) (items : List Item) (stop : Option Refusal) → Blank bytes (text ++ rest) → Spells lexeme text → Ends lexeme rest → Reads size rest items stop → Reads size bytes (record { at = place size (text ++ rest); len = length text; lexeme = lexeme } ∷ items) stop

-- whatever reads the bytes, from the first on, is this
abbrev pub IsOnlyReading : List ℕ → List Item → Option Refusal → Type 0
IsOnlyReading bytes items refusal = (xs : List Item) (stop : Option Refusal) → Reads (length bytes) bytes xs stop → (xs ≡ items) × (stop ≡ refusal)
