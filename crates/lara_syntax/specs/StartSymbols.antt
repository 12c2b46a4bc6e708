-- A start symbol of the grammar, which says within limits what words are what: what it is for bytes, and what words begin it.
use Rattle.std.specs.Prelude.{ℕ, List, [], ◌∷◌, ◌++◌, length, None}
use Rattle.lara_syntax.specs.declared.item.Lexeme.{Lexeme}
use Rattle.lara_syntax.specs.Limits.{Limits, most}
use Rattle.lara_syntax.specs.Steps.{Items}
use Rattle.lara_syntax.specs.Spellings.{Spells}
use Rattle.lara_syntax.specs.TokenReadings.{Reads}

-- the limits, a value, and all its words
abbrev pub StartSymbol : Type 0 → Type 1
StartSymbol A = Limits → A → Items → Type 0

-- the bytes are read to their end as words which are x
pub record Stands {A : Type 0} (X : Limits → A → Items → Type 0) (bytes : List ℕ) (x : A) : Type 0 where
  pub items : Items
  pub reading : Reads (length bytes) bytes items None
  pub whole : X most x items

-- some text spells the word
abbrev pub IsSpelled : Lexeme → Type 0
IsSpelled w = (text : List ℕ) × Spells w text

-- words that can be written
abbrev pub AreSpelled : Items → Type 0
AreSpelled [] = Unit {0}
AreSpelled (t ∷ ts) = IsSpelled t.lexeme × AreSpelled ts

-- within limits something of X begins with these words
abbrev pub BeginsWithin : {A : Type 0} → StartSymbol A → Limits → Items → Type 0
BeginsWithin {A = A} X limits ts = (after : Items) × AreSpelled after × (x : A) × X limits x (ts ++ after)

-- within limits nothing of X begins with these words
abbrev pub NoneWithin : {A : Type 0} → StartSymbol A → Limits → Items → Type 0
NoneWithin {A = A} X limits ts = (after : Items) (x : A) → X limits x (ts ++ after) → ⊥

-- something of X begins with these words
abbrev pub SomeBegins : {A : Type 0} → StartSymbol A → Items → Type 0
SomeBegins X ts = BeginsWithin X most ts

-- nothing of X begins with these words
abbrev pub NoneBegins : {A : Type 0} → StartSymbol A → Items → Type 0
NoneBegins X ts = NoneWithin X most ts

-- with other limits something of X begins with these words
abbrev pub LongBegins : {A : Type 0} → StartSymbol A → Items → Type 0
LongBegins X ts = (limits : Limits) × BeginsWithin X limits ts

-- whatever the limits, nothing of X begins with these words
abbrev pub NoLongBegins : {A : Type 0} → StartSymbol A → Items → Type 0
NoLongBegins X ts = (limits : Limits) → NoneWithin X limits ts
