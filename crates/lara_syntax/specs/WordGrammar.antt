-- The grammar of words and lists, on which the rules stand. `X x ts rest` says that ts is x, and behind it rest.
use Rattle.std.specs.Prelude.{ℕ, true, false, List, [], ◌∷◌}
use Rattle.lara_key.specs.declared.key.KeyType.{KeyType}
use Rattle.lara_key.specs.declared.key.KeyType.TheVariants as key_type_of
use Rattle.lara_semiring.specs.declared.value.ValType.{ValType}
use Rattle.lara_semiring.specs.declared.value.ValType.TheVariants as val_type_of
use Rattle.lara_syntax.specs.declared.item.Lexeme.{Lexeme}
use Rattle.lara_syntax.specs.declared.item.Lexeme.TheVariants as lex
use Rattle.lara_syntax.specs.declared.item.Keyword.{Keyword}
use Rattle.lara_syntax.specs.declared.item.Keyword.TheVariants as key
use Rattle.lara_syntax.specs.declared.item.Sign.{Sign}
use Rattle.lara_syntax.specs.declared.item.Sign.TheVariants.{Comma}
use Rattle.lara_syntax.specs.declared.ast.AstName.{AstName}
use Rattle.lara_syntax.specs.declared.ast.AstLit.{AstLit}
use Rattle.lara_syntax.specs.declared.ast.AstValue.{AstValue}
use Rattle.lara_syntax.specs.declared.ast.AstValue.TheVariants as val
use Rattle.lara_syntax.specs.Steps.{Items}

-- ---- one word

-- the word w, at a place
pub data Word (w : Lexeme) : ℕ → Items → Items → Type 0 where
  word : (at len : ℕ) (rest : Items) → Word w at (record { at = at; len = len; lexeme = w } ∷ rest) rest

-- the sign m, at a place
abbrev pub Mark : Sign → ℕ → Items → Items → Type 0
Mark m = Word (lex.Sign m)

-- the keyword k, at a place
abbrev pub Key : Keyword → ℕ → Items → Items → Type 0
Key k = Word (lex.Key k)

-- NAME
abbrev pub Named : AstName → Items → Items → Type 0
Named x = Word (lex.Name x.name) x.at

-- how a value is written, as one word
abbrev pub literal_word : AstValue → Lexeme
literal_word (val.Number n) = lex.Number n
literal_word (val.Text content) = lex.Text content
literal_word (val.Flag true) = lex.Key key.True
literal_word (val.Flag false) = lex.Key key.False
literal_word val.Inf = lex.Key key.Inf
literal_word val.None = lex.Key key.None

-- lit = NUMBER | TEXT | "true" | "false" | "inf" | "none"
abbrev pub Lit : AstLit → Items → Items → Type 0
Lit x = Word (literal_word x.value) x.at

-- the keyword of a type of key columns
abbrev pub key_type_word : KeyType → Keyword
key_type_word key_type_of.Nat = key.Nat
key_type_word key_type_of.Text = key.Text
key_type_word key_type_of.Flag = key.Flag

-- keytype = "nat" | "text" | "flag"
abbrev pub KeyTyped : KeyType → Items → Items → Type 0
KeyTyped t ts rest = (at : ℕ) × Key (key_type_word t) at ts rest

-- the keyword of a type of value columns
abbrev pub val_type_word : ValType → Keyword
val_type_word val_type_of.Count = key.Count
val_type_word val_type_of.MinPlus = key.MinPlus
val_type_word val_type_of.MaxMin = key.MaxMin
val_type_word val_type_of.Flag = key.Flag
val_type_word val_type_of.Last = key.Last
val_type_word val_type_of.Path = key.Path

-- valtype = "count" | "minplus" | "maxmin" | "flag" | "last" | "path"
abbrev pub ValTyped : ValType → Items → Items → Type 0
ValTyped t ts rest = (at : ℕ) × Key (val_type_word t) at ts rest

-- ---- lists

-- { X }
pub data Many {A : Type 0} (X : A → Items → Items → Type 0) : List A → Items → Items → Type 0 where
  none : (rest : Items) → Many X [] rest rest
  more : (x : A) (xs : List A) (ts us rest : Items) → X x ts us → Many X xs us rest → Many X (x ∷ xs) ts rest

-- "," X
pub data CommaThen {A : Type 0} (X : A → Items → Items → Type 0) : A → Items → Items → Type 0 where
  comma_then : (at : ℕ) (x : A) (ts us rest : Items) → Mark Comma at ts us → X x us rest → CommaThen X x ts rest

-- X { "," X }
pub data Commas {A : Type 0} (X : A → Items → Items → Type 0) : List A → Items → Items → Type 0 where
  commas : (x : A) (xs : List A) (ts us rest : Items) → X x ts us → Many (CommaThen X) xs us rest → Commas X (x ∷ xs) ts rest

-- [ X ]
pub data Maybe {A : Type 0} (X : List A → Items → Items → Type 0) : List A → Items → Items → Type 0 where
  nothing : (rest : Items) → Maybe X [] rest rest
  just : (xs : List A) (ts rest : Items) → X xs ts rest → Maybe X xs ts rest
