-- Words and lists, read from left to right: each by the word that is next.
use Rattle.std.specs.Prelude.{ℕ, Bool, true, false, Option, Some, None, is_some, if◌then◌else◌}
use Rattle.lara_key.specs.declared.key.KeyType.{KeyType}
use Rattle.lara_key.specs.declared.key.KeyType.TheVariants as key_type_of
use Rattle.lara_semiring.specs.declared.value.ValType.{ValType}
use Rattle.lara_semiring.specs.declared.value.ValType.TheVariants as val_type_of
use Rattle.lara_syntax.specs.declared.item.Lexeme.{Lexeme}
use Rattle.lara_syntax.specs.declared.item.Lexeme.TheVariants as lex
use Rattle.lara_syntax.specs.declared.item.Keyword.{Keyword}
use Rattle.lara_syntax.specs.declared.item.Keyword.TheVariants as key
use Rattle.lara_syntax.specs.declared.item.Sign.{Sign}
use Rattle.lara_syntax.specs.declared.item.Sign.TheVariants.{Comma}
use Rattle.lara_data.specs.declared.refusal.Kind.TheVariants.{Unexpected}
use Rattle.lara_syntax.specs.declared.ast.AstName.{AstName}
use Rattle.lara_syntax.specs.declared.ast.AstLit.{AstLit}
use Rattle.lara_syntax.specs.declared.ast.AstValue.{AstValue}
use Rattle.lara_syntax.specs.declared.ast.AstValue.TheVariants as val
use Rattle.lara_syntax.specs.FixedWords.{same_keyword, same_sign}
use Rattle.lara_syntax.specs.Steps.{Reader, ◌>>=◌, give, refuse, peek, skip}

-- ---- one word

-- a sign, by the word that is next
abbrev pub sign_by : Sign → Option Lexeme → Reader ℕ
sign_by m (Some (lex.Sign k)) = if same_sign m k then skip else refuse Unexpected
sign_by m w = refuse Unexpected

-- the sign m, which gives its place
unfoldable pub sign : Sign → Reader ℕ
sign m = peek >>= sign_by m

-- a keyword, by the word that is next
abbrev pub keyword_by : Keyword → Option Lexeme → Reader ℕ
keyword_by k (Some (lex.Key j)) = if same_keyword k j then skip else refuse Unexpected
keyword_by k w = refuse Unexpected

-- the keyword k, which gives its place
unfoldable pub keyword : Keyword → Reader ℕ
keyword k = peek >>= keyword_by k

-- NAME, by the word that is next
abbrev pub name_by : Option Lexeme → Reader AstName
name_by (Some (lex.Name n)) = do
  at ← skip
  give (record { name = n; at = at })
name_by w = refuse Unexpected

-- NAME, with its place
unfoldable pub name : Reader AstName
name = peek >>= name_by

-- what the word that is next stands for
abbrev pub next_as : {A : Type 0} → (Lexeme → Option A) → Option Lexeme → Option A
next_as f None = None
next_as f (Some w) = f w

-- takes the word that is next, which stands for something; what is made of its place and that
abbrev pub taken_as : {A B : Type 0} → (ℕ → A → B) → Option A → Reader B
taken_as make (Some x) = do
  at ← skip
  give (make at x)
taken_as make None = refuse Unexpected

-- what a word stands for, without its place
abbrev pub without_place : {A : Type 0} → ℕ → A → A
without_place at x = x

-- the type of key columns that a word stands for
abbrev pub word_key_type : Lexeme → Option KeyType
word_key_type (lex.Key key.Nat) = Some key_type_of.Nat
word_key_type (lex.Key key.Text) = Some key_type_of.Text
word_key_type (lex.Key key.Flag) = Some key_type_of.Flag
word_key_type w = None

-- keytype, by the word that is next
abbrev pub key_type_by : Option Lexeme → Reader KeyType
key_type_by w = taken_as without_place (next_as word_key_type w)

-- keytype, one word
unfoldable pub key_type : Reader KeyType
key_type = peek >>= key_type_by

-- the type of value columns that a word stands for
abbrev pub word_val_type : Lexeme → Option ValType
word_val_type (lex.Key key.Count) = Some val_type_of.Count
word_val_type (lex.Key key.MinPlus) = Some val_type_of.MinPlus
word_val_type (lex.Key key.MaxMin) = Some val_type_of.MaxMin
word_val_type (lex.Key key.Flag) = Some val_type_of.Flag
word_val_type (lex.Key key.Last) = Some val_type_of.Last
word_val_type (lex.Key key.Path) = Some val_type_of.Path
word_val_type w = None

-- valtype, by the word that is next
abbrev pub val_type_by : Option Lexeme → Reader ValType
val_type_by w = taken_as without_place (next_as word_val_type w)

-- valtype, one word
unfoldable pub val_type : Reader ValType
val_type = peek >>= val_type_by

-- the value of a word that is a literal
abbrev pub literal_of : Lexeme → Option AstValue
literal_of (lex.Number n) = Some (val.Number n)
literal_of (lex.Text content) = Some (val.Text content)
literal_of (lex.Key key.True) = Some (val.Flag true)
literal_of (lex.Key key.False) = Some (val.Flag false)
literal_of (lex.Key key.Inf) = Some val.Inf
literal_of (lex.Key key.None) = Some val.None
literal_of w = None

-- a literal is next
abbrev pub is_literal : Option Lexeme → Bool
is_literal w = is_some (next_as literal_of w)

-- a value at its place
abbrev pub lit_at : ℕ → AstValue → AstLit
lit_at at v = record { at = at; value = v }

-- lit, by the word that is next
abbrev pub lit_by : Option Lexeme → Reader AstLit
lit_by w = taken_as lit_at (next_as literal_of w)

-- lit, one word
unfoldable pub lit : Reader AstLit
lit = peek >>= lit_by

-- ---- lists

-- [ "," X ], by the word that is next
abbrev pub comma_by : {A : Type 0} → Reader A → Option Lexeme → Reader (Option A)
comma_by p (Some (lex.Sign Comma)) = do
  at ← skip
  x ← p
  give (Some x)
comma_by p w = give None

-- [ "," X ]
abbrev pub comma_then : {A : Type 0} → Reader A → Reader (Option A)
comma_then p = peek >>= comma_by p
