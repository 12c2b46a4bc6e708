-- The token in front.
use Rattle.std.specs.Prelude.{ℕ, ◌-◌, nat_lt, ◌==◌, if◌then◌else◌, List, [], ◌∷◌, length, take, drop, Option, Some, None, Ok, Err, ◌≡◌, Result}
use Rattle.std.specs.Borrow.{Bor}
use Rattle.std.specs.List.{list_any}
use Rattle.std.specs.Char.{is_ascii_digit}
use Rattle.lara_base.specs.Names.{starts_name, goes_on, is_name}
use Rattle.lara_data.specs.declared.refusal.Kind.TheVariants.{BadByte, BadNumber, BadText, TooLong}
use Rattle.lara_syntax.specs.declared.item.Lexeme.{Lexeme}
use Rattle.lara_syntax.specs.declared.item.Lexeme.TheVariants.{Name, Key, Number, Text, Sign}
use Rattle.lara_syntax.specs.declared.item.Item.{Item}
use Rattle.lara_syntax.specs.declared.item.Keyword.{Keyword}
use Rattle.lara_syntax.specs.declared.item.Sign.{Sign as SignWord}
use Rattle.lara_data.specs.declared.refusal.Refusal.{Refusal}
use Rattle.lara_syntax.specs.declared.scan_fault.ScanFault.{ScanFault}
use Rattle.lara_syntax.specs.declared.scan_fault.ScanFault.TheVariants as faults
use Rattle.lara_syntax.specs.declared.scan.Step.{Step}
use Rattle.lara_syntax.specs.declared.scan.Step.TheVariants as steps
use Rattle.lara_syntax.specs.ScanSteps.{Bytes, Scan, Scanner}
use Rattle.lara_syntax.specs.ByteClasses.{run_len, after_blank, number_value}
use Rattle.lara_syntax.specs.FixedWords.{keyword_of, sign_of}
use Rattle.lara_syntax.specs.TextContents.{content}

-- a keyword, or else a name; what is neither is too long
abbrev pub name_by : Bytes → Bytes → Option Keyword → Scan Lexeme
name_by text rest (Some k) = Ok (Key k, rest)
name_by text rest None = if is_name text then Ok (Name text, rest) else Err TooLong

-- a keyword or a name, as long as letters, `_` and digits go on
unfoldable pub name_word : Scanner Lexeme
name_word bs = let n = run_len goes_on bs in name_by (take n bs) (drop n bs) (keyword_of (take n bs))

-- a number of this value, and these bytes behind it
abbrev pub number_by : Option ℕ → Bytes → Scan Lexeme
number_by None rest = Err BadNumber
number_by (Some n) rest = if list_any starts_name (take 1 rest) then Err BadNumber else Ok (Number n, rest)

-- a value up to the greatest, and no letter or `_` right behind
unfoldable pub number_word : Scanner Lexeme
number_word bs = let n = run_len is_ascii_digit bs in number_by (number_value (take n bs)) (drop n bs)

-- a text of this content, which is not too long
abbrev pub text_by : Scan (List ℕ) → Scan Lexeme
text_by (Ok x) = if nat_lt 1024 (length x.0) then Err BadText else Ok (Text x.0, x.1)
text_by (Err kind) = Err BadText

-- at most 1,024 bytes of content; these bytes stand behind the quote
unfoldable pub text_word : Scanner Lexeme
text_word bs = text_by (content bs)

-- where a function refuses, no text stands behind the quote, unless memory ran out
abbrev pub RefusesContent : Bytes → ScanFault → Type 0
RefusesContent bs (faults.Bad kind) = text_word bs ≡ Err BadText
RefusesContent bs faults.Memory = Unit {0}

-- what a function returned is the content behind a quote, and where it refuses no text stands
abbrev pub GivesContent : Bytes → Result (List ℕ × Bor (List ℕ)) ScanFault → Type 0
GivesContent bs (Ok x) = content bs ≡ Ok (x.0, x.1.now)
GivesContent bs (Err fault) = RefusesContent bs fault

-- the sign that was found for one byte, or BadByte
abbrev pub one_sign_by : Bytes → Option SignWord → Scan Lexeme
one_sign_by rest (Some s) = Ok (Sign s, rest)
one_sign_by rest None = Err BadByte

-- a sign of one byte
unfoldable pub one_sign : Scanner Lexeme
one_sign [] = Err BadByte
one_sign (a ∷ rest) = one_sign_by rest (sign_of (a ∷ []))

-- the sign that was found for two bytes, or else that of one
abbrev pub two_sign_by : Bytes → Scan Lexeme → Option SignWord → Scan Lexeme
two_sign_by rest one (Some s) = Ok (Sign s, rest)
two_sign_by rest one None = one

-- two bytes before one
unfoldable pub sign_word : Scanner Lexeme
sign_word [] = Err BadByte
sign_word (a ∷ []) = one_sign (a ∷ [])
sign_word (a ∷ b ∷ rest) = two_sign_by rest (one_sign (a ∷ b ∷ rest)) (sign_of (a ∷ b ∷ []))

-- the token in front: its first byte tells which it can be
unfoldable pub word_at : Scanner Lexeme
word_at [] = Err BadByte
word_at (b ∷ bs) = if starts_name b then name_word (b ∷ bs) else (if is_ascii_digit b then number_word (b ∷ bs) else (if b == 34 then text_word bs else sign_word (b ∷ bs)))

-- the token with its place and its number of bytes, or none; size is the length of the script
abbrev pub item_by : ℕ → Bytes → Scan Lexeme → Scan (Option Item)
item_by size bs (Ok x) = Ok (Some (record { at = size - length bs; len = length bs - length x.1; lexeme = x.0 }), x.1)
item_by size bs (Err kind) = Ok (None, bs)

-- the token behind white space and comments, or none where none begins
unfoldable pub item_here : ℕ → Scanner (Option Item)
item_here size bs = let rest = after_blank bs in item_by size rest (word_at rest)

-- the refusal at the first of the bytes, where no token stands there
abbrev pub refused : ℕ → Bytes → Scan Lexeme → Option Refusal
refused size bs (Ok x) = None
refused size bs (Err kind) = Some (record { at = size - length bs; kind = kind })

-- where the tokens stop: at the end, or at the first byte of what is none
unfoldable pub stop_at : ℕ → Bytes → Option Refusal
stop_at size [] = None
stop_at size (b ∷ bs) = refused size (b ∷ bs) (word_at (b ∷ bs))

-- the next item, the end, or the refusal where the items stop
abbrev pub GivesStep : ℕ → Bytes → Step → Type 0
GivesStep size bytes (steps.Item x rest) = item_here size bytes ≡ Ok (Some x, rest.now)
GivesStep size bytes steps.End = item_here size bytes ≡ Ok (None, [])
GivesStep size bytes (steps.Refused refusal) = (rest : Bytes) × (item_here size bytes ≡ Ok (None, rest)) × (stop_at size rest ≡ Some refusal)
