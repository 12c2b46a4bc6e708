-- What text spells a token, what may stand behind it, and what is wrong where no token stands.
use Rattle.std.specs.Prelude.{◌≡◌, ◌≢◌, ◌≤◌, ◌<◌, ◌⊎◌, ℕ, ◌+◌, ◌-◌, ◌^◌, ◌*◌, Bool, true, false, List, [], ◌∷◌, ◌++◌, length}
use Rattle.std.specs.List.{list_all}
use Rattle.std.specs.Char.{is_ascii_digit}
use Rattle.lara_base.specs.Names.{starts_name, goes_on, is_name}
use Rattle.lara_data.specs.declared.refusal.Kind.{Kind}
use Rattle.lara_data.specs.declared.refusal.Kind.TheVariants.{BadByte, BadNumber, BadText, TooLong}
use Rattle.lara_syntax.specs.declared.item.Lexeme.{Lexeme}
use Rattle.lara_syntax.specs.declared.item.Lexeme.TheVariants.{Name, Key, Number, Text, Sign}
use Rattle.lara_syntax.specs.declared.item.Sign.{Sign as SignWord}
use Rattle.lara_syntax.specs.ByteClasses.{is_space, number_from}
use Rattle.lara_syntax.specs.FixedWords.{keyword_text, sign_text}

-- a hexadecimal digit and its value: 0 to 9 are the bytes from 48 on, a to f those from 97 on, A to F those from 65 on
abbrev pub IsHex : ℕ → ℕ → Type 0
IsHex b v = ((b ≡ 48 + v) × (v < 10)) ⊎ ((b ≡ 97 + (v - 10)) × (10 ≤ v) × (v < 16)) ⊎ ((b ≡ 65 + (v - 10)) × (10 ≤ v) × (v < 16))

-- a byte that stands as it is in a text: from 20 hexadecimal on except `"`, `\` and 7F
abbrev pub IsPlain : ℕ → Type 0
IsPlain b = (32 ≤ b) × (b ≢ 34) × (b ≢ 92) × (b ≢ 127)

-- the content of a text, and how it is written: byte by byte, plain or as `\"`, `\\` or `\xHH`
pub data Written : List ℕ → List ℕ → Type 0 where
  nothing : Written [] []
  plain : (b : ℕ) (cs bs : List ℕ) → IsPlain b → Written cs bs → Written (b ∷ cs) (b ∷ bs)
  quote : (cs bs : List ℕ) → Written cs bs → Written (34 ∷ cs) (92 ∷ 34 ∷ bs)
  backslash : (cs bs : List ℕ) → Written cs bs → Written (92 ∷ cs) (92 ∷ 92 ∷ bs)
  hexadecimal : (h l high low : ℕ) (cs bs : List ℕ) → IsHex h high → IsHex l low → Written cs bs → Written ((high * 16 + low) ∷ cs) (92 ∷ 120 ∷ h ∷ l ∷ bs)

-- decimal digits, at least one, with this value
pub record AreDigits (v : ℕ) (text : List ℕ) : Type 0 where
  pub some : text ≢ []
  pub digits : list_all is_ascii_digit text ≡ true
  pub value : number_from 0 text ≡ v

-- a quote, at most 1,024 bytes of content as they are written, and a quote
pub record IsText (content text : List ℕ) : Type 0 where
  pub bytes : List ℕ
  pub written : Written content bytes
  pub quoted : text ≡ 34 ∷ bytes ++ 34 ∷ []
  pub short : length content ≤ 1024

-- the text spells the token
abbrev pub Spells : Lexeme → List ℕ → Type 0
Spells (Name n) text = (text ≡ n) × (is_name n ≡ true)
Spells (Key k) text = text ≡ keyword_text k
Spells (Number v) text = AreDigits v text × (v < 2 ^ 64)
Spells (Text c) text = IsText c text
Spells (Sign s) text = text ≡ sign_text s

-- the first byte, where there is one, fails the test
abbrev pub StartsNot : (ℕ → Bool) → List ℕ → Type 0
StartsNot p [] = Unit {0}
StartsNot p (b ∷ bs) = p b ≡ false

-- The longest first: what stands behind a name, a keyword or a number does not go on with a letter, a digit or `_`,
-- and no longer sign stands where a sign does.
abbrev pub Ends : Lexeme → List ℕ → Type 0
Ends (Name n) rest = StartsNot goes_on rest
Ends (Key k) rest = StartsNot goes_on rest
Ends (Number v) rest = StartsNot goes_on rest
Ends (Text c) rest = Unit {0}
Ends (Sign s) rest = (longer : SignWord) (more : List ℕ) → sign_text s ++ rest ≡ sign_text longer ++ more → length (sign_text longer) ≤ length (sign_text s)

-- no token begins with the byte, and it is no blank
pub record BeginsNone (b : ℕ) (bs : List ℕ) : Type 0 where
  pub space : is_space b ≡ false
  pub comment : b ≢ 35
  pub word : goes_on b ≡ false
  pub text : b ≢ 34
  pub sign : (s : SignWord) (more : List ℕ) → b ∷ bs ≢ sign_text s ++ more

-- what is wrong where no token stands
pub data Wrong : Kind → List ℕ → Type 0 where
  -- more than 64 bytes of a name
  long_name : (b : ℕ) (bs rest : List ℕ) → starts_name b ≡ true → list_all goes_on bs ≡ true → 64 ≤ length bs → StartsNot goes_on rest → Wrong TooLong (b ∷ bs ++ rest)
  -- digits past the greatest number, 2^64 - 1
  too_great : (digits rest : List ℕ) (v : ℕ) → AreDigits v digits → StartsNot is_ascii_digit rest → 2 ^ 64 ≤ v → Wrong BadNumber (digits ++ rest)
  -- a letter or `_` right after the digits
  letter_behind : (digits : List ℕ) (v b : ℕ) (rest : List ℕ) → AreDigits v digits → starts_name b ≡ true → Wrong BadNumber (digits ++ b ∷ rest)
  -- a quote where no text stands
  no_text : (bs : List ℕ) → ((content text rest : List ℕ) → IsText content text → 34 ∷ bs ≢ text ++ rest) → Wrong BadText (34 ∷ bs)
  no_token : (b : ℕ) (bs : List ℕ) → BeginsNone b bs → Wrong BadByte (b ∷ bs)
