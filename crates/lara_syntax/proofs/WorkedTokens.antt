-- Readings of a few bytes, worked out by hand.
use Rattle.std.specs.Prelude.{◌≡◌, ℕ, zero, suc, List, [], ◌∷◌, Some, Ok, Err, codes}
use Rattle.std.proofs.Common.{refl}
use Rattle.lara_data.specs.declared.refusal.Kind.TheVariants.{BadByte, BadNumber, BadText}
use Rattle.lara_syntax.specs.declared.item.Item.{Item}
use Rattle.lara_syntax.specs.declared.item.Lexeme.TheVariants as lex
use Rattle.lara_syntax.specs.declared.item.Keyword.TheVariants as key
use Rattle.lara_syntax.specs.declared.item.Sign.TheVariants as sign
use Rattle.lara_syntax.specs.ScanSteps.{gather, gather_within}
use Rattle.lara_syntax.specs.FixedWords.{keyword_of, sign_of}
use Rattle.lara_syntax.specs.TextContents.{content_byte, escape, hex_byte}
use Rattle.lara_syntax.specs.TokenWords.{name_word, number_word, text_word, text_by, one_sign, sign_word, word_at, item_here, stop_at}
use Rattle.lara_syntax.specs.Tokens.{scanned, items_of, stop_of}

-- the token `;` at a place
abbrev semi : ℕ → Item
semi at = record { at = at; len = 1; lexeme = lex.Sign sign.Semi }

-- `;` twice, with one byte between them
abbrev around : ℕ → List ℕ
around b = 59 ∷ b ∷ 59 ∷ []

-- ---- what stands between tokens: a space, a tab, an LF, a CR, and no other byte

space_between : items_of (around 32) ≡ semi 0 ∷ semi 2 ∷ []
unfolding items_of scanned gather gather_within item_here word_at sign_word one_sign sign_of Rattle.lara_base.specs.Names.starts_name
space_between = refl

tab_between : items_of (around 9) ≡ semi 0 ∷ semi 2 ∷ []
unfolding items_of scanned gather gather_within item_here word_at sign_word one_sign sign_of Rattle.lara_base.specs.Names.starts_name
tab_between = refl

line_between : items_of (around 10) ≡ semi 0 ∷ semi 2 ∷ []
unfolding items_of scanned gather gather_within item_here word_at sign_word one_sign sign_of Rattle.lara_base.specs.Names.starts_name
line_between = refl

return_between : items_of (around 13) ≡ semi 0 ∷ semi 2 ∷ []
unfolding items_of scanned gather gather_within item_here word_at sign_word one_sign sign_of Rattle.lara_base.specs.Names.starts_name
return_between = refl

-- a vertical tab is no blank: it begins no token
no_blank : stop_of (around 11) ≡ Some (record { at = 1; kind = BadByte })
unfolding stop_of scanned stop_at gather gather_within item_here word_at sign_word one_sign sign_of Rattle.lara_base.specs.Names.starts_name
no_blank = refl

-- a comment goes over a CR, and ends at the LF
comment_between : items_of (59 ∷ 35 ∷ 13 ∷ 59 ∷ 10 ∷ 59 ∷ []) ≡ semi 0 ∷ semi 5 ∷ []
unfolding items_of scanned gather gather_within item_here word_at sign_word one_sign sign_of Rattle.lara_base.specs.Names.starts_name
comment_between = refl

-- ---- one token

-- of two signs that stand in front the longer one
longest_sign : sign_word (codes "<=") ≡ Ok (lex.Sign sign.LessEqual, [])
unfolding sign_word one_sign sign_of
longest_sign = refl

-- a keyword, and a name that begins with it
a_keyword : name_word (codes "by") ≡ Ok (lex.Key key.By, [])
unfolding name_word keyword_of Rattle.lara_base.specs.Names.goes_on
a_keyword = refl

-- the greatest number, and the next one
greatest_number : number_word (codes "18446744073709551615") ≡ Ok (lex.Number 18446744073709551615, [])
unfolding number_word Rattle.lara_base.specs.Names.starts_name
greatest_number = refl

past_greatest : number_word (codes "18446744073709551616") ≡ Err BadNumber
unfolding number_word
past_greatest = refl

-- the escapes of a text, behind its opening quote: `\"\\\x0A"`
escapes : text_word (92 ∷ 34 ∷ 92 ∷ 92 ∷ 92 ∷ 120 ∷ 48 ∷ 65 ∷ 34 ∷ []) ≡ Ok (lex.Text (34 ∷ 92 ∷ 10 ∷ []), [])
unfolding text_word gather gather_within content_byte escape hex_byte
escapes = refl

-- so many times `a`
abbrev many : ℕ → List ℕ
many zero = []
many (suc n) = 97 ∷ many n

-- a text of 1,025 bytes is too long
long_text : text_by (Ok (many 1025, [])) ≡ Err BadText
long_text = refl

-- one of 1,024 is none
short_text : text_by (Ok (many 1024, [])) ≡ Ok (lex.Text (many 1024), [])
short_text = refl
