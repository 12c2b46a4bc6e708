-- Keywords and signs by their text.
use Rattle.std.proofs.Common.{◌≡◌, ℕ, List, [], ◌∷◌, length, map, Option, Some, None, refl, sym, ap, ◌∙◌, Bool, true, false, cond}
use Rattle.std.specs.Prelude.{not, ◌==◌, ◌||◌, ◌&&◌, nat_lt}
use Rattle.std.specs.List.{list_all, list_any}
use Rattle.std.specs.Str.{bytes_eq}
use Rattle.std.specs.Char.{is_ascii_digit}
use Rattle.std.proofs.lemmas.Slice.Eq.{bytes_eq-Decides}
use Rattle.lara_base.specs.Names.{starts_name, goes_on, is_keyword}
use Rattle.lara_syntax.specs.declared.item.Keyword.{Keyword}
use Rattle.lara_syntax.specs.declared.item.Keyword.TheVariants as key
use Rattle.lara_syntax.specs.declared.item.Sign.{Sign}
use Rattle.lara_syntax.specs.declared.item.Sign.TheVariants as sign
use Rattle.lara_syntax.specs.ByteClasses.{is_space}
use Rattle.lara_syntax.specs.FixedWords.{keyword_text, sign_text, all_keywords, all_signs, word_of, keyword_of, sign_of, same_keyword, same_sign}

pub both : (a b : Bool) → (a && b) ≡ true → (a ≡ true) × (b ≡ true)
both true true e = (refl, refl)
both true false e = absurd cc
both false b e = absurd cc

pub neither : (a b : Bool) → (a || b) ≡ false → (a ≡ false) × (b ≡ false)
neither false false e = (refl, refl)
neither false true e = absurd cc
neither true b e = absurd cc

-- ---- a word by its text

any_among : {W : Type 0} (text_of : W → List ℕ) (ws : List W) (text : List ℕ) → list_any (λ b. bytes_eq b text) (map text_of ws) ≡ false → word_of text_of ws text ≡ None
any_among text_of [] text e = refl
any_among text_of (w ∷ ws) text e = let h = neither (bytes_eq (text_of w) text) _ e in rw h.0 (any_among text_of ws text h.1)

among_any_by : {W : Type 0} (b : Bool) (w : W) (o : Option W) (r : Bool) → (o ≡ None → r ≡ false) → cond b (Some w) o ≡ None → (b || r) ≡ false
among_any_by true w o r h e = absurd cc
among_any_by false w o r h e = h e

among_any : {W : Type 0} (text_of : W → List ℕ) (ws : List W) (text : List ℕ) → word_of text_of ws text ≡ None → list_any (λ b. bytes_eq b text) (map text_of ws) ≡ false
among_any text_of [] text e = refl
among_any text_of (w ∷ ws) text e = among_any_by (bytes_eq (text_of w) text) w (word_of text_of ws text) _ (among_any text_of ws text) e

some_is : {W : Type 0} (x y : W) → Some x ≡ Some y → x ≡ y
some_is x y e = cc

written_by : {W : Type 0} (text_of : W → List ℕ) (text : List ℕ) (b : Bool) (w : W) (o : Option W) (v : W) → bytes_eq (text_of w) text ≡ b → (o ≡ Some v → text_of v ≡ text) → cond b (Some w) o ≡ Some v → text_of v ≡ text
written_by text_of text true w o v d h e = ap text_of (sym (some_is w v e)) ∙ (bytes_eq-Decides (text_of w) text).0 d
written_by text_of text false w o v d h e = h e

-- it is written so
word_of-text : {W : Type 0} (text_of : W → List ℕ) (ws : List W) (text : List ℕ) (v : W) → word_of text_of ws text ≡ Some v → text_of v ≡ text
word_of-text text_of [] text v e = absurd cc
word_of-text text_of (w ∷ ws) text v e = written_by text_of text (bytes_eq (text_of w) text) w (word_of text_of ws text) v refl (word_of-text text_of ws text v) e

-- ---- keywords

pub keyword_of-none : (text : List ℕ) → is_keyword text ≡ false → keyword_of text ≡ None
unfolding is_keyword keyword_of
keyword_of-none text e = any_among keyword_text all_keywords text e

pub none-keyword : (text : List ℕ) → keyword_of text ≡ None → is_keyword text ≡ false
unfolding is_keyword keyword_of
none-keyword text e = among_any keyword_text all_keywords text e

pub keyword_of-is : (text : List ℕ) (j : Keyword) → keyword_of text ≡ Some j → keyword_text j ≡ text
unfolding keyword_of
keyword_of-is text j e = word_of-text keyword_text all_keywords text j e

-- a name as to its bytes and its length
abbrev pub is_word : List ℕ → Bool
is_word [] = false
is_word (b ∷ bs) = starts_name b && list_all goes_on bs && nat_lt (length bs) 64

pub keyword-is_word : (k : Keyword) → is_word (keyword_text k) ≡ true
unfolding starts_name goes_on
keyword-is_word key.Agg = refl
keyword-is_word k = refl

pub keyword_of-text : (k : Keyword) → keyword_of (keyword_text k) ≡ Some k
unfolding keyword_of
keyword_of-text key.Agg = refl
keyword_of-text k = refl

pub same_keyword-is : (m k : Keyword) → same_keyword m k ≡ true → k ≡ m
same_keyword-is m k e = some_is k m (sym (keyword_of-text k) ∙ ap keyword_of (sym ((bytes_eq-Decides (keyword_text m) (keyword_text k)).0 e)) ∙ keyword_of-text m)

pub same_keyword-refl : (m : Keyword) → same_keyword m m ≡ true
same_keyword-refl m = (bytes_eq-Decides (keyword_text m) (keyword_text m)).1 refl

-- ---- signs

pub sign_of-is : (text : List ℕ) (j : Sign) → sign_of text ≡ Some j → sign_text j ≡ text
unfolding sign_of
sign_of-is text j e = word_of-text sign_text all_signs text j e

pub sign_of-text : (k : Sign) → sign_of (sign_text k) ≡ Some k
unfolding sign_of
sign_of-text sign.Is = refl
sign_of-text k = refl

pub same_sign-is : (m k : Sign) → same_sign m k ≡ true → k ≡ m
same_sign-is m k e = some_is k m (sym (sign_of-text k) ∙ ap sign_of (sym ((bytes_eq-Decides (sign_text m) (sign_text k)).0 e)) ∙ sign_of-text m)

pub same_sign-refl : (m : Sign) → same_sign m m ≡ true
same_sign-refl m = (bytes_eq-Decides (sign_text m) (sign_text m)).1 refl

-- no other token and no blank begins with the byte
abbrev pub begins_sign : ℕ → Bool
begins_sign b = not (starts_name b) && not (is_ascii_digit b) && not (b == 34) && not (is_space b) && not (b == 35)

-- a sign is one byte or two
pub data Shape : List ℕ → Type 0 where
  one : (a : ℕ) → begins_sign a ≡ true → Shape (a ∷ [])
  two : (a b : ℕ) → begins_sign a ≡ true → Shape (a ∷ b ∷ [])

pub sign-shape : (s : Sign) → Shape (sign_text s)
unfolding starts_name
sign-shape sign.Is = one 61 refl
sign-shape sign.Semi = one 59 refl
sign-shape sign.Comma = one 44 refl
sign-shape sign.Colon = one 58 refl
sign-shape sign.OpenBracket = one 91 refl
sign-shape sign.CloseBracket = one 93 refl
sign-shape sign.OpenBrace = one 123 refl
sign-shape sign.CloseBrace = one 125 refl
sign-shape sign.Open = one 40 refl
sign-shape sign.Close = one 41 refl
sign-shape sign.Plus = one 43 refl
sign-shape sign.Times = one 42 refl
sign-shape sign.PlusPlus = two 43 43 refl
sign-shape sign.Equal = two 61 61 refl
sign-shape sign.NotEqual = two 33 61 refl
sign-shape sign.Less = one 60 refl
sign-shape sign.LessEqual = two 60 61 refl
sign-shape sign.Greater = one 62 refl
sign-shape sign.GreaterEqual = two 62 61 refl
