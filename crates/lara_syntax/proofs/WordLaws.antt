-- Each token takes a byte of the script.
use Rattle.std.proofs.Common.{◌≡◌, ℕ, suc, ◌≤◌, ◌<◌, List, [], ◌∷◌, length, take, drop, refl, arith, Bool, true, false, Some, None, Option, cond, ap, Ok, Err, length-drop, ltb}
use Rattle.std.specs.Prelude.{◌||◌, not, ◌==◌}
use Rattle.std.specs.Int.{is_in_range}
use Rattle.std.specs.Char.{is_ascii_digit}
use Rattle.std.specs.List.{list_any}
use Rattle.lara_base.specs.Names.{starts_name, goes_on, is_name}
use Rattle.lara_data.specs.declared.refusal.Kind.{Kind}
use Rattle.lara_data.specs.declared.refusal.Kind.TheVariants.{BadByte, BadNumber, BadText, TooLong}
use Rattle.lara_syntax.specs.declared.item.Item.{Item}
use Rattle.lara_syntax.specs.declared.item.Lexeme.{Lexeme}
use Rattle.lara_syntax.specs.declared.item.Lexeme.TheVariants.{Name, Key, Number, Text, Sign}
use Rattle.lara_syntax.specs.declared.item.Keyword.{Keyword}
use Rattle.lara_syntax.specs.declared.item.Sign.{Sign as SignWord}
use Rattle.lara_syntax.specs.ScanSteps.{Bytes, Scan}
use Rattle.lara_syntax.specs.ByteClasses.{is_space, run_len, blank_in, after_blank, number_value}
use Rattle.lara_syntax.specs.FixedWords.{keyword_of, sign_of}
use Rattle.lara_syntax.specs.TextContents.{content}
use Rattle.lara_syntax.specs.TokenWords.{word_at, name_word, name_by, number_word, number_by, text_word, text_by, one_sign, one_sign_by, sign_word, two_sign_by, item_here, item_by}
use Rattle.lara_syntax.proofs.Gather.{TakesOne, scan_of, rest_is, err_ok, none_some}
use Rattle.lara_syntax.proofs.TextLaws.{content-shorter}

abbrev ShortWord : Bytes → Scan Lexeme → Type 0
ShortWord ts r = (w : Lexeme) (u : Bytes) → r ≡ Ok (w, u) → length u < length ts

chosen : (ts : Bytes) (b : Bool) (p q : Scan Lexeme) → (b ≡ true → ShortWord ts p) → (b ≡ false → ShortWord ts q) → ShortWord ts (cond b p q)
chosen ts true p q hp hq = hp refl
chosen ts false p q hp hq = hq refl

bad : (ts : Bytes) (k : Kind) → ShortWord ts (Err k)
bad ts k w u e = absurd (err_ok k (w, u) e)

good : (ts : Bytes) (v : Lexeme) (us : Bytes) → length us < length ts → ShortWord ts (Ok (v, us))
good ts v us lt w u e = let r = rest_is v us w u e in omega (arith, ap length r)

or_more : (d u l e : Bool) → ((u || l) || e) ≡ true → (((d || u) || l) || e) ≡ true
or_more true u l e h = refl
or_more false true l e h = refl
or_more false false true e h = refl
or_more false false false true h = refl
or_more false false false false h = absurd cc

pub starts-goes_on : (b : ℕ) → starts_name b ≡ true → goes_on b ≡ true
unfolding starts_name goes_on
starts-goes_on b t = or_more (is_in_range 48 57 b) (is_in_range 65 90 b) (is_in_range 97 122 b) (b == 95) t

run_some : (p : ℕ → Bool) (b : ℕ) (bs : List ℕ) → p b ≡ true → 0 < run_len p (b ∷ bs)
run_some p b bs e = rw e (omega arith)

short_name_by : (ts text rest : Bytes) (o : Option Keyword) → length rest < length ts → ShortWord ts (name_by text rest o)
short_name_by ts text rest (Some k) lt = good ts (Key k) rest lt
short_name_by ts text rest None lt = chosen ts (is_name text) _ _ (λ e. good ts (Name text) rest lt) (λ e. bad ts TooLong)

short_name : (b : ℕ) (bs : Bytes) → 0 < run_len goes_on (b ∷ bs) → ShortWord (b ∷ bs) (name_word (b ∷ bs))
unfolding name_word
short_name b bs h = let n = run_len goes_on (b ∷ bs) in short_name_by (b ∷ bs) (take n (b ∷ bs)) (drop n (b ∷ bs)) (keyword_of (take n (b ∷ bs))) (omega (arith, length-drop (run_len goes_on (b ∷ bs)) (b ∷ bs), h))

short_number_by : (ts : Bytes) (o : Option ℕ) (rest : Bytes) → length rest < length ts → ShortWord ts (number_by o rest)
short_number_by ts None rest lt = bad ts BadNumber
short_number_by ts (Some n) rest lt = chosen ts (list_any starts_name (take 1 rest)) _ _ (λ e. bad ts BadNumber) (λ e. good ts (Number n) rest lt)

short_number : (b : ℕ) (bs : Bytes) → 0 < run_len is_ascii_digit (b ∷ bs) → ShortWord (b ∷ bs) (number_word (b ∷ bs))
unfolding number_word
short_number b bs h = short_number_by (b ∷ bs) (number_value (take (run_len is_ascii_digit (b ∷ bs)) (b ∷ bs))) (drop (run_len is_ascii_digit (b ∷ bs)) (b ∷ bs)) (omega (arith, length-drop (run_len is_ascii_digit (b ∷ bs)) (b ∷ bs), h))

short_text_by : (ts : Bytes) (r : Scan (List ℕ)) → ((cs : List ℕ) (u : Bytes) → r ≡ scan_of cs u → length u < length ts) → ShortWord ts (text_by r)
short_text_by ts (Ok (cs, u)) h = chosen ts (ltb 1024 (length cs)) _ _ (λ e. bad ts BadText) (λ e. good ts (Text cs) u (h cs u refl))
short_text_by ts (Err d) h = bad ts BadText

short_text : (b : ℕ) (bs : Bytes) → ShortWord (b ∷ bs) (text_word bs)
unfolding text_word
short_text b bs = short_text_by (b ∷ bs) (content bs) (λ cs u e. let h = content-shorter bs cs u e in omega (arith, h))

short_one_by : (ts rest : Bytes) (o : Option SignWord) → length rest < length ts → ShortWord ts (one_sign_by rest o)
short_one_by ts rest (Some s) lt = good ts (Sign s) rest lt
short_one_by ts rest None lt = bad ts BadByte

short_one : (ts : Bytes) → ShortWord ts (one_sign ts)
unfolding one_sign
short_one [] = bad [] BadByte
short_one (a ∷ rest) = short_one_by (a ∷ rest) rest (sign_of (a ∷ [])) (omega arith)

short_two_by : (ts rest : Bytes) (one : Scan Lexeme) (o : Option SignWord) → length rest < length ts → ShortWord ts one → ShortWord ts (two_sign_by rest one o)
short_two_by ts rest one (Some s) lt h = good ts (Sign s) rest lt
short_two_by ts rest one None lt h = h

short_sign : (ts : Bytes) → ShortWord ts (sign_word ts)
unfolding sign_word
short_sign [] = bad [] BadByte
short_sign (a ∷ []) = short_one (a ∷ [])
short_sign (a ∷ b ∷ rest) = short_two_by (a ∷ b ∷ rest) rest (one_sign (a ∷ b ∷ rest)) (sign_of (a ∷ b ∷ [])) (omega arith) (short_one (a ∷ b ∷ rest))

pub word_at-shorter : (bs : Bytes) (w : Lexeme) (rest : Bytes) → word_at bs ≡ Ok (w, rest) → length rest < length bs
unfolding word_at
word_at-shorter [] w rest e = absurd (err_ok BadByte (w, rest) e)
word_at-shorter (b ∷ bs) w rest e =
    chosen (b ∷ bs) (starts_name b) _ _
    (λ t. short_name b bs (run_some goes_on b bs (starts-goes_on b t)))
    (λ f. chosen (b ∷ bs) (is_ascii_digit b) _ _ (λ t. short_number b bs (run_some is_ascii_digit b bs t)) (λ f. chosen (b ∷ bs) (b == 34) _ _ (λ t. short_text b bs) (λ f. short_sign (b ∷ bs))))
    w rest e

at_most : (n : ℕ) (b : Bool) (p q : Bytes) → length p ≤ n → length q ≤ n → length (cond b p q) ≤ n
at_most n true p q hp hq = hp
at_most n false p q hp hq = hq

pub blank-shorter : (c : Bool) (bs : Bytes) → length (blank_in c bs) ≤ length bs
blank-shorter c [] = omega arith
blank-shorter true (b ∷ bs) = let h = blank-shorter (not (b == 10)) bs in omega (arith, h)
blank-shorter false (b ∷ bs) =
    let h = blank-shorter true bs in
    let k = blank-shorter false bs in
    at_most (suc (length bs)) (b == 35) _ _ (omega (arith, h)) (at_most (suc (length bs)) (is_space b) (blank_in false bs) (b ∷ bs) (omega (arith, k)) (omega arith))

short_item : (size : ℕ) (bs : Bytes) (r : Scan Lexeme) → ShortWord bs r → (x : Item) (u : Bytes) → item_by size bs r ≡ scan_of (Some x) u → length u < length bs
short_item size bs (Ok (w, rest)) h x u e = let lt = h w rest refl in let r = rest_is _ rest (Some x) u e in omega (arith, lt, ap length r)
short_item size bs (Err k) h x u e = absurd (none_some bs u x e)

pub item_here-one : (size : ℕ) → TakesOne (item_here size)
unfolding item_here
item_here-one size = record { shorter = λ ts x u e. let k = blank-shorter false ts in let h = short_item size (after_blank ts) (word_at (after_blank ts)) (word_at-shorter (after_blank ts)) x u e in omega (arith, h, k) }

pub ruleset word_laws = (word_at-shorter, item_here-one)
