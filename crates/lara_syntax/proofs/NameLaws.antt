-- Names and keywords.
use Rattle.std.proofs.Common.{◌≡◌, ◌≤◌, ◌<◌, ℕ, [], ◌∷◌, ◌++◌, length, take, drop, Option, Some, None, refl, sym, ap, subst, ◌∙◌, arith, Bool, true, false}
use Rattle.std.specs.Prelude.{not, ◌&&◌, nat_lt}
use Rattle.std.specs.List.{list_all}
use Rattle.std.proofs.lemmas.List.{take-append-drop}
use Rattle.lara_data.specs.Names.{not_true}
use Rattle.lara_base.specs.Names.{starts_name, goes_on, is_keyword, is_name}
use Rattle.lara_data.specs.declared.refusal.Kind.TheVariants.{TooLong}
use Rattle.lara_syntax.specs.declared.item.Keyword.{Keyword}
use Rattle.lara_syntax.specs.declared.item.Lexeme.{Lexeme}
use Rattle.lara_syntax.specs.declared.item.Lexeme.TheVariants as lexeme
use Rattle.lara_syntax.specs.ScanSteps.{Bytes, Scan}
use Rattle.lara_syntax.specs.ByteClasses.{run_len}
use Rattle.lara_syntax.specs.FixedWords.{keyword_text, keyword_of}
use Rattle.lara_syntax.specs.TokenWords.{name_word, name_by}
use Rattle.lara_syntax.specs.Spellings.{StartsNot, long_name}
use Rattle.lara_syntax.proofs.Gather.{scan_of, erred}
use Rattle.lara_syntax.proofs.Numbers.{run-passes}
use Rattle.lara_syntax.proofs.Runs.{run-stops, take-run, drop-run}
use Rattle.lara_syntax.proofs.SoundTokens.{Sound}
use Rattle.lara_syntax.proofs.WordLaws.{starts-goes_on}
use Rattle.lara_syntax.proofs.WordTextLaws.{both, keyword_of-none, none-keyword, keyword_of-is, is_word, keyword-is_word, keyword_of-text}

-- the run of a name in front
name_word-run : (text rest : Bytes) → list_all goes_on text ≡ true → StartsNot goes_on rest → name_word (text ++ rest) ≡ name_by text rest (keyword_of text)
unfolding name_word
name_word-run text rest e s = let t = take-run goes_on text rest e s in let d = drop-run goes_on text rest e s in rw (t, d) refl

-- ---- what a name is made of

pub record NameParts (n : Bytes) : Type 0 where
  pub first : ℕ
  pub others : Bytes
  pub made : n ≡ first ∷ others
  pub starts : starts_name first ≡ true
  pub goes : list_all goes_on others ≡ true

three : (a b c : Bool) → ((a && b) && c) ≡ true → (a ≡ true) × (b ≡ true) × (c ≡ true)
three a b c e = let p = both (a && b) c e in let q = both a b p.0 in (q.0, q.1, p.1)

pub name_parts : (n : Bytes) → is_name n ≡ true → NameParts n
unfolding is_name
name_parts [] e = absurd cc
name_parts (b ∷ bs) e = let r = both _ (not (is_keyword (b ∷ bs))) e in let p = three (starts_name b) (list_all goes_on bs) (nat_lt (length bs) 64) r.0 in record { first = b; others = bs; made = refl; starts = p.0; goes = p.1 }

name_no_keyword : (n : Bytes) → is_name n ≡ true → is_keyword n ≡ false
unfolding is_name
name_no_keyword [] e = absurd cc
name_no_keyword (b ∷ bs) e = let r = both _ (not (is_keyword (b ∷ bs))) e in not_true (is_keyword (b ∷ bs)) r.1

word_parts : (n : Bytes) → is_word n ≡ true → NameParts n
word_parts [] e = absurd cc
word_parts (b ∷ bs) e = let p = three (starts_name b) (list_all goes_on bs) (nat_lt (length bs) 64) e in record { first = b; others = bs; made = refl; starts = p.0; goes = p.1 }

pub keyword_parts : (k : Keyword) → NameParts (keyword_text k)
keyword_parts k = word_parts (keyword_text k) (keyword-is_word k)

pub all_of_name : (n : Bytes) → NameParts n → list_all goes_on n ≡ true
all_of_name n p = let f = starts-goes_on p.first p.starts in ap (list_all goes_on) p.made ∙ rw (f, p.goes) refl

-- ---- a name, a keyword and what is too long

pub name_word-name : (n rest : Bytes) → is_name n ≡ true → StartsNot goes_on rest → name_word (n ++ rest) ≡ scan_of (lexeme.Name n) rest
name_word-name n rest e s = let k = keyword_of-none n (name_no_keyword n e) in name_word-run n rest (all_of_name n (name_parts n e)) s ∙ rw (k, e) refl

pub name_word-keyword : (k : Keyword) (rest : Bytes) → StartsNot goes_on rest → name_word (keyword_text k ++ rest) ≡ scan_of (lexeme.Key k) rest
name_word-keyword k rest s = let e = keyword_of-text k in name_word-run (keyword_text k) rest (all_of_name (keyword_text k) (keyword_parts k)) s ∙ rw e refl

word_short : (b : ℕ) (bs : Bytes) → is_word (b ∷ bs) ≡ true → length bs < 64
word_short b bs e = let p = three (starts_name b) (list_all goes_on bs) (nat_lt (length bs) 64) e in let l : nat_lt (length bs) 64 ≡ true = p.2 in grind arith

long_no_keyword : (b : ℕ) (bs : Bytes) → 64 ≤ length bs → (o : Option Keyword) → keyword_of (b ∷ bs) ≡ o → o ≡ None
long_no_keyword b bs le None e = refl
long_no_keyword b bs le (Some k) e = let t = keyword_of-is (b ∷ bs) k e in let lt = word_short b bs (ap is_word (sym t) ∙ keyword-is_word k) in absurd (omega (arith, le, lt))

long_no_name : (b : ℕ) (bs : Bytes) → 64 ≤ length bs → starts_name b ≡ true → list_all goes_on bs ≡ true → is_name (b ∷ bs) ≡ false
unfolding is_name
long_no_name b bs le s g = let l : nat_lt (length bs) 64 ≡ false = grind arith in rw (s, g, l) refl

pub name_word-long : (b : ℕ) (bs rest : Bytes) → starts_name b ≡ true → list_all goes_on bs ≡ true → 64 ≤ length bs → StartsNot goes_on rest → name_word (b ∷ bs ++ rest) ≡ erred TooLong
name_word-long b bs rest s g le st =
    let f = starts-goes_on b s in
    let k = long_no_keyword b bs le (keyword_of (b ∷ bs)) refl in
    let n = long_no_name b bs le s g in
    name_word-run (b ∷ bs) rest (rw (f, g) refl) st ∙ rw (k, n) refl

-- ---- what is found is so

long_of : (b : ℕ) (bs : Bytes) → starts_name b ≡ true → list_all goes_on bs ≡ true → is_keyword (b ∷ bs) ≡ false → is_name (b ∷ bs) ≡ false → 64 ≤ length bs
unfolding is_name
long_of b bs s g k e =
    let l : (nat_lt (length bs) 64 && true) ≡ false = sym (rw (s, g, k) refl) ∙ e in
    grind arith

name_by-sound : (b : ℕ) (bs rest : Bytes) → starts_name b ≡ true → list_all goes_on bs ≡ true → StartsNot goes_on rest → (o : Option Keyword) → keyword_of (b ∷ bs) ≡ o → (i : Bool) → is_name (b ∷ bs) ≡ i → Sound (b ∷ bs ++ rest) (name_by (b ∷ bs) rest o)
name_by-sound b bs rest s g st (Some k) e i f = (b ∷ bs, refl, sym (keyword_of-is (b ∷ bs) k e), st)
name_by-sound b bs rest s g st None e true f = rw f (b ∷ bs, refl, (refl, f), st)
name_by-sound b bs rest s g st None e false f = rw f (long_name b bs rest s g (long_of b bs s g (none-keyword (b ∷ bs) e) f) st)

pub name_word-sound : (b : ℕ) (bs : Bytes) → starts_name b ≡ true → Sound (b ∷ bs) (name_word (b ∷ bs))
name_word-sound b bs s =
    let m = run_len goes_on bs in
    let text = take (run_len goes_on bs) bs in
    let rest = drop (run_len goes_on bs) bs in
    let g = run-passes goes_on bs in
    let st = run-stops goes_on bs in
    let f = starts-goes_on b s in
    let whole : b ∷ text ++ rest ≡ b ∷ bs = ap (λ (u : Bytes). b ∷ u) (take-append-drop (run_len goes_on bs) bs) in
    let all : list_all goes_on (b ∷ text) ≡ true = rw (f, g) refl in
    let e = name_word-run (b ∷ text) rest all st in
    subst (λ (u : Bytes). Sound u (name_word u)) whole (subst (λ (r : Scan Lexeme). Sound (b ∷ text ++ rest) r) (sym e) (name_by-sound b text rest s g st (keyword_of (b ∷ text)) refl (is_name (b ∷ text)) refl))
