-- The token in front is what its text spells, and nothing else is.
use Rattle.std.proofs.Common.{◌≡◌, ◌≢◌, ◌≤◌, ℕ, [], ◌∷◌, ◌++◌, length, Ok, Err, refl, sym, ap, subst, ◌∙◌, arith, Bool, true, false, cond, ltb, append_assoc}
use Rattle.std.specs.Prelude.{not, ◌&&◌, ◌==◌}
use Rattle.std.specs.List.{list_all}
use Rattle.std.specs.Char.{is_ascii_digit}
use Rattle.std.proofs.lemmas.Bool.{eqb-true, eqb-false, false_from_ne_true}
use Rattle.lara_base.specs.Names.{starts_name}
use Rattle.lara_data.specs.declared.refusal.Kind.{Kind}
use Rattle.lara_data.specs.declared.refusal.Kind.TheVariants.{BadText}
use Rattle.lara_syntax.specs.declared.item.Lexeme.{Lexeme}
use Rattle.lara_syntax.specs.declared.item.Lexeme.TheVariants as lexeme
use Rattle.lara_syntax.specs.ScanSteps.{Bytes, Scan}
use Rattle.lara_syntax.specs.ByteClasses.{is_space}
use Rattle.lara_syntax.specs.FixedWords.{keyword_text, sign_text}
use Rattle.lara_syntax.specs.TextContents.{content}
use Rattle.lara_syntax.specs.TokenWords.{word_at, name_word, number_word, text_word, text_by, sign_word}
use Rattle.lara_syntax.specs.Spellings.{Spells, Ends, IsText, AreDigits, Wrong, long_name, too_great, letter_behind, no_text, no_token}
use Rattle.lara_syntax.proofs.Blanks.{Solid}
use Rattle.lara_syntax.proofs.Gather.{scan_of, erred, err_ok}
use Rattle.lara_syntax.proofs.NameLaws.{NameParts, name_parts, keyword_parts, name_word-name, name_word-keyword, name_word-long, name_word-sound}
use Rattle.lara_syntax.proofs.NumberLaws.{digit_starts, number_word-number, number_word-great, number_word-letter, number_word-sound, goes_on-parts, parts-goes_on}
use Rattle.lara_syntax.proofs.SignLaws.{sign_word-longest, sign_word-none, none-sign_word, sign_word-sound}
use Rattle.lara_syntax.proofs.SoundTokens.{Sound}
use Rattle.lara_syntax.proofs.WordTextLaws.{both, Shape, one, two, sign-shape, begins_sign}
use Rattle.lara_syntax.proofs.WrittenLaws.{content-written, written-content}

-- ---- which kind of token a byte begins

at_name : (b : ℕ) (bs : Bytes) → starts_name b ≡ true → word_at (b ∷ bs) ≡ name_word (b ∷ bs)
unfolding word_at
at_name b bs e = rw e refl

at_digit : (b : ℕ) (bs : Bytes) → is_ascii_digit b ≡ true → word_at (b ∷ bs) ≡ number_word (b ∷ bs)
unfolding word_at
at_digit b bs e = let n = digit_starts b e in rw (n, e) refl

at_quote : (bs : Bytes) → word_at (34 ∷ bs) ≡ text_word bs
unfolding word_at starts_name
at_quote bs = refl

at_sign : (b : ℕ) (bs : Bytes) → starts_name b ≡ false → is_ascii_digit b ≡ false → (b == 34) ≡ false → word_at (b ∷ bs) ≡ sign_word (b ∷ bs)
unfolding word_at
at_sign b bs e f g = rw (e, f, g) refl

-- ---- texts

short_text : (c : Bytes) (rest : Bytes) → length c ≤ 1024 → text_by (scan_of c rest) ≡ scan_of (lexeme.Text c) rest
short_text c rest le = let l : ltb 1024 (length c) ≡ false = grind arith in rw l refl

word_at-text : (c text rest : Bytes) → IsText c text → word_at (text ++ rest) ≡ scan_of (lexeme.Text c) rest
unfolding text_word
word_at-text c text rest t =
    let e : text ++ rest ≡ 34 ∷ t.bytes ++ 34 ∷ rest = ap (λ (u : Bytes). u ++ rest) t.quoted ∙ ap (λ (u : Bytes). 34 ∷ u) (append_assoc t.bytes (34 ∷ []) rest) in
    ap word_at e ∙ at_quote (t.bytes ++ 34 ∷ rest) ∙ ap text_by (content-written c t.bytes rest t.written) ∙ short_text c rest t.short

text_sound_by : (bs : Bytes) (r : Scan Bytes) → content bs ≡ r → (text_by r ≡ erred BadText → Wrong BadText (34 ∷ bs)) → Sound (34 ∷ bs) (text_by r)
text_sound_by bs (Ok (c, rest)) e w = text_ok (ltb 1024 (length c)) refl w
  where
    text_ok : (b : Bool) → ltb 1024 (length c) ≡ b → (cond b (erred BadText) (scan_of (lexeme.Text c) rest) ≡ erred BadText → Wrong BadText (34 ∷ bs)) → Sound (34 ∷ bs) (cond b (Err BadText) (Ok (lexeme.Text c, rest)))
    text_ok true l w = w refl
    text_ok false l w =
        let h = written-content bs c rest e in
        (34 ∷ h.0 ++ 34 ∷ [], ap (λ (u : Bytes). 34 ∷ u) (h.2 ∙ sym (append_assoc h.0 (34 ∷ []) rest)), record { bytes = h.0; written = h.1; quoted = refl; short = grind arith }, tt)
text_sound_by bs (Err k) e w = w refl

text_none : (bs : Bytes) → text_word bs ≡ erred BadText → (c text rest : Bytes) → IsText c text → 34 ∷ bs ≢ text ++ rest
text_none bs e c text rest t q = err_ok BadText (lexeme.Text c, rest) (sym e ∙ sym (at_quote bs) ∙ ap word_at q ∙ word_at-text c text rest t)

text_word-sound : (bs : Bytes) → Sound (34 ∷ bs) (text_word bs)
unfolding text_word
text_word-sound bs = text_sound_by bs (content bs) refl (λ e. no_text bs (text_none bs e))

text_wrong_by : (bs : Bytes) (r : Scan Bytes) → Sound (34 ∷ bs) (text_by r) → ((c text rest : Bytes) → IsText c text → 34 ∷ bs ≢ text ++ rest) → text_by r ≡ erred BadText
text_wrong_by bs (Ok (c, rest)) h n = wrong (ltb 1024 (length c)) h
  where
    wrong : (b : Bool) → Sound (34 ∷ bs) (cond b (Err BadText) (Ok (lexeme.Text c, rest))) → cond b (erred BadText) (scan_of (lexeme.Text c) rest) ≡ erred BadText
    wrong true h = refl
    wrong false h = absurd (n c h.0 rest h.2 h.1)
text_wrong_by bs (Err k) h n = refl

word_at-no_text : (bs : Bytes) → ((c text rest : Bytes) → IsText c text → 34 ∷ bs ≢ text ++ rest) → word_at (34 ∷ bs) ≡ erred BadText
unfolding text_word
word_at-no_text bs n = at_quote bs ∙ text_wrong_by bs (content bs) (text_word-sound bs) n

-- ---- what spells a token is read as it

sign_starts : (b : ℕ) → begins_sign b ≡ true → (starts_name b ≡ false) × (is_ascii_digit b ≡ false) × ((b == 34) ≡ false) × (is_space b ≡ false) × ((b == 35) ≡ false)
sign_starts b e = four (starts_name b) (is_ascii_digit b) (b == 34) (is_space b) (b == 35) e
  where
    four : (p q r s t : Bool) → ((((not p && not q) && not r) && not s) && not t) ≡ true → (p ≡ false) × (q ≡ false) × (r ≡ false) × (s ≡ false) × (t ≡ false)
    four false false false false false e = (refl, refl, refl, refl, refl)
    four true q r s t e = absurd cc
    four false true r s t e = absurd cc
    four false false true s t e = absurd cc
    four false false false true t e = absurd cc
    four false false false false true e = absurd cc

sign_front : (text rest : Bytes) → Shape text → word_at (text ++ rest) ≡ sign_word (text ++ rest)
sign_front _ rest (one a h) = let p = sign_starts a h in at_sign a rest p.0 p.1 p.2
sign_front _ rest (two a b h) = let p = sign_starts a h in at_sign a (b ∷ rest) p.0 p.1 p.2

name_front : (text rest : Bytes) → NameParts text → word_at (text ++ rest) ≡ name_word (text ++ rest)
name_front text rest p = subst (λ (u : Bytes). word_at (u ++ rest) ≡ name_word (u ++ rest)) (sym p.made) (at_name p.first (p.others ++ rest) p.starts)

pub first_digit : (v : ℕ) (text : Bytes) → AreDigits v text → (b : ℕ) × (bs : Bytes) × (text ≡ b ∷ bs) × (is_ascii_digit b ≡ true)
first_digit v [] a = absurd (a.some refl)
first_digit v (b ∷ bs) a = (b, bs, refl, (both (is_ascii_digit b) (list_all is_ascii_digit bs) a.digits).0)

digit_front : (v : ℕ) (text rest : Bytes) → AreDigits v text → word_at (text ++ rest) ≡ number_word (text ++ rest)
digit_front v text rest a = let d = first_digit v text a in subst (λ (u : Bytes). word_at (u ++ rest) ≡ number_word (u ++ rest)) (sym d.2) (at_digit d.0 (d.1 ++ rest) d.3)

pub word_at-spells : (x : Lexeme) (text rest : Bytes) → Spells x text → Ends x rest → word_at (text ++ rest) ≡ scan_of x rest
word_at-spells (lexeme.Name n) text rest s e = ap (λ (u : Bytes). word_at (u ++ rest)) s.0 ∙ name_front n rest (name_parts n s.1) ∙ name_word-name n rest s.1 e
word_at-spells (lexeme.Key k) text rest s e = ap (λ (u : Bytes). word_at (u ++ rest)) s ∙ name_front (keyword_text k) rest (keyword_parts k) ∙ name_word-keyword k rest e
word_at-spells (lexeme.Number v) text rest s e = digit_front v text rest s.0 ∙ number_word-number text rest v s.0 s.1 e
word_at-spells (lexeme.Text c) text rest s e = word_at-text c text rest s
word_at-spells (lexeme.Sign g) text rest s e = ap (λ (u : Bytes). word_at (u ++ rest)) s ∙ sign_front (sign_text g) rest (sign-shape g) ∙ sign_word-longest g rest e

pub word_at-wrong : (k : Kind) (bs : Bytes) → Wrong k bs → word_at bs ≡ erred k
word_at-wrong _ _ (long_name b bs rest s g le st) = at_name b (bs ++ rest) s ∙ name_word-long b bs rest s g le st
word_at-wrong _ _ (too_great digits rest v a st le) = digit_front v digits rest a ∙ number_word-great digits rest v a le st
word_at-wrong _ _ (letter_behind digits v b rest a s) = digit_front v digits (b ∷ rest) a ∙ number_word-letter digits v b rest a s
word_at-wrong _ _ (no_text bs n) = word_at-no_text bs n
word_at-wrong _ _ (no_token b bs n) =
    let p = goes_on-parts b n.word in
    at_sign b bs p.1 p.0 (false_from_ne_true (b == 34) (λ t. n.text (eqb-true b 34 t))) ∙ none-sign_word b bs n.sign

-- ---- and what is read is spelled so

word_by : (b : ℕ) (bs : Bytes) → Solid (b ∷ bs) → (s d q : Bool) → starts_name b ≡ s → is_ascii_digit b ≡ d → (b == 34) ≡ q → Sound (b ∷ bs) (word_at (b ∷ bs))
word_by b bs so true d q e f g = subst (λ (r : Scan Lexeme). Sound (b ∷ bs) r) (sym (at_name b bs e)) (name_word-sound b bs e)
word_by b bs so false true q e f g = subst (λ (r : Scan Lexeme). Sound (b ∷ bs) r) (sym (at_digit b bs f)) (number_word-sound b bs f)
word_by b bs so false false true e f g = subst (λ (c : ℕ). Sound (c ∷ bs) (word_at (c ∷ bs))) (sym (eqb-true b 34 g)) (subst (λ (r : Scan Lexeme). Sound (34 ∷ bs) r) (sym (at_quote bs)) (text_word-sound bs))
word_by b bs so false false false e f g =
    subst (λ (r : Scan Lexeme). Sound (b ∷ bs) r) (sym (at_sign b bs e f g)) (sign_word-sound b bs (λ n. no_token b bs (record {
      space = so.0;
      comment = eqb-false b 35 so.1;
      word = parts-goes_on b f e;
      text = eqb-false b 34 g;
      sign = sign_word-none (b ∷ bs) n;
    })))

pub word_at-sound : (b : ℕ) (bs : Bytes) → Solid (b ∷ bs) → Sound (b ∷ bs) (word_at (b ∷ bs))
word_at-sound b bs so = word_by b bs so (starts_name b) (is_ascii_digit b) (b == 34) refl refl refl

-- ---- no token begins as a blank

starts_solid : (b : ℕ) (bs : Bytes) → starts_name b ≡ true → Solid (b ∷ bs)
unfolding starts_name
starts_solid b bs e = (grind arith, grind arith)

digit_solid : (b : ℕ) (bs : Bytes) → is_ascii_digit b ≡ true → Solid (b ∷ bs)
digit_solid b bs e = (grind arith, grind arith)

parts_solid : (text rest : Bytes) → NameParts text → Solid (text ++ rest)
parts_solid text rest p = subst (λ (u : Bytes). Solid (u ++ rest)) (sym p.made) (starts_solid p.first (p.others ++ rest) p.starts)

digits_solid : (v : ℕ) (text rest : Bytes) → AreDigits v text → Solid (text ++ rest)
digits_solid v text rest a = let d = first_digit v text a in subst (λ (u : Bytes). Solid (u ++ rest)) (sym d.2) (digit_solid d.0 (d.1 ++ rest) d.3)

shape_solid : (text rest : Bytes) → Shape text → Solid (text ++ rest)
shape_solid _ rest (one a h) = let p = sign_starts a h in (p.3, p.4)
shape_solid _ rest (two a b h) = let p = sign_starts a h in (p.3, p.4)

pub spells-solid : (x : Lexeme) (text rest : Bytes) → Spells x text → Solid (text ++ rest)
spells-solid (lexeme.Name n) text rest s = subst (λ (u : Bytes). Solid (u ++ rest)) (sym s.0) (parts_solid n rest (name_parts n s.1))
spells-solid (lexeme.Key k) text rest s = subst (λ (u : Bytes). Solid (u ++ rest)) (sym s) (parts_solid (keyword_text k) rest (keyword_parts k))
spells-solid (lexeme.Number v) text rest s = digits_solid v text rest s.0
spells-solid (lexeme.Text c) text rest s = subst (λ (u : Bytes). Solid (u ++ rest)) (sym s.quoted) (refl, refl)
spells-solid (lexeme.Sign g) text rest s = subst (λ (u : Bytes). Solid (u ++ rest)) (sym s) (shape_solid (sign_text g) rest (sign-shape g))

pub wrong-solid : (k : Kind) (bs : Bytes) → Wrong k bs → Solid bs
wrong-solid _ _ (long_name b bs rest s g le st) = starts_solid b (bs ++ rest) s
wrong-solid _ _ (too_great digits rest v a st le) = digits_solid v digits rest a
wrong-solid _ _ (letter_behind digits v b rest a s) = digits_solid v digits (b ∷ rest) a
wrong-solid _ _ (no_text bs n) = (refl, refl)
wrong-solid _ _ (no_token b bs n) = (n.space, false_from_ne_true (b == 35) (λ t. n.comment (eqb-true b 35 t)))
