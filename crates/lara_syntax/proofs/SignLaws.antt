-- The longest sign in front.
use Rattle.std.proofs.Common.{◌≡◌, ◌≢◌, ◌≤◌, ℕ, [], ◌∷◌, ◌++◌, length, Option, Some, None, refl, sym, ap, ◌∙◌, arith}
use Rattle.lara_data.specs.declared.refusal.Kind.TheVariants.{BadByte}
use Rattle.lara_syntax.specs.declared.item.Lexeme.{Lexeme}
use Rattle.lara_syntax.specs.declared.item.Lexeme.TheVariants as lexeme
use Rattle.lara_syntax.specs.declared.item.Sign.{Sign}
use Rattle.lara_syntax.specs.ScanSteps.{Bytes, Scan}
use Rattle.lara_syntax.specs.FixedWords.{sign_text, sign_of}
use Rattle.lara_syntax.specs.TokenWords.{one_sign, one_sign_by, sign_word, two_sign_by}
use Rattle.lara_syntax.specs.Spellings.{Ends, Wrong}
use Rattle.lara_syntax.proofs.Gather.{scan_of, erred, err_ok}
use Rattle.lara_syntax.proofs.SoundTokens.{Sound}
use Rattle.lara_syntax.proofs.WordTextLaws.{Shape, one, two, sign-shape, sign_of-is, sign_of-text}

abbrev pub signed : Sign → Bytes → Scan Lexeme
signed s rest = scan_of (lexeme.Sign s) rest

-- ---- a sign where it is the longest

two_known : (a b : ℕ) (rest : Bytes) (s : Sign) → sign_of (a ∷ b ∷ []) ≡ Some s → sign_word (a ∷ b ∷ rest) ≡ signed s rest
unfolding sign_word
two_known a b rest s e = rw e refl

one_known : (a : ℕ) (rest : Bytes) (s : Sign) → sign_of (a ∷ []) ≡ Some s → one_sign (a ∷ rest) ≡ signed s rest
unfolding one_sign
one_known a rest s e = rw e refl

not_two : (s : Sign) (a b : ℕ) (rest : Bytes) → sign_text s ≡ a ∷ [] → Ends (lexeme.Sign s) (b ∷ rest) → (o : Option Sign) → sign_of (a ∷ b ∷ []) ≡ o → o ≡ None
not_two s a b rest t en None e = refl
not_two s a b rest t en (Some l) e =
    let q = sign_of-is (a ∷ b ∷ []) l e in
    let le = en l rest (ap (λ (u : Bytes). u ++ b ∷ rest) t ∙ ap (λ (u : Bytes). u ++ rest) (sym q)) in
    absurd (omega (arith, le, ap length t, ap length q))

one_alone : (s : Sign) (a : ℕ) (rest : Bytes) → sign_text s ≡ a ∷ [] → Ends (lexeme.Sign s) rest → sign_word (a ∷ rest) ≡ signed s rest
unfolding sign_word
one_alone s a [] t en = one_known a [] s (ap sign_of (sym t) ∙ sign_of-text s)
one_alone s a (b ∷ rest) t en = rw (not_two s a b rest t en (sign_of (a ∷ b ∷ [])) refl) (one_known a (b ∷ rest) s (ap sign_of (sym t) ∙ sign_of-text s))

longest_by : (s : Sign) (text rest : Bytes) → Shape text → sign_text s ≡ text → Ends (lexeme.Sign s) rest → sign_word (text ++ rest) ≡ signed s rest
longest_by s _ rest (one a h) t en = one_alone s a rest t en
longest_by s _ rest (two a b h) t en = two_known a b rest s (ap sign_of (sym t) ∙ sign_of-text s)

pub sign_word-longest : (s : Sign) (rest : Bytes) → Ends (lexeme.Sign s) rest → sign_word (sign_text s ++ rest) ≡ signed s rest
sign_word-longest s rest en = longest_by s (sign_text s) rest (sign-shape s) refl en

-- ---- where a sign stands, one is found

abbrev Finds : Bytes → Type 0
Finds bs = (t : Sign) × (u : Bytes) × (sign_word bs ≡ signed t u)

finds_two : (a b : ℕ) (rest : Bytes) (s : Sign) → sign_of (a ∷ []) ≡ Some s → (o : Option Sign) → sign_of (a ∷ b ∷ []) ≡ o → Finds (a ∷ b ∷ rest)
unfolding sign_word
finds_two a b rest s e (Some t) f = (t, rest, two_known a b rest t f)
finds_two a b rest s e None f = (s, b ∷ rest, rw f (one_known a (b ∷ rest) s e))

finds_one : (a : ℕ) (rest : Bytes) (s : Sign) → sign_of (a ∷ []) ≡ Some s → Finds (a ∷ rest)
unfolding sign_word
finds_one a [] s e = (s, [], one_known a [] s e)
finds_one a (b ∷ rest) s e = finds_two a b rest s e (sign_of (a ∷ b ∷ [])) refl

finds_by : (s : Sign) (text more : Bytes) → Shape text → sign_text s ≡ text → Finds (text ++ more)
finds_by s _ more (one a h) t = finds_one a more s (ap sign_of (sym t) ∙ sign_of-text s)
finds_by s _ more (two a b h) t = (s, more, two_known a b more s (ap sign_of (sym t) ∙ sign_of-text s))

sign_word-finds : (s : Sign) (more : Bytes) → Finds (sign_text s ++ more)
sign_word-finds s more = finds_by s (sign_text s) more (sign-shape s) refl

pub sign_word-none : (bs : Bytes) → sign_word bs ≡ erred BadByte → (s : Sign) (more : Bytes) → bs ≢ sign_text s ++ more
sign_word-none bs e s more q = let f = sign_word-finds s more in err_ok BadByte (lexeme.Sign f.0, f.1) (sym e ∙ ap sign_word q ∙ f.2)

-- ---- where none stands, none is found

abbrev NoSign : Bytes → Type 0
NoSign bs = (s : Sign) (more : Bytes) → bs ≢ sign_text s ++ more

none_by : (text rest : Bytes) → NoSign (text ++ rest) → (o : Option Sign) → sign_of text ≡ o → o ≡ None
none_by text rest n None e = refl
none_by text rest n (Some s) e = absurd (n s rest (ap (λ (u : Bytes). u ++ rest) (sym (sign_of-is text s e))))

no_one : (a : ℕ) (rest : Bytes) → NoSign (a ∷ rest) → one_sign (a ∷ rest) ≡ erred BadByte
unfolding one_sign
no_one a rest n = rw (none_by (a ∷ []) rest n (sign_of (a ∷ [])) refl) refl

pub none-sign_word : (a : ℕ) (rest : Bytes) → NoSign (a ∷ rest) → sign_word (a ∷ rest) ≡ erred BadByte
unfolding sign_word
none-sign_word a [] n = no_one a [] n
none-sign_word a (b ∷ rest) n = rw (none_by (a ∷ b ∷ []) rest n (sign_of (a ∷ b ∷ [])) refl) (no_one a (b ∷ rest) n)

-- ---- what is found is the longest

some_none : (s : Sign) → Some s ≡ None → ⊥
some_none s e = absurd cc

short_by : (text : Bytes) → Shape text → length text ≤ 2
short_by _ (one a h) = omega arith
short_by _ (two a b h) = omega arith

longer_by : (l : Sign) (a : ℕ) (rest text more : Bytes) → Shape text → sign_text l ≡ text → ((b : ℕ) (u : Bytes) → rest ≡ b ∷ u → sign_of (a ∷ b ∷ []) ≡ None) → a ∷ rest ≡ text ++ more → length text ≤ 1
longer_by l a rest _ more (one c h) t n e = omega arith
longer_by l a rest _ more (two c d h) t n e =
    let hd : a ≡ c = cc in
    let tl : rest ≡ d ∷ more = cc in
    absurd (some_none l (sym (sign_of-text l) ∙ ap sign_of (t ∙ ap (λ (x : ℕ). x ∷ d ∷ []) (sym hd)) ∙ n d more tl))

one_ends : (s : Sign) (a : ℕ) (rest : Bytes) → sign_text s ≡ a ∷ [] → ((b : ℕ) (u : Bytes) → rest ≡ b ∷ u → sign_of (a ∷ b ∷ []) ≡ None) → Ends (lexeme.Sign s) rest
one_ends s a rest t n l more e =
    let le = longer_by l a rest (sign_text l) more (sign-shape l) refl n (ap (λ (u : Bytes). u ++ rest) (sym t) ∙ e) in
    omega (arith, le, ap length t)

two_ends : (s : Sign) (a b : ℕ) (rest : Bytes) → sign_text s ≡ a ∷ b ∷ [] → Ends (lexeme.Sign s) rest
two_ends s a b rest t l more e = let le = short_by (sign_text l) (sign-shape l) in omega (arith, le, ap length t)

one_sound : (a : ℕ) (rest : Bytes) (o : Option Sign) → sign_of (a ∷ []) ≡ o → ((b : ℕ) (u : Bytes) → rest ≡ b ∷ u → sign_of (a ∷ b ∷ []) ≡ None) → (one_sign_by rest o ≡ erred BadByte → Wrong BadByte (a ∷ rest)) → Sound (a ∷ rest) (one_sign_by rest o)
one_sound a rest (Some s) e n w = let t = sign_of-is (a ∷ []) s e in (a ∷ [], refl, sym t, one_ends s a rest t n)
one_sound a rest None e n w = w refl

two_sound : (a b : ℕ) (rest : Bytes) (o p : Option Sign) → sign_of (a ∷ b ∷ []) ≡ o → sign_of (a ∷ []) ≡ p → (two_sign_by rest (one_sign_by (b ∷ rest) p) o ≡ erred BadByte → Wrong BadByte (a ∷ b ∷ rest)) → Sound (a ∷ b ∷ rest) (two_sign_by rest (one_sign_by (b ∷ rest) p) o)
two_sound a b rest (Some s) p e f w = let t = sign_of-is (a ∷ b ∷ []) s e in (a ∷ b ∷ [], refl, sym t, two_ends s a b rest t)
two_sound a b rest None p e f w = one_sound a (b ∷ rest) p f (λ c u q. let hd : b ≡ c = cc in ap (λ (x : ℕ). sign_of (a ∷ x ∷ [])) (sym hd) ∙ e) w

pub sign_word-sound : (a : ℕ) (rest : Bytes) → (sign_word (a ∷ rest) ≡ erred BadByte → Wrong BadByte (a ∷ rest)) → Sound (a ∷ rest) (sign_word (a ∷ rest))
unfolding sign_word one_sign
sign_word-sound a [] w = one_sound a [] (sign_of (a ∷ [])) refl (λ b u e. absurd cc) w
sign_word-sound a (b ∷ rest) w = two_sound a b rest (sign_of (a ∷ b ∷ [])) (sign_of (a ∷ [])) refl refl w
