-- Each byte of a text's content takes a byte of the script.
use Rattle.std.proofs.Common.{◌≡◌, ℕ, ◌+◌, ◌≤◌, ◌<◌, ◌*◌, List, [], ◌∷◌, ◌++◌, zero, suc, length, refl, arith, Bool, true, false, Some, None, Option, cond, ap, Ok, Err, sym, ◌∙◌, ltb, length-append}
use Rattle.lara_data.specs.declared.refusal.Kind.{Kind}
use Rattle.lara_data.specs.declared.refusal.Kind.TheVariants.{BadText}
use Rattle.lara_syntax.specs.ScanSteps.{Bytes, Scan, gather, gather_within, gather_by}
use Rattle.lara_syntax.specs.TextContents.{hex_value, two_digits, hex_byte, escape, content_byte, content}
use Rattle.lara_syntax.specs.TokenWords.{text_by, text_word}
use Rattle.lara_syntax.proofs.Listed.{gathered}
use Rattle.lara_syntax.proofs.Gather.{gather-some, gather-fail, TakesOne, scan_of, rest_is, err_ok}

abbrev Short : Bytes → Scan (Option ℕ) → Type 0
Short ts r = (x : Option ℕ) (u : Bytes) → r ≡ scan_of x u → length u < length ts

short_cond : (ts : Bytes) (b : Bool) (p q : Scan (Option ℕ)) → Short ts p → Short ts q → Short ts (cond b p q)
short_cond ts true p q hp hq = hp
short_cond ts false p q hp hq = hq

short_bad : (ts : Bytes) → Short ts (Err BadText)
short_bad ts x u e = absurd (err_ok {A = Option ℕ} _ (x, u) e)

short_ok : (ts us : Bytes) (o : Option ℕ) → length us < length ts → Short ts (Ok (o, us))
short_ok ts us o lt x u e = let r = rest_is o us x u e in omega (arith, ap length r)

short_digits : (a b : Option ℕ) (ts us : Bytes) → length us < length ts → Short ts (two_digits a b us)
short_digits (Some h) (Some l) ts us lt = short_ok ts us (Some (h * 16 + l)) lt
short_digits None b ts us lt = short_bad ts
short_digits (Some h) None ts us lt = short_bad ts

short_hex : (ts us : Bytes) → length us ≤ length ts → Short ts (hex_byte us)
unfolding hex_byte
short_hex ts [] le = short_bad ts
short_hex ts (h ∷ []) le = short_bad ts
short_hex ts (h ∷ l ∷ us) le = short_digits (hex_value h) (hex_value l) ts us (omega arith)

short_escape : (ts us : Bytes) → length us ≤ length ts → Short ts (escape us)
unfolding escape
short_escape ts [] le = short_bad ts
short_escape ts (b ∷ us) le = short_cond ts _ _ _ (short_ok ts us (Some b) (omega arith)) (short_cond ts _ _ _ (short_hex ts us (omega arith)) (short_bad ts))

short_content : (ts : Bytes) → Short ts (content_byte ts)
unfolding content_byte
short_content [] = short_bad []
short_content (b ∷ us) = short_cond (b ∷ us) _ _ _ (short_ok (b ∷ us) us None (omega arith)) (short_cond (b ∷ us) _ _ _ (short_escape (b ∷ us) us (omega arith)) (short_cond (b ∷ us) _ _ _ (short_ok (b ∷ us) us (Some b) (omega arith)) (short_bad (b ∷ us))))

pub content_byte-one : TakesOne content_byte
content_byte-one = record { shorter = λ ts x u e. short_content ts (Some x) u e }

closed_by : (r : Scan (Option ℕ)) (n : ℕ) (acc : List ℕ) (ts : Bytes) (ys : List ℕ) (u : Bytes) → ((x : Option ℕ) (m : Bytes) → r ≡ scan_of x m → length m < length ts) → ((acc : List ℕ) (m : Bytes) → gather_within content_byte n acc m ≡ scan_of ys u → length u ≤ length m) → gather_by (gather_within content_byte n) acc r ≡ scan_of ys u → length u < length ts
closed_by (Ok (None, m)) n acc ts ys u short next e = let lt = short None m refl in let r = rest_is acc m ys u e in omega (arith, lt, ap length r)
closed_by (Ok (Some x, m)) n acc ts ys u short next e = let lt = short (Some x) m refl in let le = next (acc ++ x ∷ []) m e in omega (arith, lt, le)
closed_by (Err d) n acc ts ys u short next e = absurd (err_ok d (ys, u) e)

closed : (n : ℕ) (acc : List ℕ) (ts : Bytes) (ys : List ℕ) (u : Bytes) → gather_within content_byte n acc ts ≡ scan_of ys u → length u ≤ length ts
unfolding gather_within
closed zero acc ts ys u e = let r = rest_is acc ts ys u e in omega (arith, ap length r)
closed (suc n) acc ts ys u e = let lt = closed_by (content_byte ts) n acc ts ys u (short_content ts) (λ acc m. closed n acc m ys u) e in omega (arith, lt)

pub content-shorter : (ts : Bytes) (cs : List ℕ) (u : Bytes) → content ts ≡ scan_of cs u → length u ≤ length ts
unfolding gather
content-shorter ts cs u e = closed (suc (length ts)) [] ts cs u e

-- ---- a refusal before the end is no text

pub content-fails : (bs acc ts : Bytes) (k : Kind) → gather content_byte acc ts ≡ content bs → content_byte ts ≡ Err k → text_word bs ≡ Err BadText
unfolding text_word
content-fails bs acc ts k g e = ap text_by (sym g ∙ gather-fail content_byte content_byte-one acc ts k e)

long_by : (acc ts : Bytes) → 1024 < length acc → (r : Scan (List ℕ)) → gather content_byte acc ts ≡ r → text_by r ≡ Err BadText
long_by acc ts lt (Ok (cs, u)) e =
    let g = gathered content_byte content_byte-one acc ts cs u e in
    let l : ltb 1024 (length cs) ≡ true = let n : length cs ≡ length acc + length g.0 = ap length g.1 ∙ length-append acc g.0 in grind arith in
    rw l refl
long_by acc ts lt (Err k) e = refl

pub content-long : (bs acc ts : Bytes) (b : ℕ) (o : Option ℕ) (after : Bytes) → gather content_byte acc ts ≡ content bs → content_byte ts ≡ Ok (o, after) → o ≡ Some b → length acc ≡ 1024 → text_word bs ≡ Err BadText
unfolding text_word
content-long bs acc ts b o after g e s n =
    ap text_by (sym g ∙ gather-some content_byte content_byte-one acc ts b after (e ∙ ap (λ (p : Option ℕ). scan_of p after) s)) ∙ long_by (acc ++ b ∷ []) after (omega (arith, n, length-append acc (b ∷ []))) _ refl

pub ruleset text_laws = (content_byte-one, content-fails)
