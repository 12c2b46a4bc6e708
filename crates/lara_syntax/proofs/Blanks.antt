-- What the scanner leaves out are blanks, and no more.
use Rattle.std.proofs.Common.{◌≡◌, ℕ, List, [], ◌∷◌, refl, sym, subst, ◌∙◌, arith, Bool, true, false, cond}
use Rattle.std.specs.Prelude.{not, ◌==◌}
use Rattle.std.proofs.lemmas.Bool.{eqb-true, eqb-false, false_from_ne_true}
use Rattle.lara_syntax.specs.ByteClasses.{is_space, blank_in, after_blank}
use Rattle.lara_syntax.specs.TokenReadings.{Line, line_end, script_end, in_line, Blank, no_more, space, comment}

-- the first byte, where there is one, is no blank
abbrev pub Solid : List ℕ → Type 0
Solid [] = Unit {0}
Solid (b ∷ bs) = (is_space b ≡ false) × ((b == 35) ≡ false)

abbrev InBlank : Bool → List ℕ → List ℕ → Type 0
InBlank false bs rest = Blank bs rest
InBlank true bs rest = (after : List ℕ) × Line bs after × Blank after rest

line_step : (b : ℕ) (bs rest : List ℕ) (t : Bool) → (b == 10) ≡ t → InBlank (not t) bs rest → InBlank true (b ∷ bs) rest
line_step b bs rest true e h =
    let q : 10 ≡ b = sym (eqb-true b 10 e) in
    subst (λ (x : ℕ). InBlank true (x ∷ bs) rest) q (10 ∷ bs, line_end bs, space 10 bs rest refl h)
line_step b bs rest false e h = (h.0, in_line b bs h.0 (eqb-false b 10 e) h.1, h.2)

blank_step : (b : ℕ) (bs : List ℕ) (c s : Bool) → (b == 35) ≡ c → is_space b ≡ s → InBlank true bs (blank_in true bs) → Blank bs (blank_in false bs) → Blank (b ∷ bs) (cond c (blank_in true bs) (cond s (blank_in false bs) (b ∷ bs)))
blank_step b bs true s e f h k = subst (λ (x : ℕ). Blank (x ∷ bs) (blank_in true bs)) (sym (eqb-true b 35 e)) (comment bs h.0 (blank_in true bs) h.1 h.2)
blank_step b bs false true e f h k = space b bs (blank_in false bs) f k
blank_step b bs false false e f h k = no_more (b ∷ bs)

blank_in-reads : (c : Bool) (bs : List ℕ) → InBlank c bs (blank_in c bs)
blank_in-reads false [] = no_more []
blank_in-reads true [] = ([], script_end, no_more [])
blank_in-reads true (b ∷ bs) = line_step b bs (blank_in (not (b == 10)) bs) (b == 10) refl (blank_in-reads (not (b == 10)) bs)
blank_in-reads false (b ∷ bs) = blank_step b bs (b == 35) (is_space b) refl refl (blank_in-reads true bs) (blank_in-reads false bs)

pub after_blank-blank : (bs : List ℕ) → Blank bs (after_blank bs)
after_blank-blank bs = blank_in-reads false bs

solid_step : (b : ℕ) (bs : List ℕ) (c s : Bool) → (b == 35) ≡ c → is_space b ≡ s → Solid (blank_in true bs) → Solid (blank_in false bs) → Solid (cond c (blank_in true bs) (cond s (blank_in false bs) (b ∷ bs)))
solid_step b bs true s e f h k = h
solid_step b bs false true e f h k = k
solid_step b bs false false e f h k = (f, e)

blank_in-solid : (c : Bool) (bs : List ℕ) → Solid (blank_in c bs)
blank_in-solid c [] = tt
blank_in-solid true (b ∷ bs) = blank_in-solid (not (b == 10)) bs
blank_in-solid false (b ∷ bs) = solid_step b bs (b == 35) (is_space b) refl refl (blank_in-solid true bs) (blank_in-solid false bs)

pub after_blank-solid : (bs : List ℕ) → Solid (after_blank bs)
after_blank-solid bs = blank_in-solid false bs

-- ---- and the other way round

solid_stays : (rest : List ℕ) → Solid rest → blank_in false rest ≡ rest
solid_stays [] s = refl
solid_stays (b ∷ bs) s = rw (s.0, s.1) refl

line_ends : (bs after : List ℕ) → Line bs after → blank_in true bs ≡ blank_in false after
line_ends _ _ (line_end rest) = refl
line_ends _ _ script_end = refl
line_ends _ _ (in_line b bs rest ne l) = let f : (b == 10) ≡ false = false_from_ne_true (b == 10) (λ t. ne (eqb-true b 10 t)) in rw f (line_ends bs rest l)

space_not : (b : ℕ) → is_space b ≡ true → (b == 35) ≡ false
space_not b e = grind arith

pub blank-after : (bs rest : List ℕ) → Blank bs rest → Solid rest → after_blank bs ≡ rest
blank-after _ _ (no_more rest) s = solid_stays rest s
blank-after _ _ (space b bs rest e h) s = let n = space_not b e in rw (n, e) (blank-after bs rest h s)
blank-after _ _ (comment bs after rest l h) s = line_ends bs after l ∙ blank-after after rest h s
