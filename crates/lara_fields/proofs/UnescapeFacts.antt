-- Reading a text's bytes one after the other, as a loop does.
use Rattle.std.proofs.Common.{◌≡◌, ℕ, zero, suc, ◌<◌, Bool, true, false, eqb, cond, List, [], ◌∷◌, ◌++◌, Option, Some, None, refl, sym, ap, ◌∙◌, append_assoc, arith, length}
use Rattle.std.proofs.lemmas.List.{append-nil}
use Rattle.lara_fields.specs.TextCodes.{with_byte, unescaped, piece_at}

abbrev pub piece : Option ℕ → List ℕ → Option (Option ℕ × List ℕ)
piece b rest = Some (b, rest)

abbrev pub found : List ℕ → List ℕ → Option (List ℕ × List ℕ)
found c rest = Some (c, rest)

abbrev behind : Option (Option ℕ × List ℕ) → ℕ
behind None = 0
behind (Some x) = length x.1

-- what was read before, and what is still read
abbrev pub with_front : List ℕ → Option (List ℕ × List ℕ) → Option (List ℕ × List ℕ)
with_front front None = None
with_front front (Some x) = Some (front ++ x.0, x.1)

regroup : (front : List ℕ) (b : ℕ) (o : Option (List ℕ × List ℕ)) → with_front (front ++ b ∷ []) o ≡ with_front front (with_byte b o)
regroup front b None = refl
regroup front b (Some x) = ap (λ (t : List ℕ). Some (t, x.1)) (append_assoc front (b ∷ []) x.0)

-- what is read, by what stands at the front
abbrev pub by_byte : Option ℕ → List ℕ → Option (List ℕ × List ℕ)
by_byte None rest = Some ([], rest)
by_byte (Some b) rest = with_byte b (unescaped rest)

abbrev pub by_piece : Option (Option ℕ × List ℕ) → Option (List ℕ × List ℕ)
by_piece None = None
by_piece (Some x) = by_byte x.0 x.1

pub unescaped_by : (bytes : List ℕ) → unescaped bytes ≡ by_piece (piece_at bytes)
unfolding unescaped piece_at
unescaped_by [] = refl
unescaped_by (zero ∷ []) = refl
unescaped_by (zero ∷ b ∷ bs) = by (eqb b 1) (eqb b 255)
  where
    by : (s t : Bool) → cond s (found [] bs) (cond t (with_byte 0 (unescaped bs)) None) ≡ by_piece (cond s (piece None bs) (cond t (piece (Some 0) bs) None))
    by true t = refl
    by false true = refl
    by false false = refl
unescaped_by (suc b ∷ bs) = refl

pub unescaped_more : (front rest after : List ℕ) (b : ℕ) (total : Option (List ℕ × List ℕ)) → piece (Some b) after ≡ piece_at rest → with_front front (unescaped rest) ≡ total → with_front (front ++ b ∷ []) (unescaped after) ≡ total
unescaped_more front rest after b total e h = regroup front b (unescaped after) ∙ ap (with_front front) (ap by_piece e ∙ sym (unescaped_by rest)) ∙ h

pub unescaped_end : (front rest after : List ℕ) (total : Option (List ℕ × List ℕ)) → piece None after ≡ piece_at rest → with_front front (unescaped rest) ≡ total → found front after ≡ total
unescaped_end front rest after total e h = ap (λ (t : List ℕ). found t after) (sym (append-nil front)) ∙ ap (with_front front) (ap by_piece e ∙ sym (unescaped_by rest)) ∙ h

pub unescaped_wrong : (front rest : List ℕ) (total : Option (List ℕ × List ℕ)) → None ≡ piece_at rest → with_front front (unescaped rest) ≡ total → None ≡ total
unescaped_wrong front rest total e h = ap (with_front front) (ap by_piece e ∙ sym (unescaped_by rest)) ∙ h

pub unescaped_shorter : (rest after : List ℕ) (b : Option ℕ) → piece b after ≡ piece_at rest → length after < length rest
unfolding piece_at
unescaped_shorter [] after b e = absurd cc
unescaped_shorter (zero ∷ []) after b e = absurd cc
unescaped_shorter (zero ∷ d ∷ bs) after b e = by (eqb d 1) (eqb d 255) e
  where
    by : (s t : Bool) → piece b after ≡ cond s (piece None bs) (cond t (piece (Some 0) bs) None) → length after < length (0 ∷ d ∷ bs)
    by true t e = let l : length after ≡ length bs = ap behind e in omega arith
    by false true e = let l : length after ≡ length bs = ap behind e in omega arith
    by false false e = absurd cc
unescaped_shorter (suc d ∷ bs) after b e = let l : length after ≡ length bs = ap behind e in omega arith

pub ruleset unescape_facts = (unescaped_more, unescaped_end, unescaped_wrong, unescaped_shorter)
