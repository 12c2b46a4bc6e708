-- The words of a call, which are its arguments behind the first.
use Rattle.std.proofs.Common.{◌≡◌, ℕ, suc, zero, ◌<◌, ◌≤◌, ◌+◌, List, [], ◌∷◌, ◌++◌, length, take, drop, refl, ap, sym, ◌∙◌, arith}
use Rattle.std.specs.Prelude.{Some, None, slice_get}
use Rattle.std.proofs.lemmas.List.{take_more, take_all}
use Rattle.std.proofs.lemmas.Option.{slice_get_within, get_or_from_slice_get}

pub no_words : (told : List (List ℕ)) → [] ≡ drop 1 (take 1 told)
no_words [] = refl
no_words (name ∷ words) = refl

-- one more argument is one more word
pub more_words : (told : List (List ℕ)) (n : ℕ) (word : List ℕ) → 1 ≤ n → Some word ≡ slice_get told n → drop 1 (take n told) ++ word ∷ [] ≡ drop 1 (take (n + 1) told)
more_words [] n word some there = cc
more_words (name ∷ words) zero word some there = absurd (omega arith)
more_words (name ∷ words) (suc n) word some there =
    let next : suc n + 1 ≡ suc (n + 1) = omega arith in
    let within : n < length words = slice_get_within words n word (sym there) in
    sym (ap (λ k. drop 1 (take k (name ∷ words))) next ∙ take_more words n word within ∙ ap (λ x. take n words ++ x ∷ []) (get_or_from_slice_get words n word word (sym there)))

past_end : {X : Type 0} (xs : List X) (n : ℕ) → None ≡ slice_get xs n → take n xs ≡ xs
past_end [] n none = take_all n [] (omega arith)
past_end (x ∷ xs) zero none = cc
past_end (x ∷ xs) (suc n) none = ap (λ ys. x ∷ ys) (past_end xs n none)

-- where there is no argument, all words are there
pub whole_words : (told : List (List ℕ)) (n : ℕ) → None ≡ slice_get told n → drop 1 (take n told) ≡ drop 1 told
whole_words told n none = ap (λ xs. drop 1 xs) (past_end told n none)
