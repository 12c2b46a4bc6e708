-- Steps that may refuse, item by item.
use Rattle.std.specs.Prelude.{◌≡◌, ◌<◌, ◌+◌, ℕ, List, [], ◌∷◌, ◌++◌, take, length, map, Result, Ok, Err}
use Rattle.std.proofs.Common.{refl, sym, ap, ◌∙◌, get_or, add-one, drop}
use Rattle.std.proofs.Math.Seq.{take-suc}
use Rattle.std.proofs.lemmas.List.{map-append, take-append-drop}
use Rattle.lara_base.specs.Results.{◌>>=◌, bind_assoc, bind_ok, bind_same}
use Rattle.lara_types.specs.Walks.{walk}

-- what was made of the items so far, with one item more
pub map-more : {A B : Type 0} (f : A → B) (xs : List A) (i : ℕ) (x : A) → i < length xs → x ≡ get_or xs i x → map f (take (i + 1) xs) ≡ map f (take i xs) ++ f x ∷ []
map-more f xs i x h here = rw (add-one, take-suc xs i x h, ← here) (map-append f (take i xs) (x ∷ []))

module _ {S A E : Type 0} (step : S → A → Result S E) where
  pub walk-append : (s : S) (xs ys : List A) → walk step s (xs ++ ys) ≡ (walk step s xs >>= λ t. walk step t ys)
  unfolding walk
  walk-append s [] ys = refl
  walk-append s (x ∷ xs) ys =
      bind_same (step s x) (λ t. walk step t (xs ++ ys)) (λ t. walk step t xs >>= λ u. walk step u ys) (λ t. walk-append t xs ys)
      ∙ sym (bind_assoc (step s x) (λ t. walk step t xs) (λ u. walk step u ys))

  pub walk-none : (s : S) → walk step s [] ≡ Ok s
  unfolding walk
  walk-none s = refl

  pub walk-one : (s : S) (x : A) → walk step s (x ∷ []) ≡ step s x
  unfolding walk
  walk-one s x = bind_ok (step s x)

  -- a turn of a loop
  pub walk-more : (s t : S) (xs : List A) (i : ℕ) (x : A) (r : Result S E) → i < length xs → x ≡ get_or xs i x → walk step s (take i xs) ≡ Ok t → step t x ≡ r → walk step s (take (i + 1) xs) ≡ r
  walk-more s t xs i x r h here so_far e =
      rw (add-one, take-suc xs i x h, ← here, walk-append s (take i xs) (x ∷ []), so_far, walk-one t x) e

  -- a return from the middle of a loop
  pub walk-stops : (s t : S) (xs : List A) (i : ℕ) (x : A) (e : E) → i < length xs → x ≡ get_or xs i x → walk step s (take i xs) ≡ Ok t → step t x ≡ Err e → walk step s xs ≡ Err e
  walk-stops s t xs i x e h here so_far stops =
      ap (walk step s) (sym (take-append-drop (i + 1) xs))
      ∙ walk-append s (take (i + 1) xs) (drop (i + 1) xs)
      ∙ rw (walk-more s t xs i x (Err e) h here so_far stops) refl
