-- Texts that can be told from what stands behind them.
-- A test says which bytes go on within such a text; behind it stands a byte that does not.
use Rattle.std.specs.Prelude.{◌≡◌, ℕ, ◌==◌, Bool, true, false, List, [], ◌∷◌, ◌++◌}
use Rattle.std.proofs.Common.{refl, sym, ◌∙◌, subst}
use Rattle.std.specs.List.{flat_map, list_all, join_by}
use Rattle.std.proofs.lemmas.Bool.{and_parts, both_ways, eqb-false}
use Rattle.std.proofs.lemmas.List.{append_assoc, append_cancel_left}

-- the text begins with a byte that does not go on
abbrev pub Ends : (ℕ → Bool) → List ℕ → Type 0
Ends within [] = ⊥
Ends within (c ∷ cs) = within c ≡ false

-- The texts that f makes are told from what stands behind them: where a byte that does not go on stands behind two of
-- them, equal bytes are of one item, with the same bytes behind.
pub record IsDelimited {X : Type 0} (P : X → Type 0) (within : ℕ → Bool) (f : X → List ℕ) : Type 0 where
  pub apart : (x y : X) (r s : List ℕ) → P x → P y → Ends within r → Ends within s → f x ++ r ≡ f y ++ s → (x ≡ y) × (r ≡ s)

-- no text that f makes begins with a byte that does not go on
pub record BeginsWithin {X : Type 0} (P : X → Type 0) (within : ℕ → Bool) (f : X → List ℕ) : Type 0 where
  pub begun : (x : X) (r s : List ℕ) → P x → Ends within s → f x ++ r ≡ s → ⊥

-- each item has the property
unfoldable pub Each : {X : Type 0} → (X → Type 0) → List X → Type 0
Each P [] = Unit {0}
Each P (x ∷ xs) = P x × Each P xs

-- each item has the property of the place where it stands
unfoldable pub EachAs : {T X : Type 0} → (T → X → Type 0) → List T → List X → Type 0
EachAs P [] [] = Unit {0}
EachAs P [] (x ∷ xs) = ⊥
EachAs P (t ∷ ts) [] = ⊥
EachAs P (t ∷ ts) (x ∷ xs) = P t x × EachAs P ts xs

-- ---- lists by their parts

pub first_is : {x y : ℕ} {xs ys : List ℕ} → x ∷ xs ≡ y ∷ ys → x ≡ y
first_is e = cc

pub rest_is : {x y : ℕ} {xs ys : List ℕ} → x ∷ xs ≡ y ∷ ys → xs ≡ ys
rest_is e = cc

-- lists that begin with different bytes are not one
pub firsts_differ : (x y : ℕ) {xs ys : List ℕ} → (x == y) ≡ false → x ∷ xs ≡ y ∷ ys → ⊥
firsts_differ x y h e = eqb-false x y h (first_is e)

-- ---- runs: texts all of whose bytes go on

-- a text begins with a byte that goes on, or with one that does not
pub within_not : (within : ℕ → Bool) (c : ℕ) (cs r : List ℕ) → within c ≡ true → Ends within r → r ≡ c ∷ cs → ⊥
within_not within c cs r h n e = both_ways (within c) (subst (Ends within) e n) h

-- two runs with a byte behind them that does not go on
pub run_apart : (within : ℕ → Bool) (a b r s : List ℕ) → list_all within a ≡ true → list_all within b ≡ true → Ends within r → Ends within s → a ++ r ≡ b ++ s → (a ≡ b) × (r ≡ s)
run_apart within [] [] r s h k m n e = (refl, e)
run_apart within [] (y ∷ b) r s h k m n e = absurd (within_not within y (b ++ s) r (and_parts (within y) (list_all within b) k).0 m e)
run_apart within (x ∷ a) [] r s h k m n e = absurd (within_not within x (a ++ r) s (and_parts (within x) (list_all within a) h).0 n (sym e))
run_apart within (x ∷ a) (y ∷ b) r s h k m n e =
    let behind = run_apart within a b r s (and_parts (within x) (list_all within a) h).1 (and_parts (within y) (list_all within b) k).1 m n (rest_is e) in
    ((λ i. first_is e i ∷ behind.0 i), behind.1)

-- a run that is not empty begins with none of the bytes that do not go on
pub run_begun : (within : ℕ → Bool) (a r s : List ℕ) → list_all within a ≡ true → (a ≡ [] → ⊥) → Ends within s → a ++ r ≡ s → ⊥
run_begun within [] r s h some n e = some refl
run_begun within (x ∷ a) r s h some n e = within_not within x (a ++ r) s (and_parts (within x) (list_all within a) h).0 n (sym e)

-- the texts are runs, none is empty, and each is of one item
pub record IsRun {X : Type 0} (P : X → Type 0) (within : ℕ → Bool) (f : X → List ℕ) : Type 0 where
  pub all : (x : X) → P x → list_all within (f x) ≡ true
  pub some : (x : X) → P x → f x ≡ [] → ⊥
  pub told : (x y : X) → P x → P y → f x ≡ f y → x ≡ y

pub IsDelimited-run : {X : Type 0} (P : X → Type 0) (within : ℕ → Bool) (f : X → List ℕ) → IsRun P within f → IsDelimited P within f
IsDelimited-run {X} P within f run = record { apart = apart }
  where
    apart : (x y : X) (r s : List ℕ) → P x → P y → Ends within r → Ends within s → f x ++ r ≡ f y ++ s → (x ≡ y) × (r ≡ s)
    apart x y r s p q m n e =
        let both = run_apart within (f x) (f y) r s (run.all x p) (run.all y q) m n e in
        (run.told x y p q both.0, both.1)

pub BeginsWithin-run : {X : Type 0} (P : X → Type 0) (within : ℕ → Bool) (f : X → List ℕ) → IsRun P within f → BeginsWithin P within f
BeginsWithin-run P within f run = record { begun = λ x r s p n e. run_begun within (f x) r s (run.all x p) (run.some x p) n e }

-- ---- lists of such texts, with a text between each two that begins with a byte that does not go on

grouped : (a b c d : List ℕ) → ((a ++ b) ++ c) ++ d ≡ a ++ (b ++ (c ++ d))
grouped a b c d = append_assoc (a ++ b) c d ∙ append_assoc a b (c ++ d)

module _ {X : Type 0} (P : X → Type 0) (within : ℕ → Bool) (f : X → List ℕ) (is : IsDelimited P within f) (starts : BeginsWithin P within f) (c : ℕ) (cs : List ℕ) (between : within c ≡ false) (last : ℕ) (ending : within last ≡ false) (other : c ≡ last → ⊥) where
  behind_ends : (xs : List X) (r : List ℕ) → Ends within (flat_map (λ x. (c ∷ cs) ++ f x) xs ++ last ∷ r)
  behind_ends [] r = ending
  behind_ends (x ∷ xs) r = between

  behind_apart : (xs ys : List X) (r s : List ℕ) → Each P xs → Each P ys → flat_map (λ x. (c ∷ cs) ++ f x) xs ++ last ∷ r ≡ flat_map (λ x. (c ∷ cs) ++ f x) ys ++ last ∷ s → (xs ≡ ys) × (r ≡ s)
  unfolding Each
  behind_apart [] [] r s p q e = (refl, rest_is e)
  behind_apart [] (y ∷ ys) r s p q e = absurd (other (sym (first_is e)))
  behind_apart (x ∷ xs) [] r s p q e = absurd (other (first_is e))
  behind_apart (x ∷ xs) (y ∷ ys) r s p q e =
      let g : X → List ℕ = λ z. (c ∷ cs) ++ f z in
      let lefts = flat_map g xs ++ last ∷ r in
      let rights = flat_map g ys ++ last ∷ s in
      let inner : f x ++ lefts ≡ f y ++ rights = append_cancel_left (c ∷ cs) (f x ++ lefts) (f y ++ rights) (sym (grouped (c ∷ cs) (f x) (flat_map g xs) (last ∷ r)) ∙ e ∙ grouped (c ∷ cs) (f y) (flat_map g ys) (last ∷ s)) in
      let one = is.apart x y lefts rights p.0 q.0 (behind_ends xs r) (behind_ends ys s) inner in
      let others = behind_apart xs ys r s p.1 q.1 one.1 in
      ((λ i. one.0 i ∷ others.0 i), others.1)

  -- Behind the list stands a byte that no item goes on with and that does not begin the text between: the list is told,
  -- however long it is.
  pub joined_apart : (xs ys : List X) (r s : List ℕ) → Each P xs → Each P ys → join_by f (c ∷ cs) xs ++ last ∷ r ≡ join_by f (c ∷ cs) ys ++ last ∷ s → (xs ≡ ys) × (r ≡ s)
  unfolding Each
  joined_apart [] [] r s p q e = (refl, rest_is e)
  joined_apart [] (y ∷ ys) r s p q e =
      let others = flat_map (λ x. (c ∷ cs) ++ f x) ys in
      absurd (starts.begun y (others ++ last ∷ s) (last ∷ r) q.0 ending (sym (append_assoc (f y) others (last ∷ s)) ∙ sym e))
  joined_apart (x ∷ xs) [] r s p q e =
      let others = flat_map (λ x. (c ∷ cs) ++ f x) xs in
      absurd (starts.begun x (others ++ last ∷ r) (last ∷ s) p.0 ending (sym (append_assoc (f x) others (last ∷ r)) ∙ e))
  joined_apart (x ∷ xs) (y ∷ ys) r s p q e =
      let lefts = flat_map (λ x. (c ∷ cs) ++ f x) xs in
      let rights = flat_map (λ x. (c ∷ cs) ++ f x) ys in
      let one = is.apart x y (lefts ++ last ∷ r) (rights ++ last ∷ s) p.0 q.0 (behind_ends xs r) (behind_ends ys s) (sym (append_assoc (f x) lefts (last ∷ r)) ∙ e ∙ append_assoc (f y) rights (last ∷ s)) in
      let others = behind_apart xs ys r s p.1 q.1 one.1 in
      ((λ i. one.0 i ∷ others.0 i), others.1)

-- The same where the type at each place says which items can stand there, as in a key or a row: two items of different
-- types may have one text.
module _ {T X : Type 0} (P : T → X → Type 0) (within : ℕ → Bool) (f : X → List ℕ) (is : (t : T) → IsDelimited (P t) within f) (c : ℕ) (cs : List ℕ) (between : within c ≡ false) where
  behind_ends_as : (xs : List X) (r : List ℕ) → Ends within r → Ends within (flat_map (λ x. (c ∷ cs) ++ f x) xs ++ r)
  behind_ends_as [] r m = m
  behind_ends_as (x ∷ xs) r m = between

  behind_apart_as : (ts : List T) (xs ys : List X) (r s : List ℕ) → EachAs P ts xs → EachAs P ts ys → Ends within r → Ends within s → flat_map (λ x. (c ∷ cs) ++ f x) xs ++ r ≡ flat_map (λ x. (c ∷ cs) ++ f x) ys ++ s → (xs ≡ ys) × (r ≡ s)
  unfolding EachAs
  behind_apart_as [] [] [] r s p q m n e = (refl, e)
  behind_apart_as [] [] (y ∷ ys) r s p q m n e = absurd q
  behind_apart_as [] (x ∷ xs) ys r s p q m n e = absurd p
  behind_apart_as (t ∷ ts) [] ys r s p q m n e = absurd p
  behind_apart_as (t ∷ ts) (x ∷ xs) [] r s p q m n e = absurd q
  behind_apart_as (t ∷ ts) (x ∷ xs) (y ∷ ys) r s p q m n e =
      let g : X → List ℕ = λ z. (c ∷ cs) ++ f z in
      let lefts = flat_map g xs ++ r in
      let rights = flat_map g ys ++ s in
      let inner : f x ++ lefts ≡ f y ++ rights = append_cancel_left (c ∷ cs) (f x ++ lefts) (f y ++ rights) (sym (grouped (c ∷ cs) (f x) (flat_map g xs) r) ∙ e ∙ grouped (c ∷ cs) (f y) (flat_map g ys) s) in
      let one = (is t).apart x y lefts rights p.0 q.0 (behind_ends_as xs r m) (behind_ends_as ys s n) inner in
      let others = behind_apart_as ts xs ys r s p.1 q.1 m n one.1 in
      ((λ i. one.0 i ∷ others.0 i), others.1)

  pub joined_apart_as : (ts : List T) (xs ys : List X) (r s : List ℕ) → EachAs P ts xs → EachAs P ts ys → Ends within r → Ends within s → join_by f (c ∷ cs) xs ++ r ≡ join_by f (c ∷ cs) ys ++ s → (xs ≡ ys) × (r ≡ s)
  unfolding EachAs
  joined_apart_as [] [] [] r s p q m n e = (refl, e)
  joined_apart_as [] [] (y ∷ ys) r s p q m n e = absurd q
  joined_apart_as [] (x ∷ xs) ys r s p q m n e = absurd p
  joined_apart_as (t ∷ ts) [] ys r s p q m n e = absurd p
  joined_apart_as (t ∷ ts) (x ∷ xs) [] r s p q m n e = absurd q
  joined_apart_as (t ∷ ts) (x ∷ xs) (y ∷ ys) r s p q m n e =
      let lefts = flat_map (λ x. (c ∷ cs) ++ f x) xs in
      let rights = flat_map (λ x. (c ∷ cs) ++ f x) ys in
      let one = (is t).apart x y (lefts ++ r) (rights ++ s) p.0 q.0 (behind_ends_as xs r m) (behind_ends_as ys s n) (sym (append_assoc (f x) lefts r) ∙ e ∙ append_assoc (f y) rights s) in
      let others = behind_apart_as ts xs ys r s p.1 q.1 m n one.1 in
      ((λ i. one.0 i ∷ others.0 i), others.1)
