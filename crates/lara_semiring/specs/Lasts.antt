-- Latest texts: by their bytes, with `over` after all texts. The sum is the greater and the product the lesser, so that
-- the empty text is zero and `over` is one.
use Rattle.std.specs.Prelude.{◌≡◌, Bool, true, false, cond, ◌&&◌, ◌||◌, [], ◌∷◌}
use Rattle.std.proofs.Common.{refl, ◌∙◌}
use Rattle.lara_base.specs.Texts.{is_text, text_cmp, text_cmp_total, text_cmp_antisymmetric}
use Rattle.lara_base.specs.declared.text.Text.{Text}
use Rattle.lara_base.specs.declared.text.Text.TheVariants.{Within, Over}
use Rattle.lara_semiring.specs.Choices.{IsLinear, linear, no_later, greater, lesser, high_assoc, high_comm, low_assoc, low_comm, low_high}

-- the empty text
abbrev pub last_zero : Text
last_zero = Within []

-- the greater
abbrev pub last_plus : Text → Text → Text
last_plus = greater text_cmp

-- the lesser
abbrev pub last_times : Text → Text → Text
last_times = lesser text_cmp

-- the text is empty
abbrev pub last_is_zero : Text → Bool
last_is_zero (Within []) = true
last_is_zero (Within (b ∷ bs)) = false
last_is_zero Over = false

-- the text is `over`
abbrev pub last_is_over : Text → Bool
last_is_over (Within bs) = false
last_is_over Over = true

last_linear : IsLinear (no_later text_cmp)
last_linear = linear text_cmp_total text_cmp_antisymmetric

pub last_plus_is : (a b : Text) → is_text a ≡ true → is_text b ≡ true → is_text (last_plus a b) ≡ true
last_plus_is a b p q = elim (no_later text_cmp a b) as (λ t. is_text (cond t b a) ≡ true) [ true ↦ q | false ↦ p ]

pub last_plus_assoc : (a b c : Text) → last_plus (last_plus a b) c ≡ last_plus a (last_plus b c)
last_plus_assoc = high_assoc (no_later text_cmp) last_linear

pub last_plus_comm : (a b : Text) → last_plus a b ≡ last_plus b a
last_plus_comm = high_comm (no_later text_cmp) last_linear

pub last_zero_plus : (a : Text) → last_plus last_zero a ≡ a
last_zero_plus (Within []) = refl
last_zero_plus (Within (b ∷ bs)) = refl
last_zero_plus Over = refl

pub last_times_is : (a b : Text) → is_text a ≡ true → is_text b ≡ true → is_text (last_times a b) ≡ true
last_times_is a b p q = elim (no_later text_cmp a b) as (λ t. is_text (cond t a b) ≡ true) [ true ↦ p | false ↦ q ]

pub last_times_assoc : (a b c : Text) → last_times (last_times a b) c ≡ last_times a (last_times b c)
last_times_assoc = low_assoc (no_later text_cmp) last_linear

pub last_times_comm : (a b : Text) → last_times a b ≡ last_times b a
last_times_comm = low_comm (no_later text_cmp) last_linear

pub last_over_times : (a : Text) → last_times Over a ≡ a
last_over_times (Within bs) = refl
last_over_times Over = refl

pub last_times_over : (a : Text) → last_times a Over ≡ a
last_times_over a = last_times_comm a Over ∙ last_over_times a

pub last_zero_times : (a : Text) → last_times last_zero a ≡ last_zero
last_zero_times (Within []) = refl
last_zero_times (Within (b ∷ bs)) = refl
last_zero_times Over = refl

pub last_times_zero : (a : Text) → last_times a last_zero ≡ last_zero
last_times_zero a = last_times_comm a last_zero ∙ last_zero_times a

pub last_times_plus : (a b c : Text) → last_times a (last_plus b c) ≡ last_plus (last_times a b) (last_times a c)
last_times_plus = low_high (no_later text_cmp) last_linear

pub last_plus_times : (a b c : Text) → last_times (last_plus a b) c ≡ last_plus (last_times a c) (last_times b c)
last_plus_times a b c =
    last_times_comm (last_plus a b) c ∙ last_times_plus c a b ∙ (λ i. last_plus (last_times_comm c a i) (last_times_comm c b i))

pub only_empty : (a : Text) → last_is_zero a ≡ true → a ≡ last_zero
only_empty (Within []) h = refl
only_empty (Within (b ∷ bs)) h = cc
only_empty Over h = cc

-- the greater is empty only where both are
pub last_plus_is_zero : (a b : Text) → last_is_zero (last_plus a b) ≡ (last_is_zero a && last_is_zero b)
last_plus_is_zero (Within []) b = rw (last_zero_plus b) refl
last_plus_is_zero (Within (x ∷ xs)) b = plus_of_some b
  where
    plus_of_some : (b : Text) → last_is_zero (last_plus (Within (x ∷ xs)) b) ≡ false
    plus_of_some (Within []) = refl
    plus_of_some (Within (y ∷ ys)) = elim (no_later text_cmp (Within (x ∷ xs)) (Within (y ∷ ys))) as (λ t. last_is_zero (cond t (Within (y ∷ ys)) (Within (x ∷ xs))) ≡ false) [ true ↦ refl | false ↦ refl ]
    plus_of_some Over = refl
last_plus_is_zero Over (Within bs) = refl
last_plus_is_zero Over Over = refl

-- the lesser is empty only where one is
pub last_times_is_zero : (a b : Text) → last_is_zero (last_times a b) ≡ (last_is_zero a || last_is_zero b)
last_times_is_zero (Within []) b = rw (last_zero_times b) refl
last_times_is_zero (Within (x ∷ xs)) (Within []) = refl
last_times_is_zero (Within (x ∷ xs)) (Within (y ∷ ys)) = elim (no_later text_cmp (Within (x ∷ xs)) (Within (y ∷ ys))) as (λ t. last_is_zero (cond t (Within (x ∷ xs)) (Within (y ∷ ys))) ≡ false) [ true ↦ refl | false ↦ refl ]
last_times_is_zero (Within (x ∷ xs)) Over = refl
last_times_is_zero Over b = rw (last_over_times b) refl
