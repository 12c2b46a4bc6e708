-- Texts in quotes or `over`, and paths, which may be `none` too: each is told from what stands behind it.
use Rattle.std.specs.Prelude.{◌≡◌, ℕ, Bool, true, nat_le, List, [], ◌∷◌, ◌++◌, length, codes}
use Rattle.std.proofs.Common.{refl, ap}
use Rattle.std.specs.List.{list_all}
use Rattle.std.proofs.lemmas.Bool.{and_parts, ltb-true}
use Rattle.std.proofs.lemmas.List.{append_cancel_left}
use Rattle.lara_base.specs.Texts.{is_byte, is_content, is_text}
use Rattle.lara_base.specs.declared.text.Text.{Text}
use Rattle.lara_base.specs.declared.text.Text.TheVariants as text
use Rattle.lara_semiring.specs.Paths.{is_path}
use Rattle.lara_semiring.specs.declared.path.PathText.{PathText}
use Rattle.lara_semiring.specs.declared.path.PathText.TheVariants as path
use Rattle.lara_text.specs.Quotes.{quoted_text, IsByte, quoted_text-apart}
use Rattle.lara_text.specs.TableTexts.{short_text, path_text}
use Rattle.lara_text.specs.Delimited.{Each, IsDelimited, firsts_differ}

-- a text, or `over`
abbrev pub IsText : Text → Type 0
IsText t = is_text t ≡ true

-- a text, `over` or none
abbrev pub IsPath : PathText → Type 0
IsPath p = is_path p ≡ true

all_bytes : (bs : List ℕ) → list_all is_byte bs ≡ true → Each IsByte bs
unfolding Each
all_bytes [] h = tt
all_bytes (b ∷ bs) h = let both = and_parts (is_byte b) (list_all is_byte bs) h in (ltb-true b 256 both.0, all_bytes bs both.1)

-- what a text holds are bytes
content_bytes : (bs : List ℕ) → is_content bs ≡ true → Each IsByte bs
unfolding is_content
content_bytes bs h = all_bytes bs (and_parts (nat_le (length bs) 1024) (list_all is_byte bs) h).1

content_apart : (a b r s : List ℕ) → is_content a ≡ true → is_content b ≡ true → quoted_text a ++ r ≡ quoted_text b ++ s → (a ≡ b) × (r ≡ s)
content_apart a b r s p q e = quoted_text-apart a b r s (content_bytes a p) (content_bytes b q) e

short_apart : (x y : Text) (r s : List ℕ) → IsText x → IsText y → short_text x ++ r ≡ short_text y ++ s → (x ≡ y) × (r ≡ s)
unfolding short_text quoted_text
short_apart (text.Within a) (text.Within b) r s p q e = let both = content_apart a b r s p q e in (ap text.Within both.0, both.1)
short_apart text.Over text.Over r s p q e = (refl, append_cancel_left (codes "over") r s e)
short_apart (text.Within a) text.Over r s p q e = absurd (firsts_differ 34 111 refl e)
short_apart text.Over (text.Within b) r s p q e = absurd (firsts_differ 111 34 refl e)

pub IsDelimited-short : (within : ℕ → Bool) → IsDelimited IsText within short_text
IsDelimited-short within = record { apart = λ x y r s p q m n e. short_apart x y r s p q e }

path_apart : (x y : PathText) (r s : List ℕ) → IsPath x → IsPath y → path_text x ++ r ≡ path_text y ++ s → (x ≡ y) × (r ≡ s)
unfolding path_text quoted_text
path_apart (path.Within a) (path.Within b) r s p q e = let both = content_apart a b r s p q e in (ap path.Within both.0, both.1)
path_apart path.Over path.Over r s p q e = (refl, append_cancel_left (codes "over") r s e)
path_apart path.Absent path.Absent r s p q e = (refl, append_cancel_left (codes "none") r s e)
path_apart (path.Within a) path.Over r s p q e = absurd (firsts_differ 34 111 refl e)
path_apart (path.Within a) path.Absent r s p q e = absurd (firsts_differ 34 110 refl e)
path_apart path.Over (path.Within b) r s p q e = absurd (firsts_differ 111 34 refl e)
path_apart path.Over path.Absent r s p q e = absurd (firsts_differ 111 110 refl e)
path_apart path.Absent (path.Within b) r s p q e = absurd (firsts_differ 110 34 refl e)
path_apart path.Absent path.Over r s p q e = absurd (firsts_differ 110 111 refl e)

pub IsDelimited-path : (within : ℕ → Bool) → IsDelimited IsPath within path_text
IsDelimited-path within = record { apart = λ x y r s p q m n e. path_apart x y r s p q e }

-- no text begins as the end of a table does
pub short_not_end : (t : Text) (r s : List ℕ) → short_text t ++ r ≡ 101 ∷ s → ⊥
unfolding short_text quoted_text
short_not_end (text.Within bs) r s e = firsts_differ 34 101 refl e
short_not_end text.Over r s e = firsts_differ 111 101 refl e
