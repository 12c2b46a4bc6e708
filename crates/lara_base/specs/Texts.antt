-- Texts: byte strings of at most 1,024 bytes, and `over` for all that are longer.
use Rattle.std.specs.Prelude.{◌≡◌, ℕ, Bool, true, false, ◌&&◌, nat_le, nat_lt, List, ◌∷◌, [], length}
use Rattle.std.specs.List.{list_all}
use Rattle.std.proofs.Common.{refl, ap}
use Rattle.std.specs.declared.cmp.Ordering.{Ordering}
use Rattle.std.specs.declared.cmp.Ordering.TheVariants.{Less, Equal, Greater}
use Rattle.std.specs.Ordering.{nat_cmp, ordering_then}
use Rattle.std.specs.Cmp.{IsTotalOrder}
use Rattle.std.specs.Cmp.Lexicographic.{slice_cmp}
use Rattle.std.specs.FinMap.{IsAntisymmetric}
use Rattle.lara_base.specs.Orders.{IsRanked, ranked_total, ranked_antisymmetric}
use Rattle.lara_base.specs.declared.text.Text.{Text}
use Rattle.lara_base.specs.declared.text.Text.TheVariants.{Within, Over}

-- a number of 0 to 255
abbrev pub is_byte : ℕ → Bool
is_byte n = nat_lt n 256

-- the numbers are the bytes of a text: at most 1,024
unfoldable pub is_content : List ℕ → Bool
is_content bs = nat_le (length bs) 1024 && list_all is_byte bs

-- a text, or `over`
abbrev pub is_text : Text → Bool
is_text (Within bs) = is_content bs
is_text Over = true

-- the text has bytes, so that a copy takes memory
abbrev pub has_bytes : Text → Bool
has_bytes (Within []) = false
has_bytes (Within (b ∷ bs)) = true
has_bytes Over = false

-- by the first bytes that differ, and a text before each longer one that begins with it
abbrev pub bytes_cmp : List ℕ → List ℕ → Ordering
bytes_cmp = slice_cmp nat_cmp

-- the shorter first, and those of one length by their bytes
abbrev pub length_cmp : List ℕ → List ℕ → Ordering
length_cmp a b = ordering_then (nat_cmp (length a) (length b)) (bytes_cmp a b)

-- texts by their bytes, and `over` after them all
abbrev pub text_cmp : Text → Text → Ordering
text_cmp (Within a) (Within b) = bytes_cmp a b
text_cmp (Within a) Over = Less
text_cmp Over (Within b) = Greater
text_cmp Over Over = Equal

-- ---- the order is total, and only equal texts tie

-- 0 and the bytes, or 1
unfoldable pub text_rank : Text → List ℕ
text_rank (Within a) = 0 ∷ a
text_rank Over = 1 ∷ []

agrees : (x y : Text) → text_cmp x y ≡ slice_cmp nat_cmp (text_rank x) (text_rank y)
unfolding text_rank
agrees (Within a) (Within b) = refl
agrees (Within a) Over = refl
agrees Over (Within b) = refl
agrees Over Over = refl

apart : (x y : Text) → text_rank x ≡ text_rank y → x ≡ y
unfolding text_rank
apart (Within a) (Within b) e = ap Within (cc)
apart (Within a) Over e = cc
apart Over (Within b) e = cc
apart Over Over e = refl

pub text_ranked : IsRanked text_cmp text_rank
text_ranked = record { agrees = agrees; apart = apart }

pub text_cmp_total : IsTotalOrder text_cmp
text_cmp_total = ranked_total text_ranked

pub text_cmp_antisymmetric : IsAntisymmetric text_cmp
text_cmp_antisymmetric = ranked_antisymmetric text_ranked
