-- Texts worked out by hand: which are some, and how they compare.
use Rattle.std.specs.Prelude.{◌≡◌, true, false, [], ◌∷◌, replicate}
use Rattle.std.proofs.Common.{refl}
use Rattle.std.specs.declared.cmp.Ordering.TheVariants.{Less, Equal, Greater}
use Rattle.lara_base.specs.declared.text.Text.TheVariants.{Within, Over}
use Rattle.lara_base.specs.Texts.{is_content, is_text, length_cmp, text_cmp}

-- ---- texts

nothing : is_text (Within []) ≡ true
unfolding is_content
nothing = refl

over : is_text Over ≡ true
over = refl

most_bytes : is_content (replicate 1024 97) ≡ true
unfolding is_content
most_bytes = refl

one_more : is_content (replicate 1025 97) ≡ false
unfolding is_content
one_more = refl

greatest_byte : is_content (255 ∷ []) ≡ true
unfolding is_content
greatest_byte = refl

no_byte : is_content (97 ∷ 256 ∷ []) ≡ false
unfolding is_content
no_byte = refl

-- ---- by bytes

-- `a` and `ab`, `a` and `a` with a zero byte behind, `a` with a zero byte behind and `ab`
prefix_first : text_cmp (Within (97 ∷ [])) (Within (97 ∷ 98 ∷ [])) ≡ Less
prefix_first = refl

prefix_before_zero : text_cmp (Within (97 ∷ [])) (Within (97 ∷ 0 ∷ [])) ≡ Less
prefix_before_zero = refl

zero_before_letter : text_cmp (Within (97 ∷ 0 ∷ [])) (Within (97 ∷ 98 ∷ [])) ≡ Less
zero_before_letter = refl

-- `b` and `ab`: the first byte decides, and no length
bytes_decide : text_cmp (Within (98 ∷ [])) (Within (97 ∷ 98 ∷ [])) ≡ Greater
bytes_decide = refl

same_bytes : text_cmp (Within (97 ∷ 98 ∷ [])) (Within (97 ∷ 98 ∷ [])) ≡ Equal
same_bytes = refl

empty_first : text_cmp (Within []) (Within (0 ∷ [])) ≡ Less
empty_first = refl

over_last : text_cmp (Within (255 ∷ 255 ∷ [])) Over ≡ Less
over_last = refl

over_after : text_cmp Over (Within (255 ∷ [])) ≡ Greater
over_after = refl

over_ties : text_cmp Over Over ≡ Equal
over_ties = refl

-- ---- by lengths first

-- `b` and `ab`
shorter_first : length_cmp (98 ∷ []) (97 ∷ 98 ∷ []) ≡ Less
shorter_first = refl

longer_last : length_cmp (97 ∷ 98 ∷ []) (98 ∷ []) ≡ Greater
longer_last = refl

-- `ab` and `ac`
bytes_next : length_cmp (97 ∷ 98 ∷ []) (97 ∷ 99 ∷ []) ≡ Less
bytes_next = refl

same_texts : length_cmp (97 ∷ []) (97 ∷ []) ≡ Equal
same_texts = refl
