-- Texts in quotes, byte by byte, worked out by hand.
use Rattle.std.specs.Prelude.{◌≡◌, [], ◌∷◌, codes}
use Rattle.std.proofs.Common.{refl}
use Rattle.lara_text.specs.Quotes.{quoted_byte, quoted_text}

plain : quoted_text (codes "Oslo S, 7") ≡ 34 ∷ 79 ∷ 115 ∷ 108 ∷ 111 ∷ 32 ∷ 83 ∷ 44 ∷ 32 ∷ 55 ∷ 34 ∷ []
unfolding quoted_byte quoted_text
plain = refl

nothing : quoted_text [] ≡ 34 ∷ 34 ∷ []
unfolding quoted_text
nothing = refl

-- an `a` and a zero byte
zero_byte : quoted_text (97 ∷ 0 ∷ []) ≡ 34 ∷ 97 ∷ 92 ∷ 120 ∷ 48 ∷ 48 ∷ 34 ∷ []
unfolding quoted_byte quoted_text
zero_byte = refl

quote_and_backslash : quoted_text (34 ∷ 92 ∷ []) ≡ 34 ∷ 92 ∷ 34 ∷ 92 ∷ 92 ∷ 34 ∷ []
unfolding quoted_byte quoted_text
quote_and_backslash = refl

-- `\x1f` and `\x7f`, in lower case
last_controls : quoted_text (31 ∷ 127 ∷ []) ≡ 34 ∷ 92 ∷ 120 ∷ 49 ∷ 102 ∷ 92 ∷ 120 ∷ 55 ∷ 102 ∷ 34 ∷ []
unfolding quoted_byte quoted_text
last_controls = refl

-- the bytes beside these
others_stay : quoted_text (32 ∷ 126 ∷ 128 ∷ 255 ∷ []) ≡ 34 ∷ 32 ∷ 126 ∷ 128 ∷ 255 ∷ 34 ∷ []
unfolding quoted_byte quoted_text
others_stay = refl
