-- The code of a text, and its reading: each byte 00 is followed by FF, and 00 01 is the end.
use Rattle.std.specs.Prelude.{◌≡◌, ℕ, zero, suc, ◌&&◌, ◌==◌, nat_le, List, [], ◌∷◌, ◌++◌, length, replicate, Option, Some, None, Result, Ok, Err, if◌then◌else◌}
use Rattle.std.specs.List.{list_all, flat_map}
use Rattle.std.proofs.Common.{refl, ap}
use Rattle.lara_base.specs.declared.text.Text.{Text}
use Rattle.lara_base.specs.declared.text.Text.TheVariants.{Within, Over}
use Rattle.lara_fields.specs.Fields.{picked}

-- the bytes with each 00 followed by FF, and then 00 01
unfoldable pub escaped : List ℕ → List ℕ
escaped [] = 0 ∷ 1 ∷ []
escaped (zero ∷ bs) = 0 ∷ 255 ∷ escaped bs
escaped (suc b ∷ bs) = suc b ∷ escaped bs

-- a byte with its escape
abbrev pub escape : ℕ → List ℕ
escape zero = 0 ∷ 255 ∷ []
escape (suc b) = suc b ∷ []

-- each byte with its escape, and the end
pub escaped_is : (bs : List ℕ) → escaped bs ≡ flat_map escape bs ++ 0 ∷ 1 ∷ []
unfolding escaped
escaped_is [] = refl
escaped_is (zero ∷ bs) = ap (λ (t : List ℕ). 0 ∷ 255 ∷ t) (escaped_is bs)
escaped_is (suc b ∷ bs) = ap (λ (t : List ℕ). suc b ∷ t) (escaped_is bs)

-- what stands for every text of more than 1,024 bytes: 1,025 bytes FF
unfoldable pub over_text : List ℕ
over_text = replicate 1025 255

-- the bytes that stand for the text
unfoldable pub text_bytes : Text → List ℕ
text_bytes (Within c) = c
text_bytes Over = over_text

-- the code of the text
abbrev pub text_code : Text → List ℕ
text_code t = escaped (text_bytes t)

-- ---- reading

-- one more byte in front of what is read
abbrev pub with_byte : ℕ → Option (List ℕ × List ℕ) → Option (List ℕ × List ℕ)
with_byte b None = None
with_byte b (Some x) = Some (b ∷ x.0, x.1)

-- a byte behind 00: 01 is the end, FF is for the byte 00, and nothing else is read
abbrev pub paired : ℕ → List ℕ → Option (List ℕ × List ℕ) → Option (List ℕ × List ℕ)
paired b rest more = if b == 1 then Some ([], rest) else (if b == 255 then with_byte 0 more else None)

-- the bytes up to the end mark, without their escapes, and what is behind it
unfoldable pub unescaped : List ℕ → Option (List ℕ × List ℕ)
unescaped [] = None
unescaped (zero ∷ []) = None
unescaped (zero ∷ b ∷ bs) = paired b bs (unescaped bs)
unescaped (suc b ∷ bs) = with_byte (suc b) (unescaped bs)

-- the same as a reading: what has no end or a wrong escape is refused at its first byte
abbrev pub or_refused : ℕ → Option (List ℕ × List ℕ) → Result (List ℕ × List ℕ) ℕ
or_refused left None = Err left
or_refused left (Some x) = Ok x

abbrev pub unescaped_at : List ℕ → Result (List ℕ × List ℕ) ℕ
unescaped_at bytes = or_refused (length bytes) (unescaped bytes)

-- the text that these bytes stand for
unfoldable pub text_of : List ℕ → Option Text
text_of c = if nat_le (length c) 1024 then Some (Within c) else (if (length c == 1025) && list_all (λ b. b == 255) c then Some Over else None)

-- a text and what is behind it
abbrev pub text_at : List ℕ → Result (Text × List ℕ) ℕ
text_at = picked text_of unescaped_at

-- what stands at the front: a byte of the text, or its end
unfoldable pub piece_at : List ℕ → Option (Option ℕ × List ℕ)
piece_at [] = None
piece_at (zero ∷ []) = None
piece_at (zero ∷ b ∷ bs) = if b == 1 then Some (None, bs) else (if b == 255 then Some (Some 0, bs) else None)
piece_at (suc b ∷ bs) = Some (Some (suc b), bs)
