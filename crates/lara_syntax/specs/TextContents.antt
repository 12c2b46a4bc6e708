-- The content of a text.
use Rattle.std.specs.Prelude.{ℕ, ◌+◌, ◌-◌, ◌*◌, ◌&&◌, ◌||◌, not, nat_le, ◌==◌, if◌then◌else◌, List, [], ◌∷◌, Option, Some, None, Ok, Err}
use Rattle.lara_data.specs.declared.refusal.Kind.TheVariants.{BadText}
use Rattle.lara_syntax.specs.ScanSteps.{Scanner, gather}

-- the value of a hexadecimal digit in either case, or none where the byte is no digit
abbrev pub hex_value : ℕ → Option ℕ
hex_value b = if nat_le 48 b && nat_le b 57 then Some (b - 48) else (if nat_le 97 b && nat_le b 102 then Some (b - 97 + 10) else (if nat_le 65 b && nat_le b 70 then Some (b - 65 + 10) else None))

-- the byte of two digits with these values, the higher first
abbrev pub two_digits : Option ℕ → Option ℕ → Scanner (Option ℕ)
two_digits (Some high) (Some low) rest = Ok (Some (high * 16 + low), rest)
two_digits high low rest = Err BadText

-- the byte of two hexadecimal digits
unfoldable pub hex_byte : Scanner (Option ℕ)
hex_byte [] = Err BadText
hex_byte (h ∷ []) = Err BadText
hex_byte (h ∷ l ∷ bs) = two_digits (hex_value h) (hex_value l) bs

-- `\"`, `\\` and `\xHH`, behind the `\`
unfoldable pub escape : Scanner (Option ℕ)
escape [] = Err BadText
escape (b ∷ bs) = if b == 34 || b == 92 then Ok (Some b, bs) else (if b == 120 then hex_byte bs else Err BadText)

-- a byte of the content, or none behind the closing quote
unfoldable pub content_byte : Scanner (Option ℕ)
content_byte [] = Err BadText
content_byte (b ∷ bs) = if b == 34 then Ok (None, bs) else (if b == 92 then escape bs else (if nat_le 32 b && not (b == 127) then Ok (Some b, bs) else Err BadText))

-- the content behind the opening quote, up to the closing one
abbrev pub content : Scanner (List ℕ)
content = gather content_byte []
