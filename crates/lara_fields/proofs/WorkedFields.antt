-- Fields worked out by hand: what is read, and how much is left where a reading stops.
use Rattle.std.specs.Prelude.{◌≡◌, false, ◌==◌, [], ◌∷◌, ◌++◌, replicate, Some, None, Ok, Err}
use Rattle.std.specs.Int.{w16, w32, w64, to_be_bytes}
use Rattle.std.proofs.Common.{refl}
use Rattle.lara_base.specs.declared.text.Text.TheVariants.{Within, Over}
use Rattle.lara_fields.specs.Fields.{number_at, bytes_at, kept, both, joined, sized, each, whole}
use Rattle.lara_fields.specs.Flags.{flag_at}
use Rattle.lara_fields.specs.TextCodes.{escaped, over_text, text_bytes, text_code, unescaped, text_of, text_at}

-- ---- numbers, the highest byte first

number_258 : number_at w16 (1 ∷ 2 ∷ 3 ∷ []) ≡ Ok (258, 3 ∷ [])
number_258 = refl

number_cut : number_at w32 (0 ∷ 0 ∷ 1 ∷ []) ≡ Err 3
number_cut = refl

bytes_of_258 : to_be_bytes w64 258 ≡ 0 ∷ 0 ∷ 0 ∷ 0 ∷ 0 ∷ 0 ∷ 1 ∷ 2 ∷ []
bytes_of_258 = refl

-- ---- put together

-- two bytes of length, and so many bytes
sized_two : sized bytes_at (0 ∷ 2 ∷ 7 ∷ 8 ∷ 9 ∷ []) ≡ Ok (7 ∷ 8 ∷ [], 9 ∷ [])
sized_two = refl

-- the field is cut short, so it stops where it begins, behind the length
sized_cut : sized bytes_at (0 ∷ 4 ∷ 7 ∷ 8 ∷ 9 ∷ []) ≡ Err 3
sized_cut = refl

-- a rule is broken at the first byte of its field, behind the one before
rule_broken : both (number_at w16) (λ n. kept (λ m. m == n) (number_at w16)) (0 ∷ 1 ∷ 0 ∷ 2 ∷ []) ≡ Err 2
rule_broken = refl

-- of fields that are one it is broken at the first byte of both
rule_broken_first : joined (both (number_at w16) (λ n. kept (λ m. m == n) (number_at w16))) (0 ∷ 1 ∷ 0 ∷ 2 ∷ []) ≡ Err 4
rule_broken_first = refl

left_over : whole (number_at w16) (0 ∷ 1 ∷ 9 ∷ 9 ∷ 9 ∷ []) ≡ Err 3
left_over = refl

each_two : each (λ n. kept (λ b. b == n) (number_at w16)) (1 ∷ 2 ∷ []) (0 ∷ 1 ∷ 0 ∷ 2 ∷ []) ≡ Ok (1 ∷ 2 ∷ [], [])
unfolding each
each_two = refl

-- ---- flags

flag_false : flag_at (0 ∷ 5 ∷ []) ≡ Ok (false, 5 ∷ [])
unfolding flag_at
flag_false = refl

flag_wrong : flag_at (2 ∷ 5 ∷ []) ≡ Err 2
unfolding flag_at
flag_wrong = refl

-- ---- texts: "ab", "a" and 00, "a", and the longer ones

code_of_ab : text_code (Within (97 ∷ 98 ∷ [])) ≡ 97 ∷ 98 ∷ 0 ∷ 1 ∷ []
unfolding escaped text_bytes
code_of_ab = refl

code_of_a_zero : text_code (Within (97 ∷ 0 ∷ [])) ≡ 97 ∷ 0 ∷ 255 ∷ 0 ∷ 1 ∷ []
unfolding escaped text_bytes
code_of_a_zero = refl

code_of_a : text_code (Within (97 ∷ [])) ≡ 97 ∷ 0 ∷ 1 ∷ []
unfolding escaped text_bytes
code_of_a = refl

code_of_over : text_code Over ≡ replicate 1025 255 ++ 0 ∷ 1 ∷ []
unfolding escaped text_bytes over_text
code_of_over = refl

text_a_zero : text_at (97 ∷ 0 ∷ 255 ∷ 0 ∷ 1 ∷ 7 ∷ []) ≡ Ok (Within (97 ∷ 0 ∷ []), 7 ∷ [])
unfolding unescaped text_of
text_a_zero = refl

-- no end, half an end, and a byte behind 00 that is neither
no_end : text_at (97 ∷ []) ≡ Err 1
unfolding unescaped
no_end = refl

half_end : text_at (97 ∷ 0 ∷ []) ≡ Err 2
unfolding unescaped
half_end = refl

wrong_escape : text_at (97 ∷ 0 ∷ 2 ∷ 0 ∷ 1 ∷ []) ≡ Err 5
unfolding unescaped
wrong_escape = refl

-- 1,025 bytes FF stand for the longer ones, and 1,025 others or 1,026 for none
over_is : text_of (replicate 1025 255) ≡ Some Over
unfolding text_of
over_is = refl

not_full : text_of (replicate 1025 254) ≡ None
unfolding text_of
not_full = refl

too_long : text_of (replicate 1026 255) ≡ None
unfolding text_of
too_long = refl
