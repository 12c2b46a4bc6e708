-- Codes of keys worked out by hand, their order, where a reading stops, and bounds of prefixes.
use Rattle.std.specs.Prelude.{◌≡◌, true, [], ◌∷◌, ◌++◌, replicate, Some, None, Ok, Err}
use Rattle.std.proofs.Common.{refl}
use Rattle.std.specs.declared.cmp.Ordering.TheVariants.{Less}
use Rattle.lara_base.specs.Texts.{bytes_cmp}
use Rattle.lara_base.specs.declared.text.Text.TheVariants.{Within, Over}
use Rattle.lara_fields.specs.Fields.{each}
use Rattle.lara_fields.specs.Flags.{flag_at}
use Rattle.lara_fields.specs.TextCodes.{escaped, over_text, text_bytes, unescaped, text_of}
use Rattle.lara_key.specs.declared.key.KeyType.TheVariants as ty
use Rattle.lara_key.specs.declared.key.KeyVal.TheVariants.{Nat, Text, Flag}
use Rattle.lara_key.specs.KeyCodes.{key_code, tuple_code}
use Rattle.lara_key.specs.KeyReading.{column_at, tuple_in}
use Rattle.lara_key.specs.Prefixes.{prefix_bound}

code_of_ab : tuple_code (Text (Within (97 ∷ 98 ∷ [])) ∷ []) ≡ 97 ∷ 98 ∷ 0 ∷ 1 ∷ []
unfolding key_code escaped text_bytes
code_of_ab = refl

code_of_a_zero : tuple_code (Text (Within (97 ∷ 0 ∷ [])) ∷ []) ≡ 97 ∷ 0 ∷ 255 ∷ 0 ∷ 1 ∷ []
unfolding key_code escaped text_bytes
code_of_a_zero = refl

code_of_a : tuple_code (Text (Within (97 ∷ [])) ∷ []) ≡ 97 ∷ 0 ∷ 1 ∷ []
unfolding key_code escaped text_bytes
code_of_a = refl

code_of_over : tuple_code (Text Over ∷ []) ≡ replicate 1025 255 ++ 0 ∷ 1 ∷ []
unfolding key_code escaped text_bytes over_text
code_of_over = refl

code_of_three : tuple_code (Nat 258 ∷ Flag true ∷ Text (Within []) ∷ []) ≡ 0 ∷ 0 ∷ 0 ∷ 0 ∷ 0 ∷ 0 ∷ 1 ∷ 2 ∷ 1 ∷ 0 ∷ 1 ∷ []
unfolding key_code escaped text_bytes
code_of_three = refl

-- "a", "a" and 00, "ab", as the texts stand
a_first : bytes_cmp (97 ∷ 0 ∷ 1 ∷ []) (97 ∷ 0 ∷ 255 ∷ 0 ∷ 1 ∷ []) ≡ Less
a_first = refl

ab_last : bytes_cmp (97 ∷ 0 ∷ 255 ∷ 0 ∷ 1 ∷ []) (97 ∷ 98 ∷ 0 ∷ 1 ∷ []) ≡ Less
ab_last = refl

-- ---- reading

three_read : tuple_in (ty.Nat ∷ ty.Flag ∷ ty.Text ∷ []) (0 ∷ 0 ∷ 0 ∷ 0 ∷ 0 ∷ 0 ∷ 1 ∷ 2 ∷ 1 ∷ 0 ∷ 1 ∷ []) ≡ Ok (Nat 258 ∷ Flag true ∷ Text (Within []) ∷ [])
unfolding column_at each flag_at unescaped text_of
three_read = refl

-- the flag at place 8 has no reading: three bytes are left from it on
wrong_flag : tuple_in (ty.Nat ∷ ty.Flag ∷ ty.Text ∷ []) (0 ∷ 0 ∷ 0 ∷ 0 ∷ 0 ∷ 0 ∷ 1 ∷ 2 ∷ 2 ∷ 0 ∷ 1 ∷ []) ≡ Err 3
unfolding column_at each flag_at
wrong_flag = refl

-- the text at place 1 has no end
cut_text : tuple_in (ty.Flag ∷ ty.Text ∷ []) (1 ∷ 97 ∷ 0 ∷ []) ≡ Err 2
unfolding column_at each flag_at unescaped
cut_text = refl

-- one byte behind the last column
left_over : tuple_in (ty.Flag ∷ []) (1 ∷ 0 ∷ []) ≡ Err 1
unfolding column_at each flag_at
left_over = refl

-- no column, and so no byte
none_read : tuple_in [] [] ≡ Ok []
unfolding each
none_read = refl

-- ---- bounds of prefixes

bound_of_a_full : prefix_bound (97 ∷ 255 ∷ []) ≡ Some (98 ∷ [])
unfolding prefix_bound
bound_of_a_full = refl

bound_of_full : prefix_bound (255 ∷ []) ≡ None
unfolding prefix_bound
bound_of_full = refl

bound_of_none : prefix_bound [] ≡ None
unfolding prefix_bound
bound_of_none = refl

bound_of_ab : prefix_bound (97 ∷ 98 ∷ []) ≡ Some (97 ∷ 99 ∷ [])
unfolding prefix_bound
bound_of_ab = refl
