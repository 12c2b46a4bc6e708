-- How long the code of a text is at most.
use Rattle.std.specs.Prelude.{◌≡◌, ℕ, zero, suc, ◌+◌, ◌*◌, ◌≤◌, true, nat_le, List, [], ◌∷◌, length}
use Rattle.std.proofs.Common.{arith}
use Rattle.std.proofs.lemmas.Bool.{and_parts}
use Rattle.std.proofs.lemmas.Bool.Decides.{nat_tests}
use Rattle.std.specs.List.{list_all}
use Rattle.std.proofs.lemmas.List.{length-replicate}
use Rattle.lara_base.specs.Texts.{is_byte, is_content, is_text}
use Rattle.lara_base.specs.declared.text.Text.{Text}
use Rattle.lara_base.specs.declared.text.Text.TheVariants.{Within, Over}
use Rattle.lara_fields.specs.TextCodes.{escaped, over_text, text_bytes, text_code}

-- at most two bytes for each, and the end
escaped_len : (bs : List ℕ) → length (escaped bs) ≤ 2 * length bs + 2
unfolding escaped
escaped_len [] = omega arith
escaped_len (zero ∷ bs) = omega (arith, escaped_len bs)
escaped_len (suc b ∷ bs) = omega (arith, escaped_len bs)

text_len : (t : Text) → is_text t ≡ true → length (text_bytes t) ≤ 1025
unfolding text_bytes over_text is_content
text_len (Within c) h = let p = and_parts (nat_le (length c) 1024) (list_all is_byte c) h in grind (arith, nat_tests)
text_len Over h = omega (arith, length-replicate {A = ℕ} 1025 255)

pub text_code_len : (t : Text) → is_text t ≡ true → length (text_code t) ≤ 2052
text_code_len t h = omega (arith, escaped_len (text_bytes t), text_len t h)
