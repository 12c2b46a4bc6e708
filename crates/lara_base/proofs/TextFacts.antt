-- Bytes that are few enough are a text.
use Rattle.std.specs.Prelude.{◌≡◌, ℕ, ◌<◌, ◌≤◌, true, nat_le, List, length, All}
use Rattle.std.proofs.Common.{sym, ap, arith}
use Rattle.std.proofs.lemmas.Bool.{and_from}
use Rattle.std.proofs.lemmas.Bool.Decides.{nat_tests}
use Rattle.std.proofs.lemmas.List.Sums.{list_all-from_AllPass}
use Rattle.lara_base.specs.Texts.{is_byte, is_content}

below : (n : ℕ) → n < 256 → is_byte n ≡ true
below n l = grind (arith, nat_tests)

short : (n : ℕ) → n ≤ 1024 → nat_le n 1024 ≡ true
short n h = grind (arith, nat_tests)

-- where now is what the bytes are read as
pub is_content_from : (now bs : List ℕ) → bs ≡ now → length now ≤ 1024 → All (λ b. b < 256) bs → is_content now ≡ true
unfolding is_content
is_content_from now bs e l h = rw (sym e) (and_from _ _ (short (length bs) (omega (arith, ap length e))) (list_all-from_AllPass is_byte bs (λ k d i. below _ (h k d i))))
