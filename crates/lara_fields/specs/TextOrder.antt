-- Texts compare as their codes do, bytes by bytes and `over` last.
use Rattle.std.specs.Prelude.{◌≡◌, ℕ, ◌<◌, ◌≤◌, true, nat_le, List, [], ◌∷◌, ◌++◌, length, replicate}
use Rattle.std.specs.Cmp.{nat_cmp_is, ranks}
use Rattle.std.specs.Ordering.{MatchOrdering, nat_cmp, ordering_then, ordering_reverse}
use Rattle.std.specs.declared.cmp.Ordering.{Ordering}
use Rattle.std.specs.declared.cmp.Ordering.TheVariants.{Less, Equal, Greater}
use Rattle.std.proofs.Common.{refl, sym, ◌∙◌, ap, arith, zero, suc}
use Rattle.std.proofs.lemmas.Bool.{and_parts}
use Rattle.std.proofs.lemmas.Bool.Decides.{nat_tests}
use Rattle.std.proofs.lemmas.Cmp.{tied_itself, nat_list_cmp_total}
use Rattle.lara_base.specs.Texts.{is_byte, is_content, is_text, bytes_cmp, text_cmp}
use Rattle.lara_base.specs.declared.text.Text.{Text}
use Rattle.lara_base.specs.declared.text.Text.TheVariants.{Within, Over}
use Rattle.lara_fields.specs.OrderedCodes.{IsOrderedCode, then_assoc}
use Rattle.lara_fields.specs.Readers.{are_bytes}
use Rattle.lara_fields.specs.TextCodes.{escaped, over_text, text_bytes, text_code}

nat_less_suc : (b : ℕ) → nat_cmp 0 (suc b) ≡ Less
nat_less_suc b = sym (nat_cmp_is 0 (suc b) Less (omega arith))

suc_more_nat : (b : ℕ) → nat_cmp (suc b) 0 ≡ Greater
suc_more_nat b = sym (nat_cmp_is (suc b) 0 Greater (omega arith))

pub escaped_cmp : (x y a b : List ℕ) → bytes_cmp (escaped x ++ a) (escaped y ++ b) ≡ ordering_then (bytes_cmp x y) (bytes_cmp a b)
unfolding escaped
escaped_cmp [] [] a b = refl
escaped_cmp [] (zero ∷ ys) a b = refl
escaped_cmp [] (suc n ∷ ys) a b = rw (nat_less_suc n) refl
escaped_cmp (zero ∷ xs) [] a b = refl
escaped_cmp (zero ∷ xs) (zero ∷ ys) a b = escaped_cmp xs ys a b
escaped_cmp (zero ∷ xs) (suc n ∷ ys) a b = rw (nat_less_suc n) refl
escaped_cmp (suc m ∷ xs) [] a b = rw (suc_more_nat m) refl
escaped_cmp (suc m ∷ xs) (zero ∷ ys) a b = rw (suc_more_nat m) refl
escaped_cmp (suc m ∷ xs) (suc n ∷ ys) a b = rw (escaped_cmp xs ys a b) (sym (then_assoc (nat_cmp (suc m) (suc n)) (bytes_cmp xs ys) (bytes_cmp a b)))

-- a text of few bytes stands before as many bytes FF and more
pub below_full : (c : List ℕ) (n : ℕ) → length c < n → are_bytes c ≡ true → bytes_cmp c (replicate n 255) ≡ Less
below_full c zero l h = absurd (omega arith)
below_full [] (suc n) l h = refl
below_full (b ∷ c) (suc n) l h =
    let p = and_parts (is_byte b) (are_bytes c) h in
    by_first (nat_cmp b 255) refl (ranks b 255) (grind (arith, nat_tests)) (below_full c n (omega arith) p.1)
  where
    by_first : (o : Ordering) → nat_cmp b 255 ≡ o → MatchOrdering (nat_cmp b 255) (b < 255) (b ≡ 255) (255 < b) → b ≤ 255 → bytes_cmp c (replicate n 255) ≡ Less → bytes_cmp (b ∷ c) (replicate (suc n) 255) ≡ Less
    by_first Less e m f ih = rw e refl
    by_first Equal e m f ih = rw e ih
    by_first Greater e m f ih = absurd (let g : 255 < b = rw e at m in omega arith)

full_above : (c : List ℕ) (n : ℕ) → length c < n → are_bytes c ≡ true → bytes_cmp (replicate n 255) c ≡ Greater
full_above c n l h = nat_list_cmp_total.antisymm (replicate n 255) c ∙ ap ordering_reverse (below_full c n l h)

text_cmp_is : (s t : Text) → is_text s ≡ true → is_text t ≡ true → bytes_cmp (text_bytes s) (text_bytes t) ≡ text_cmp s t
unfolding text_bytes over_text is_content
text_cmp_is (Within a) (Within b) p q = refl
text_cmp_is (Within a) Over p q = let h = and_parts (nat_le (length a) 1024) (are_bytes a) p in below_full a 1025 (grind (arith, nat_tests)) h.1
text_cmp_is Over (Within b) p q = let h = and_parts (nat_le (length b) 1024) (are_bytes b) q in full_above b 1025 (grind (arith, nat_tests)) h.1
text_cmp_is Over Over p q = tied_itself nat_list_cmp_total (replicate 1025 255)

text_compares : (s t : Text) (a b : List ℕ) → is_text s ≡ true → is_text t ≡ true → bytes_cmp (text_code s ++ a) (text_code t ++ b) ≡ ordering_then (text_cmp s t) (bytes_cmp a b)
text_compares s t a b p q = rw (escaped_cmp (text_bytes s) (text_bytes t) a b, text_cmp_is s t p q) refl

pub text_ordered : IsOrderedCode is_text text_cmp text_code
text_ordered = record { compares = text_compares }
