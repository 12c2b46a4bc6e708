-- The codes of key columns and of tuples of them, and that they keep the order.
use Rattle.std.specs.Prelude.{◌≡◌, ℕ, ◌^◌, true, nat_lt, List, [], ◌∷◌, ◌++◌}
use Rattle.std.specs.List.{flat_map}
use Rattle.std.specs.Int.{w64, to_be_bytes}
use Rattle.std.specs.Ordering.{ordering_then}
use Rattle.std.proofs.Common.{refl, sym, arith, append_assoc}
use Rattle.std.proofs.lemmas.Bool.{and_parts}
use Rattle.std.proofs.lemmas.Bool.Decides.{nat_tests}
use Rattle.lara_base.specs.Texts.{bytes_cmp}
use Rattle.lara_fields.specs.Flags.{flag_code, flag_ordered}
use Rattle.lara_fields.specs.NumberOrder.{number_ordered}
use Rattle.lara_fields.specs.OrderedCodes.{IsOrderedCode, then_assoc}
use Rattle.lara_fields.specs.TextCodes.{text_code}
use Rattle.lara_fields.specs.TextOrder.{text_ordered}
use Rattle.lara_key.specs.declared.key.KeyType.{KeyType}
use Rattle.lara_key.specs.declared.key.KeyType.TheVariants as ty
use Rattle.lara_key.specs.declared.key.KeyVal.{KeyVal}
use Rattle.lara_key.specs.declared.key.KeyVal.TheVariants as key
use Rattle.lara_key.specs.Keys.{has_key_type, tuple_has, key_cmp, tuple_cmp}

-- the code of the column: a number in eight bytes with the highest first, a text with its escapes and its end, a flag in one byte
unfoldable pub key_code : KeyVal → List ℕ
key_code (key.Nat n) = to_be_bytes w64 n
key_code (key.Text t) = text_code t
key_code (key.Flag b) = flag_code b

-- the columns' codes one after the other
abbrev pub tuple_code : List KeyVal → List ℕ
tuple_code = flat_map key_code

in_range : (n : ℕ) → has_key_type ty.Nat (key.Nat n) ≡ true → nat_lt n (2 ^ 64) ≡ true
unfolding has_key_type
in_range n h = grind (arith, nat_tests)

key_compares : (t : KeyType) (x y : KeyVal) (a b : List ℕ) → has_key_type t x ≡ true → has_key_type t y ≡ true → bytes_cmp (key_code x ++ a) (key_code y ++ b) ≡ ordering_then (key_cmp x y) (bytes_cmp a b)
unfolding has_key_type key_code
key_compares ty.Nat (key.Nat n) (key.Nat m) a b p q = number_ordered.compares n m a b (in_range n p) (in_range m q)
key_compares ty.Nat (key.Nat n) (key.Text t) a b p q = cc
key_compares ty.Nat (key.Nat n) (key.Flag f) a b p q = cc
key_compares ty.Nat (key.Text t) y a b p q = cc
key_compares ty.Nat (key.Flag f) y a b p q = cc
key_compares ty.Text (key.Nat n) y a b p q = cc
key_compares ty.Text (key.Text s) (key.Nat n) a b p q = cc
key_compares ty.Text (key.Text s) (key.Text t) a b p q = text_ordered.compares s t a b p q
key_compares ty.Text (key.Text s) (key.Flag f) a b p q = cc
key_compares ty.Text (key.Flag f) y a b p q = cc
key_compares ty.Flag (key.Nat n) y a b p q = cc
key_compares ty.Flag (key.Text t) y a b p q = cc
key_compares ty.Flag (key.Flag f) (key.Nat n) a b p q = cc
key_compares ty.Flag (key.Flag f) (key.Text t) a b p q = cc
key_compares ty.Flag (key.Flag f) (key.Flag g) a b p q = flag_ordered.compares f g a b refl refl

-- columns of one type compare as their codes do
pub key_code_ordered : (t : KeyType) → IsOrderedCode (has_key_type t) key_cmp key_code
key_code_ordered t = record { compares = key_compares t }

tuple_compares : (ts : List KeyType) (x y : List KeyVal) (a b : List ℕ) → tuple_has ts x ≡ true → tuple_has ts y ≡ true → bytes_cmp (tuple_code x ++ a) (tuple_code y ++ b) ≡ ordering_then (tuple_cmp x y) (bytes_cmp a b)
unfolding tuple_has tuple_cmp
tuple_compares [] [] [] a b p q = refl
tuple_compares [] [] (y ∷ ys) a b p q = cc
tuple_compares [] (x ∷ xs) y a b p q = cc
tuple_compares (t ∷ ts) [] y a b p q = cc
tuple_compares (t ∷ ts) (x ∷ xs) [] a b p q = cc
tuple_compares (t ∷ ts) (x ∷ xs) (y ∷ ys) a b p q =
    let f = and_parts (has_key_type t x) (tuple_has ts xs) p in
    let g = and_parts (has_key_type t y) (tuple_has ts ys) q in
    rw (append_assoc (key_code x) (tuple_code xs) a, append_assoc (key_code y) (tuple_code ys) b, (key_code_ordered t).compares x y (tuple_code xs ++ a) (tuple_code ys ++ b) f.0 g.0, tuple_compares ts xs ys a b f.1 g.1)
    (sym (then_assoc (key_cmp x y) (tuple_cmp xs ys) (bytes_cmp a b)))

-- tuples of the same types compare as their codes do
pub tuple_code_ordered : (ts : List KeyType) → IsOrderedCode (tuple_has ts) tuple_cmp tuple_code
tuple_code_ordered ts = record { compares = tuple_compares ts }
