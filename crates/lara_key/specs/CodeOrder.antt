-- What is known of the codes of two tuples of the same types.
use Rattle.std.specs.Prelude.{◌≡◌, ℕ, true, List, [], ◌++◌}
use Rattle.lara_base.specs.Texts.{bytes_cmp}
use Rattle.lara_fields.specs.OrderedCodes.{code_cmp, reads_once, no_proper_prefix}
use Rattle.lara_key.specs.declared.key.KeyType.{KeyType}
use Rattle.lara_key.specs.declared.key.KeyVal.{KeyVal}
use Rattle.lara_key.specs.Keys.{tuple_has, tuple_cmp, tuple_cmp_antisymmetric}
use Rattle.lara_key.specs.KeyCodes.{tuple_code, tuple_code_ordered}

-- The codes compare by bytes as the tuples do, bytes have at most one reading, and neither code is a proper prefix of the other.
pub record KeepOrder (a b : List KeyVal) : Type 0 where
  pub order : bytes_cmp (tuple_code a) (tuple_code b) ≡ tuple_cmp a b
  pub once : (x y : List ℕ) → tuple_code a ++ x ≡ tuple_code b ++ y → (a ≡ b) × (x ≡ y)
  pub whole : (rest : List ℕ) → tuple_code a ++ rest ≡ tuple_code b → rest ≡ []

pub codes_keep_order : (ts : List KeyType) (a b : List KeyVal) → tuple_has ts a ≡ true → tuple_has ts b ≡ true → KeepOrder a b
codes_keep_order ts a b p q = record {
  order = code_cmp (tuple_code_ordered ts) a b p q;
  once = λ x y e. reads_once (tuple_code_ordered ts) tuple_cmp_antisymmetric a b x y p q e;
  whole = λ rest e. no_proper_prefix (tuple_code_ordered ts) tuple_cmp_antisymmetric a b rest p q e;
}
