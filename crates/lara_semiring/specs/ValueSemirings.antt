-- The semiring of a value type: its elements, how each is written as a value, and how any value is read as one of them.
-- Sums and products read each value as an element, and a value of another type as the identity of the sum. So their laws
-- ask for no type, but for the identities.
use Rattle.std.specs.Prelude.{◌≡◌, Bool, true, false, ◌&&◌, ◌||◌}
use Rattle.std.proofs.Common.{sym, ap, ◌∙◌}
use Rattle.lara_semiring.specs.Semirings.{SemiringLaws}
use Rattle.lara_semiring.specs.declared.value.Value.{Value}
use Rattle.lara_semiring.specs.declared.value.Value.TheVariants.{Last, Path}
use Rattle.lara_semiring.specs.Paths.{path_has_bytes}
use Rattle.lara_base.specs.Texts.{has_bytes}

-- the value holds the bytes of a text, so that a copy takes memory
abbrev pub holds_text : Value → Bool
holds_text (Last x) = has_bytes x
holds_text (Path x) = path_has_bytes x
holds_text other = false

-- all that is known of a value type
pub record ValueSemiring : Type 1 where
  -- the elements, and which of them are in the range
  pub Element : Type 0
  pub is_element : Element → Type 0
  -- the semiring
  pub nothing : Element
  pub unit : Element
  pub sum : Element → Element → Element
  pub product : Element → Element → Element
  pub laws : SemiringLaws is_element nothing unit sum product
  -- which values are of the type, the value of an element, and the element that any value is read as
  pub has : Value → Bool
  pub write : Element → Value
  pub read : Value → Element
  pub write_has : (x : Element) → is_element x → has (write x) ≡ true
  pub read_is : (v : Value) → is_element (read v)
  pub read_write : (x : Element) → is_element x → read (write x) ≡ x
  pub write_read : (v : Value) → has v ≡ true → write (read v) ≡ v
  -- the tests
  pub is_nothing : Element → Bool
  pub nothing_is_nothing : is_nothing nothing ≡ true
  pub only_nothing : (x : Element) → is_element x → is_nothing x ≡ true → x ≡ nothing
  -- it stands for all that are beyond the range
  pub is_past : Element → Bool
  -- the values may hold texts, so that a sum, a product and a copy may take memory
  pub has_texts : Bool
  pub no_text : has_texts ≡ false → (v : Value) → has v ≡ true → holds_text v ≡ false
  -- the product of two elements does not depend on their order
  pub commutes : Bool
  pub product_comm : commutes ≡ true → (x y : Element) → is_element x → is_element y → product x y ≡ product y x
  -- a sum of two elements is nothing only where both are
  pub is_zero_sum_free : Bool
  pub sum_is_nothing : is_zero_sum_free ≡ true → (x y : Element) → is_element x → is_element y → is_nothing (sum x y) ≡ (is_nothing x && is_nothing y)
  -- a product of two elements is nothing only where one of them is
  pub has_no_zero_divisors : Bool
  pub product_is_nothing : has_no_zero_divisors ≡ true → (x y : Element) → is_element x → is_element y → is_nothing (product x y) ≡ (is_nothing x || is_nothing y)

-- the identity of the sum
abbrev pub zero_of : ValueSemiring → Value
zero_of s = s.write s.nothing

-- the identity of the product
abbrev pub one_of : ValueSemiring → Value
one_of s = s.write s.unit

-- the sum of two values, read as elements
abbrev pub plus_of : ValueSemiring → Value → Value → Value
plus_of s a b = s.write (s.sum (s.read a) (s.read b))

-- the product of two values, read as elements
abbrev pub times_of : ValueSemiring → Value → Value → Value
times_of s a b = s.write (s.product (s.read a) (s.read b))

-- the value is read as the identity of the sum
abbrev pub is_zero_of : ValueSemiring → Value → Bool
is_zero_of s a = s.is_nothing (s.read a)

-- the value is read as what stands for all beyond the range
abbrev pub is_over_of : ValueSemiring → Value → Bool
is_over_of s a = s.is_past (s.read a)

module _ (s : ValueSemiring) where
  sum_is : (a b : Value) → s.is_element (s.sum (s.read a) (s.read b))
  sum_is a b = s.laws.sum_is (s.read a) (s.read b) (s.read_is a) (s.read_is b)

  product_is : (a b : Value) → s.is_element (s.product (s.read a) (s.read b))
  product_is a b = s.laws.product_is (s.read a) (s.read b) (s.read_is a) (s.read_is b)

  read_plus : (a b : Value) → s.read (plus_of s a b) ≡ s.sum (s.read a) (s.read b)
  read_plus a b = s.read_write (s.sum (s.read a) (s.read b)) (sum_is a b)

  read_times : (a b : Value) → s.read (times_of s a b) ≡ s.product (s.read a) (s.read b)
  read_times a b = s.read_write (s.product (s.read a) (s.read b)) (product_is a b)

  read_zero : s.read (zero_of s) ≡ s.nothing
  read_zero = s.read_write s.nothing s.laws.nothing_is

  read_one : s.read (one_of s) ≡ s.unit
  read_one = s.read_write s.unit s.laws.unit_is

  -- ---- sums

  pub zero_of_is : s.has (zero_of s) ≡ true
  zero_of_is = s.write_has s.nothing s.laws.nothing_is

  pub plus_of_is : (a b : Value) → s.has (plus_of s a b) ≡ true
  plus_of_is a b = s.write_has (s.sum (s.read a) (s.read b)) (sum_is a b)

  pub plus_of_assoc : (a b c : Value) → plus_of s (plus_of s a b) c ≡ plus_of s a (plus_of s b c)
  plus_of_assoc a b c =
      ap (λ x. s.write (s.sum x (s.read c))) (read_plus a b)
      ∙ ap s.write (s.laws.sum_assoc (s.read a) (s.read b) (s.read c) (s.read_is a) (s.read_is b) (s.read_is c))
      ∙ ap (λ x. s.write (s.sum (s.read a) x)) (sym (read_plus b c))

  pub plus_of_comm : (a b : Value) → plus_of s a b ≡ plus_of s b a
  plus_of_comm a b = ap s.write (s.laws.sum_comm (s.read a) (s.read b) (s.read_is a) (s.read_is b))

  -- zero adds nothing to what a value is read as
  zero_plus_of_read : (a : Value) → plus_of s (zero_of s) a ≡ s.write (s.read a)
  zero_plus_of_read a = ap (λ x. s.write (s.sum x (s.read a))) read_zero ∙ ap s.write (s.laws.nothing_sum (s.read a) (s.read_is a))

  pub zero_plus_of : (a : Value) → s.has a ≡ true → plus_of s (zero_of s) a ≡ a
  zero_plus_of a h = zero_plus_of_read a ∙ s.write_read a h

  pub zero_plus_of_plus : (a b : Value) → plus_of s (zero_of s) (plus_of s a b) ≡ plus_of s a b
  zero_plus_of_plus a b = zero_plus_of (plus_of s a b) (plus_of_is a b)

  -- ---- products

  pub one_of_is : s.has (one_of s) ≡ true
  one_of_is = s.write_has s.unit s.laws.unit_is

  pub times_of_is : (a b : Value) → s.has (times_of s a b) ≡ true
  times_of_is a b = s.write_has (s.product (s.read a) (s.read b)) (product_is a b)

  pub times_of_assoc : (a b c : Value) → times_of s (times_of s a b) c ≡ times_of s a (times_of s b c)
  times_of_assoc a b c =
      ap (λ x. s.write (s.product x (s.read c))) (read_times a b)
      ∙ ap s.write (s.laws.product_assoc (s.read a) (s.read b) (s.read c) (s.read_is a) (s.read_is b) (s.read_is c))
      ∙ ap (λ x. s.write (s.product (s.read a) x)) (sym (read_times b c))

  pub times_of_comm : (a b : Value) → s.commutes ≡ true → times_of s a b ≡ times_of s b a
  times_of_comm a b h = ap s.write (s.product_comm h (s.read a) (s.read b) (s.read_is a) (s.read_is b))

  pub times_of_plus : (a b c : Value) → times_of s a (plus_of s b c) ≡ plus_of s (times_of s a b) (times_of s a c)
  times_of_plus a b c =
      ap (λ x. s.write (s.product (s.read a) x)) (read_plus b c)
      ∙ ap s.write (s.laws.product_sum (s.read a) (s.read b) (s.read c) (s.read_is a) (s.read_is b) (s.read_is c))
      ∙ sym (λ i. s.write (s.sum (read_times a b i) (read_times a c i)))

  pub plus_of_times : (a b c : Value) → times_of s (plus_of s a b) c ≡ plus_of s (times_of s a c) (times_of s b c)
  plus_of_times a b c =
      ap (λ x. s.write (s.product x (s.read c))) (read_plus a b)
      ∙ ap s.write (s.laws.sum_product (s.read a) (s.read b) (s.read c) (s.read_is a) (s.read_is b) (s.read_is c))
      ∙ sym (λ i. s.write (s.sum (read_times a c i) (read_times b c i)))

  pub times_of_zero : (a : Value) → times_of s a (zero_of s) ≡ zero_of s
  times_of_zero a = ap (λ x. s.write (s.product (s.read a) x)) read_zero ∙ ap s.write (s.laws.product_nothing (s.read a) (s.read_is a))

  pub zero_of_times : (a : Value) → times_of s (zero_of s) a ≡ zero_of s
  zero_of_times a = ap (λ x. s.write (s.product x (s.read a))) read_zero ∙ ap s.write (s.laws.nothing_product (s.read a) (s.read_is a))

  pub zero_plus_of_times : (a b : Value) → plus_of s (zero_of s) (times_of s a b) ≡ times_of s a b
  zero_plus_of_times a b = zero_plus_of (times_of s a b) (times_of_is a b)

  pub times_of_one : (a : Value) → s.has a ≡ true → times_of s a (one_of s) ≡ a
  times_of_one a h = ap (λ x. s.write (s.product (s.read a) x)) read_one ∙ ap s.write (s.laws.product_unit (s.read a) (s.read_is a)) ∙ s.write_read a h

  pub one_of_times : (a : Value) → s.has a ≡ true → times_of s (one_of s) a ≡ a
  one_of_times a h = ap (λ x. s.write (s.product x (s.read a))) read_one ∙ ap s.write (s.laws.unit_product (s.read a) (s.read_is a)) ∙ s.write_read a h

  -- the laws of the semiring, for the values of the type
  pub laws_of : SemiringLaws (λ a. s.has a ≡ true) (zero_of s) (one_of s) (plus_of s) (times_of s)
  laws_of = record {
    nothing_is = zero_of_is;
    unit_is = one_of_is;
    sum_is = λ a b p q. plus_of_is a b;
    product_is = λ a b p q. times_of_is a b;
    sum_assoc = λ a b c p q r. plus_of_assoc a b c;
    sum_comm = λ a b p q. plus_of_comm a b;
    nothing_sum = λ a p. zero_plus_of a p;
    product_assoc = λ a b c p q r. times_of_assoc a b c;
    product_unit = λ a p. times_of_one a p;
    unit_product = λ a p. one_of_times a p;
    product_sum = λ a b c p q r. times_of_plus a b c;
    sum_product = λ a b c p q r. plus_of_times a b c;
    product_nothing = λ a p. times_of_zero a;
    nothing_product = λ a p. zero_of_times a;
  }

  -- ---- tests

  pub zero_of_is_zero : is_zero_of s (zero_of s) ≡ true
  zero_of_is_zero = ap s.is_nothing read_zero ∙ s.nothing_is_nothing

  pub zero_of_from_is_zero : (a : Value) → is_zero_of s a ≡ true → plus_of s (zero_of s) a ≡ zero_of s
  zero_of_from_is_zero a h = zero_plus_of_read a ∙ ap s.write (s.only_nothing (s.read a) (s.read_is a) h)

  pub plus_of_is_zero : (a b : Value) → s.is_zero_sum_free ≡ true → is_zero_of s (plus_of s a b) ≡ (is_zero_of s a && is_zero_of s b)
  plus_of_is_zero a b h = ap s.is_nothing (read_plus a b) ∙ s.sum_is_nothing h (s.read a) (s.read b) (s.read_is a) (s.read_is b)

  pub times_of_is_zero : (a b : Value) → s.has_no_zero_divisors ≡ true → is_zero_of s (times_of s a b) ≡ (is_zero_of s a || is_zero_of s b)
  times_of_is_zero a b h = ap s.is_nothing (read_times a b) ∙ s.product_is_nothing h (s.read a) (s.read b) (s.read_is a) (s.read_is b)
