-- The values of `path`: the semiring of its elements, whose product does not commute, and how they stand among all
-- values.
use Rattle.std.specs.Prelude.{◌≡◌, Bool, true, false, cond, []}
use Rattle.std.proofs.Common.{refl, ap}
use Rattle.lara_base.specs.Texts.{is_content}
use Rattle.lara_semiring.specs.Semirings.{SemiringLaws}
use Rattle.lara_semiring.specs.ValueSemirings.{ValueSemiring, holds_text}
use Rattle.lara_semiring.specs.declared.value.Value.{Value}
use Rattle.lara_semiring.specs.declared.value.Value.TheVariants.{Path}
use Rattle.lara_semiring.specs.Paths.{path_plus, path_times, is_path, path_plus_is, path_times_is, path_plus_assoc, path_plus_comm, path_absent_plus, path_times_assoc, path_times_plus, path_plus_times, path_empty_times, path_times_empty, path_times_absent, path_is_absent, path_is_over, only_absent, path_plus_is_absent, path_times_is_absent}
use Rattle.lara_semiring.specs.declared.path.PathText.{PathText}
use Rattle.lara_semiring.specs.declared.path.PathText.TheVariants.{Within, Over, Absent}

-- a text, `over` or none
abbrev pub IsPath : PathText → Type 0
IsPath a = is_path a ≡ true

-- `over`
abbrev pub IsPathOver : PathText → Type 0
IsPathOver a = a ≡ Over

empty_is : is_path (Within []) ≡ true
unfolding is_content
empty_is = refl

pub path_laws : SemiringLaws IsPath Absent (Within []) path_plus path_times
path_laws = record {
  nothing_is = refl;
  unit_is = empty_is;
  sum_is = λ a b p q. path_plus_is a b p q;
  product_is = λ a b p q. path_times_is a b p q;
  sum_assoc = λ a b c p q r. path_plus_assoc a b c;
  sum_comm = λ a b p q. path_plus_comm a b;
  nothing_sum = λ a p. path_absent_plus a;
  product_assoc = λ a b c p q r. path_times_assoc a b c;
  product_unit = λ a p. path_times_empty a p;
  unit_product = λ a p. path_empty_times a p;
  product_sum = λ a b c p q r. path_times_plus a b c;
  sum_product = λ a b c p q r. path_plus_times a b c;
  product_nothing = λ a p. path_times_absent a;
  nothing_product = λ a p. refl;
}

-- ---- among all values

-- the value is a path
abbrev pub is_path_value : Value → Bool
is_path_value (Path x) = is_path x
is_path_value other = false

-- the path that a value is read as: what is no text as `over`, a value of another type as none
abbrev pub as_path : Value → PathText
as_path (Path x) = cond (is_path x) x Over
as_path other = Absent

pub path_is_read : (x : PathText) → is_path x ≡ true → cond (is_path x) x Over ≡ x
path_is_read x h = rw h refl

read_is_path : (x : PathText) → is_path (cond (is_path x) x Over) ≡ true
read_is_path x = elim (is_path x) as (λ t. is_path x ≡ t → is_path (cond t x Over) ≡ true) [ true ↦ λ h. h | false ↦ λ h. refl ] refl

pub as_path_is : (v : Value) → IsPath (as_path v)
as_path_is (Path x) = read_is_path x
as_path_is _ = refl

pub of_as_path : (v : Value) → is_path_value v ≡ true → Path (as_path v) ≡ v
of_as_path (Path x) h = ap Path (path_is_read x h)
of_as_path _ h = cc

pub no_text : true ≡ false → (v : Value) → is_path_value v ≡ true → holds_text v ≡ false
no_text e v h = cc

pub product_comm : false ≡ true → (x y : PathText) → path_times x y ≡ path_times y x
product_comm e x y = cc

-- all that is known of `path`
abbrev pub path_values : ValueSemiring
path_values = record {
  Element = PathText;
  is_element = IsPath;
  nothing = Absent;
  unit = Within [];
  sum = path_plus;
  product = path_times;
  laws = path_laws;
  has = is_path_value;
  write = Path;
  read = as_path;
  write_has = λ a h. h;
  read_is = as_path_is;
  read_write = path_is_read;
  write_read = of_as_path;
  is_nothing = path_is_absent;
  nothing_is_nothing = refl;
  only_nothing = λ a p h. only_absent a h;
  is_past = path_is_over;
  has_texts = true;
  no_text = no_text;
  commutes = false;
  product_comm = λ h a b p q. product_comm h a b;
  is_zero_sum_free = true;
  sum_is_nothing = λ h a b p q. path_plus_is_absent a b;
  has_no_zero_divisors = true;
  product_is_nothing = λ h a b p q. path_times_is_absent a b;
}
