-- Facts about an order of keys.
use Rattle.std.specs.Prelude.{◌≡◌, true, false}
use Rattle.std.proofs.Common.{refl, ap, ◌∙◌}
use Rattle.std.specs.declared.cmp.Ordering.{Ordering}
use Rattle.std.specs.declared.cmp.Ordering.TheVariants.{Less, Equal, Greater}
use Rattle.std.specs.Ordering.{is_eq, is_lt, ordering_reverse}
use Rattle.std.proofs.lemmas.Cmp.{tied_itself}
use Rattle.lara_data.specs.KeyedTables.{IsKeyOrder, same_key, before}

is_Equal : (o : Ordering) → is_eq o ≡ true → o ≡ Equal
is_Equal Less e = cc
is_Equal Equal e = refl
is_Equal Greater e = cc

is_Less : (o : Ordering) → is_lt o ≡ true → o ≡ Less
is_Less Less e = refl
is_Less Equal e = cc
is_Less Greater e = cc

reversed_eq : (o : Ordering) → is_eq (ordering_reverse o) ≡ is_eq o
reversed_eq Less = refl
reversed_eq Equal = refl
reversed_eq Greater = refl

lt_not_eq : (o : Ordering) → is_lt o ≡ true → is_eq o ≡ false
lt_not_eq Less e = refl
lt_not_eq Equal e = cc
lt_not_eq Greater e = refl

before_by : (o r : Ordering) → o ≡ ordering_reverse r → is_lt o ≡ false → is_eq o ≡ false → is_lt r ≡ true
before_by Less r e p q = cc
before_by Equal r e p q = cc
before_by Greater Less e p q = refl
before_by Greater Equal e p q = cc
before_by Greater Greater e p q = cc

module _ {K : Type 0} {R : K → K → Ordering} (ko : IsKeyOrder R) where
  pub same_key_itself : (a : K) → same_key R a a ≡ true
  unfolding same_key
  same_key_itself a = ap is_eq (tied_itself ko.total a)

  pub same_key_is : (a b : K) → same_key R a b ≡ true → a ≡ b
  unfolding same_key
  same_key_is a b e = ko.same a b (is_Equal (R a b) e)

  pub same_key_back : (a b : K) → same_key R a b ≡ same_key R b a
  unfolding same_key
  same_key_back a b = ap is_eq (ko.total.antisymm a b) ∙ reversed_eq (R b a)

  pub before_trans : (a b c : K) → before R a b ≡ true → before R b c ≡ true → before R a c ≡ true
  unfolding before
  before_trans a b c p q = ap is_lt (ko.total.trans a b c (is_Less (R a b) p) (is_Less (R b c) q))

  pub before_apart : (a b : K) → before R a b ≡ true → same_key R a b ≡ false
  unfolding before same_key
  before_apart a b p = lt_not_eq (R a b) p

  pub after_apart : (a b : K) → before R a b ≡ true → same_key R b a ≡ false
  after_apart a b p = same_key_back b a ∙ before_apart a b p

  pub after_by : (a b : K) → before R a b ≡ false → same_key R a b ≡ false → before R b a ≡ true
  unfolding before same_key
  after_by a b p q = before_by (R a b) (R b a) (ko.total.antisymm a b) p q
