-- Which tuple stands before which, as it is read off the columns.
use Rattle.std.specs.Prelude.{◌≡◌, ◌↔◌, ◌⊎◌, List, [], ◌∷◌, ◌++◌}
use Rattle.std.proofs.Common.{refl, ap, ◌∙◌, inl, inr}
use Rattle.std.specs.declared.cmp.Ordering.{Ordering}
use Rattle.std.specs.declared.cmp.Ordering.TheVariants.{Less, Equal, Greater}
use Rattle.std.specs.Ordering.{ordering_then, ordering_reverse}
use Rattle.std.specs.Cmp.Lexicographic.{slice_cmp}
use Rattle.std.proofs.lemmas.Cmp.{tied_itself}
use Rattle.lara_key.specs.Keys.{key_cmp, tuple_cmp, key_cmp_total, key_cmp_antisymmetric, tuple_cmp_total, tuple_cmp_antisymmetric}
use Rattle.lara_key.specs.declared.key.KeyVal.{KeyVal}

-- b has the columns of a and more
pub record GoesOn (a b : List KeyVal) : Type 0 where
  pub next : KeyVal
  pub rest : List KeyVal
  pub is : b ≡ a ++ next ∷ rest

-- a and b begin alike, and then a has the lesser column
pub record HasLesser (a b : List KeyVal) : Type 0 where
  pub front : List KeyVal
  pub lesser : KeyVal
  pub greater : KeyVal
  pub lesser_rest : List KeyVal
  pub greater_rest : List KeyVal
  pub left : a ≡ front ++ lesser ∷ lesser_rest
  pub right : b ≡ front ++ greater ∷ greater_rest
  pub less : key_cmp lesser greater ≡ Less

-- a stands before b
abbrev pub IsBefore : List KeyVal → List KeyVal → Type 0
IsBefore a b = GoesOn a b ⊎ HasLesser a b

-- one more equal column in front
before_cons : (x y : KeyVal) (a b : List KeyVal) → x ≡ y → IsBefore a b → IsBefore (x ∷ a) (y ∷ b)
before_cons x y a b e (inl g) = inl (record { next = g.next; rest = g.rest; is = cc (e, g.is) })
before_cons x y a b e (inr h) = inr (record {
  front = x ∷ h.front;
  lesser = h.lesser;
  greater = h.greater;
  lesser_rest = h.lesser_rest;
  greater_rest = h.greater_rest;
  left = cc (h.left);
  right = cc (e, h.right);
  less = h.less;
})

before_step : (x y : KeyVal) (a b : List KeyVal) (o : Ordering) → key_cmp x y ≡ o → (slice_cmp key_cmp a b ≡ Less → IsBefore a b) → ordering_then o (slice_cmp key_cmp a b) ≡ Less → IsBefore (x ∷ a) (y ∷ b)
before_step x y a b Less k more e = inr (record { front = []; lesser = x; greater = y; lesser_rest = a; greater_rest = b; left = refl; right = refl; less = k })
before_step x y a b Equal k more e = before_cons x y a b (key_cmp_antisymmetric x y k) (more e)
before_step x y a b Greater k more e = cc

before_from_less : (a b : List KeyVal) → slice_cmp key_cmp a b ≡ Less → IsBefore a b
before_from_less [] [] e = cc
before_from_less [] (y ∷ b) e = inl (record { next = y; rest = b; is = refl })
before_from_less (x ∷ a) [] e = cc
before_from_less (x ∷ a) (y ∷ b) e = before_step x y a b (key_cmp x y) refl (before_from_less a b) e

less_goes_on : (a : List KeyVal) (v : KeyVal) (vs : List KeyVal) → slice_cmp key_cmp a (a ++ v ∷ vs) ≡ Less
less_goes_on [] v vs = refl
less_goes_on (x ∷ a) v vs = rw (tied_itself key_cmp_total x) (less_goes_on a v vs)

less_has_lesser : (p a b : List KeyVal) (x y : KeyVal) → key_cmp x y ≡ Less → slice_cmp key_cmp (p ++ x ∷ a) (p ++ y ∷ b) ≡ Less
less_has_lesser [] a b x y e = rw e refl
less_has_lesser (v ∷ p) a b x y e = rw (tied_itself key_cmp_total v) (less_has_lesser p a b x y e)

less_from_before : (a b : List KeyVal) → IsBefore a b → slice_cmp key_cmp a b ≡ Less
less_from_before a b (inl g) = rw g.is (less_goes_on a g.next g.rest)
less_from_before a b (inr h) = rw (h.left, h.right) (less_has_lesser h.front h.lesser_rest h.greater_rest h.lesser h.greater h.less)

pub tuple_cmp-Less : (a b : List KeyVal) → (tuple_cmp a b ≡ Less) ↔ IsBefore a b
unfolding tuple_cmp
tuple_cmp-Less a b = (before_from_less a b, less_from_before a b)

pub tuple_cmp-Equal : (a b : List KeyVal) → (tuple_cmp a b ≡ Equal) ↔ (a ≡ b)
tuple_cmp-Equal a b = (tuple_cmp_antisymmetric a b, λ e. rw e (tied_itself tuple_cmp_total b))

pub tuple_cmp-Greater : (a b : List KeyVal) → (tuple_cmp a b ≡ Greater) ↔ IsBefore b a
tuple_cmp-Greater a b = (λ e. (tuple_cmp-Less b a).0 (tuple_cmp_total.antisymm b a ∙ ap ordering_reverse e), λ h. tuple_cmp_total.antisymm a b ∙ ap ordering_reverse ((tuple_cmp-Less b a).1 h))

pub ruleset tuple_answers = (tuple_cmp-Less, tuple_cmp-Equal, tuple_cmp-Greater)
