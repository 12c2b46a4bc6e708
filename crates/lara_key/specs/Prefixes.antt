-- The byte strings that begin with a prefix are a range: from the prefix on, up to the prefix raised.
use Rattle.std.specs.Prelude.{◌≡◌, ℕ, ◌+◌, ◌<◌, ◌≤◌, ◌==◌, ◌↔◌, Bool, true, false, List, [], ◌∷◌, ◌++◌, Option, Some, None, if◌then◌else◌}
use Rattle.std.proofs.Common.{refl, sym, ap, arith}
use Rattle.std.specs.List.{list_all}
use Rattle.std.proofs.lemmas.Bool.{and_parts, and_from}
use Rattle.std.proofs.lemmas.Bool.Decides.{nat_tests}
use Rattle.std.specs.Cmp.{nat_cmp_is, ranks}
use Rattle.std.proofs.lemmas.Cmp.{tied_itself, nat_cmp_total}
use Rattle.std.specs.declared.cmp.Ordering.{Ordering}
use Rattle.std.specs.declared.cmp.Ordering.TheVariants.{Less, Equal, Greater}
use Rattle.std.specs.Ordering.{nat_cmp, is_lt, ordering_then, MatchOrdering}
use Rattle.std.specs.FinMap.{nat_cmp-IsAntisymmetric}
use Rattle.lara_base.specs.Texts.{is_byte, bytes_cmp}
use Rattle.lara_fields.specs.Readers.{are_bytes}

-- the key begins with the prefix
abbrev pub Begins : List ℕ → List ℕ → Type 0
Begins prefix key = (rest : List ℕ) × (key ≡ prefix ++ rest)

-- a byte in front of a bound, or the byte raised where there is no bound behind it
abbrev pub bound_behind : ℕ → Option (List ℕ) → Option (List ℕ)
bound_behind b None = if b == 255 then None else Some ((b + 1) ∷ [])
bound_behind b (Some bound) = Some (b ∷ bound)

-- the prefix without its trailing bytes FF, its then last byte raised by one; none where every byte is FF
unfoldable pub prefix_bound : List ℕ → Option (List ℕ)
prefix_bound [] = None
prefix_bound (b ∷ bs) = bound_behind b (prefix_bound bs)

-- each byte is FF
abbrev pub are_full : List ℕ → Bool
are_full = list_all (λ b. b == 255)

-- A front, a byte that is not FF, and bytes FF: the bound is the front and the byte raised by one.
pub record HasRaised (prefix bound : List ℕ) : Type 0 where
  pub front : List ℕ
  pub last : ℕ
  pub full : List ℕ
  pub prefix_is : prefix ≡ front ++ last ∷ full
  pub is_low : (last == 255) ≡ false
  pub is_full : are_full full ≡ true
  pub bound_is : bound ≡ front ++ (last + 1) ∷ []

-- there is a bound unless each byte is FF
abbrev pub Raises : List ℕ → Option (List ℕ) → Type 0
Raises prefix None = are_full prefix ≡ true
Raises prefix (Some bound) = HasRaised prefix bound

-- the key is before the bound, where there is one
abbrev pub is_before : List ℕ → Option (List ℕ) → Bool
is_before key None = true
is_before key (Some bound) = is_lt (bytes_cmp key bound)

-- the key is in the range from the prefix on up to the bound
pub record InRange (prefix : List ℕ) (bound : Option (List ℕ)) (key : List ℕ) : Type 0 where
  pub from : is_lt (bytes_cmp key prefix) ≡ false
  pub before : is_before key bound ≡ true

-- among byte strings, those that begin with the prefix are those of the range
pub record IsRangeOf (prefix : List ℕ) (bound : Option (List ℕ)) : Type 0 where
  pub exact : (key : List ℕ) → are_bytes key ≡ true → Begins prefix key ↔ InRange prefix bound key

same_byte : (b : ℕ) → nat_cmp b b ≡ Equal
same_byte b = tied_itself nat_cmp_total b

from_front : (prefix rest : List ℕ) → is_lt (bytes_cmp (prefix ++ rest) prefix) ≡ false
from_front [] [] = refl
from_front [] (b ∷ bs) = refl
from_front (b ∷ bs) rest = rw (same_byte b) (from_front bs rest)

before_front : (prefix rest : List ℕ) → is_before (prefix ++ rest) (prefix_bound prefix) ≡ true
unfolding prefix_bound
before_front [] rest = refl
before_front (b ∷ bs) rest = by (prefix_bound bs) (before_front bs rest)
  where
    raised : (t : Bool) → is_before (b ∷ (bs ++ rest)) (if t then None else Some ((b + 1) ∷ [])) ≡ true
    raised true = refl
    raised false = let l : nat_cmp b (b + 1) ≡ Less = sym (nat_cmp_is b (b + 1) Less (omega arith)) in rw l refl

    by : (o : Option (List ℕ)) → is_before (bs ++ rest) o ≡ true → is_before (b ∷ (bs ++ rest)) (bound_behind b o) ≡ true
    by None h = raised (b == 255)
    by (Some bound) h = rw (same_byte b) h

more : (b : ℕ) (prefix key : List ℕ) → Begins prefix key → Begins (b ∷ prefix) (b ∷ key)
more b prefix key h = (h.0, ap (λ (t : List ℕ). b ∷ t) h.1)

not_before_nil : (cs : List ℕ) → is_lt (bytes_cmp cs []) ≡ true → ⊥
not_before_nil [] e = cc
not_before_nil (c ∷ cs) e = cc

above : (b c : ℕ) (cs : List ℕ) (o : Ordering) → nat_cmp c (b + 1) ≡ o → b < c → is_lt (ordering_then o (bytes_cmp cs [])) ≡ true → ⊥
above b c cs Less e l h = let m : MatchOrdering Less (c < b + 1) (c ≡ b + 1) (b + 1 < c) = rw e at (ranks c (b + 1)) in omega arith
above b c cs Equal e l h = not_before_nil cs h
above b c cs Greater e l h = cc

greater : (b c : ℕ) (cs : List ℕ) (p : Option (List ℕ)) → nat_cmp c b ≡ Greater → c ≤ 255 → is_before (c ∷ cs) (bound_behind b p) ≡ true → ⊥
greater b c cs None e f h = raised (b == 255) refl h
  where
    past : b < c
    past = rw e at (ranks c b)

    raised : (t : Bool) → (b == 255) ≡ t → is_before (c ∷ cs) (if t then None else Some ((b + 1) ∷ [])) ≡ true → ⊥
    raised true q h = let l = past in grind (arith, nat_tests)
    raised false q h = above b c cs (nat_cmp c (b + 1)) refl past h
greater b c cs (Some bound) e f h = let g = rw e at h in cc

step : (b c : ℕ) (bs cs : List ℕ) (p : Option (List ℕ)) (o : Ordering) → nat_cmp c b ≡ o → c ≤ 255 → is_lt (ordering_then o (bytes_cmp cs bs)) ≡ false → is_before (c ∷ cs) (bound_behind b p) ≡ true
    → (is_lt (bytes_cmp cs bs) ≡ false → is_before cs p ≡ true → Begins bs cs) → Begins (b ∷ bs) (c ∷ cs)
step b c bs cs p Less e f g h ih = absurd cc
step b c bs cs None Equal e f g h ih = let same : c ≡ b = nat_cmp-IsAntisymmetric c b e in rw same (more b bs cs (ih g refl))
step b c bs cs (Some bound) Equal e f g h ih = let same : c ≡ b = nat_cmp-IsAntisymmetric c b e in rw same (more b bs cs (ih g (rw e at h)))
step b c bs cs p Greater e f g h ih = absurd (greater b c cs p e f h)

begins : (prefix key : List ℕ) → are_bytes key ≡ true → is_lt (bytes_cmp key prefix) ≡ false → is_before key (prefix_bound prefix) ≡ true → Begins prefix key
unfolding prefix_bound
begins [] key f g h = (key, refl)
begins (b ∷ bs) [] f g h = absurd cc
begins (b ∷ bs) (c ∷ cs) f g h =
    let q = and_parts (is_byte c) (are_bytes cs) f in
    step b c bs cs (prefix_bound bs) (nat_cmp c b) refl (grind (arith, nat_tests)) g h (begins bs cs q.1)

-- The keys that begin with the prefix are those that are not before it, and before its bound where there is one.
pub prefix_range : (prefix : List ℕ) (bound : Option (List ℕ)) → bound ≡ prefix_bound prefix → IsRangeOf prefix bound
prefix_range prefix bound e = rw e (record { exact = λ key f. (λ h. record { from = rw h.1 (from_front prefix h.0); before = rw h.1 (before_front prefix h.0) }, λ r. begins prefix key f r.from r.before) })

-- ---- what the bound is

raises_behind : (b : ℕ) (bs : List ℕ) (o : Option (List ℕ)) → Raises bs o → Raises (b ∷ bs) (bound_behind b o)
raises_behind b bs None h = by (b == 255) refl
  where
    by : (t : Bool) → (b == 255) ≡ t → Raises (b ∷ bs) (if t then None else Some ((b + 1) ∷ []))
    by true e = and_from (b == 255) (are_full bs) e h
    by false e = record { front = []; last = b; full = bs; prefix_is = refl; is_low = e; is_full = h; bound_is = refl }
raises_behind b bs (Some bound) h = record {
  front = b ∷ h.front;
  last = h.last;
  full = h.full;
  prefix_is = ap (λ (t : List ℕ). b ∷ t) h.prefix_is;
  is_low = h.is_low;
  is_full = h.is_full;
  bound_is = ap (λ (t : List ℕ). b ∷ t) h.bound_is;
}

raises : (prefix : List ℕ) → Raises prefix (prefix_bound prefix)
unfolding prefix_bound
raises [] = refl
raises (b ∷ bs) = raises_behind b bs (prefix_bound bs) (raises bs)

pub prefix_raises : (prefix : List ℕ) (bound : Option (List ℕ)) → bound ≡ prefix_bound prefix → Raises prefix bound
prefix_raises prefix bound e = rw e (raises prefix)

-- where each byte is FF there is no bound
pub none_from_full : (prefix : List ℕ) → are_full prefix ≡ true → prefix_bound prefix ≡ None
unfolding prefix_bound
none_from_full [] h = refl
none_from_full (b ∷ bs) h = let p = and_parts (b == 255) (are_full bs) h in rw (none_from_full bs p.1, p.0) refl

pub ruleset prefix_laws = (prefix_range, prefix_raises, none_from_full)
