-- Lexically least paths: texts by their lengths and then by their bytes, then `over`, then `none` for no path at all.
-- The sum is the lesser and the product the one text behind the other, so that `none` is zero and the empty text is one.
use Rattle.std.specs.Prelude.{◌≡◌, ℕ, ◌+◌, ◌≤◌, Bool, true, false, cond, ◌&&◌, ◌||◌, List, [], ◌∷◌, ◌++◌, length, nat_le}
use Rattle.std.specs.List.{list_all}
use Rattle.std.proofs.Common.{refl, sym, ap, ◌∙◌, arith, append_assoc, length-append}
use Rattle.std.proofs.lemmas.Bool.{and_parts, and_from}
use Rattle.std.proofs.lemmas.Bool.Decides.{nat_tests}
use Rattle.std.proofs.lemmas.List.Folds.{list_all-append}
use Rattle.std.specs.declared.cmp.Ordering.{Ordering}
use Rattle.std.specs.declared.cmp.Ordering.TheVariants.{Less, Equal, Greater}
use Rattle.std.specs.Ordering.{nat_cmp, ordering_then, is_le}
use Rattle.std.specs.Cmp.Lexicographic.{slice_cmp}
use Rattle.lara_base.specs.Orders.{IsRanked, ranked_total, ranked_antisymmetric}
use Rattle.lara_base.specs.Texts.{is_byte, is_content, bytes_cmp, length_cmp}
use Rattle.lara_semiring.specs.Choices.{IsLinear, linear, no_later, lesser, low_assoc, low_comm, low_through}
use Rattle.lara_semiring.specs.declared.path.PathText.{PathText}
use Rattle.lara_semiring.specs.declared.path.PathText.TheVariants.{Within, Over, Absent}

-- the path of these bytes, or `over` where they are more than 1,024
abbrev pub path_of : List ℕ → PathText
path_of bs = cond (nat_le (length bs) 1024) (Within bs) Over

-- texts by their lengths and then by their bytes, then `over`, then none
abbrev pub path_cmp : PathText → PathText → Ordering
path_cmp (Within a) (Within b) = length_cmp a b
path_cmp (Within a) Over = Less
path_cmp (Within a) Absent = Less
path_cmp Over (Within b) = Greater
path_cmp Over Over = Equal
path_cmp Over Absent = Less
path_cmp Absent (Within b) = Greater
path_cmp Absent Over = Greater
path_cmp Absent Absent = Equal

-- the lesser
abbrev pub path_plus : PathText → PathText → PathText
path_plus = lesser path_cmp

-- the second behind the first, `over` past 1,024 bytes or where one is `over`; none where one is none
abbrev pub path_times : PathText → PathText → PathText
path_times (Within a) (Within b) = path_of (a ++ b)
path_times (Within a) Over = Over
path_times (Within a) Absent = Absent
path_times Over (Within b) = Over
path_times Over Over = Over
path_times Over Absent = Absent
path_times Absent b = Absent

-- a text, `over` or none
abbrev pub is_path : PathText → Bool
is_path (Within bs) = is_content bs
is_path Over = true
is_path Absent = true

-- the path has bytes, so that a copy takes memory
abbrev pub path_has_bytes : PathText → Bool
path_has_bytes (Within []) = false
path_has_bytes (Within (b ∷ bs)) = true
path_has_bytes Over = false
path_has_bytes Absent = false

-- there is no path
abbrev pub path_is_absent : PathText → Bool
path_is_absent (Within bs) = false
path_is_absent Over = false
path_is_absent Absent = true

-- the path is `over`
abbrev pub path_is_over : PathText → Bool
path_is_over (Within bs) = false
path_is_over Over = true
path_is_over Absent = false

-- ---- the order is linear

path_rank : PathText → List ℕ
path_rank (Within a) = 0 ∷ length a ∷ a
path_rank Over = 1 ∷ []
path_rank Absent = 2 ∷ []

agrees : (x y : PathText) → path_cmp x y ≡ slice_cmp nat_cmp (path_rank x) (path_rank y)
unfolding path_rank
agrees (Within a) (Within b) = refl
agrees (Within a) Over = refl
agrees (Within a) Absent = refl
agrees Over (Within b) = refl
agrees Over Over = refl
agrees Over Absent = refl
agrees Absent (Within b) = refl
agrees Absent Over = refl
agrees Absent Absent = refl

apart : (x y : PathText) → path_rank x ≡ path_rank y → x ≡ y
unfolding path_rank
apart (Within a) (Within b) e = ap Within (cc)
apart Over Over e = refl
apart Absent Absent e = refl
apart _ _ e = cc

path_ranked : IsRanked path_cmp path_rank
path_ranked = record { agrees = agrees; apart = apart }

path_linear : IsLinear (no_later path_cmp)
path_linear = linear (ranked_total path_ranked) (ranked_antisymmetric path_ranked)

-- ---- the sum

pub path_plus_is : (a b : PathText) → is_path a ≡ true → is_path b ≡ true → is_path (path_plus a b) ≡ true
path_plus_is a b p q = elim (no_later path_cmp a b) as (λ t. is_path (cond t a b) ≡ true) [ true ↦ p | false ↦ q ]

pub path_plus_assoc : (a b c : PathText) → path_plus (path_plus a b) c ≡ path_plus a (path_plus b c)
path_plus_assoc = low_assoc (no_later path_cmp) path_linear

pub path_plus_comm : (a b : PathText) → path_plus a b ≡ path_plus b a
path_plus_comm = low_comm (no_later path_cmp) path_linear

pub path_absent_plus : (a : PathText) → path_plus Absent a ≡ a
path_absent_plus (Within bs) = refl
path_absent_plus Over = refl
path_absent_plus Absent = refl

pub only_absent : (a : PathText) → path_is_absent a ≡ true → a ≡ Absent
only_absent (Within bs) h = cc
only_absent Over h = cc
only_absent Absent h = refl

-- the lesser is none only where both are
pub path_plus_is_absent : (a b : PathText) → path_is_absent (path_plus a b) ≡ (path_is_absent a && path_is_absent b)
path_plus_is_absent (Within x) (Within y) = elim (no_later path_cmp (Within x) (Within y)) as (λ t. path_is_absent (cond t (Within x) (Within y)) ≡ false) [ true ↦ refl | false ↦ refl ]
path_plus_is_absent (Within x) Over = refl
path_plus_is_absent (Within x) Absent = refl
path_plus_is_absent Over (Within y) = refl
path_plus_is_absent Over Over = refl
path_plus_is_absent Over Absent = refl
path_plus_is_absent Absent b = ap path_is_absent (path_absent_plus b)

-- ---- the product

path_of_is_absent : (bs : List ℕ) → path_is_absent (path_of bs) ≡ false
path_of_is_absent bs = elim (nat_le (length bs) 1024) as (λ t. path_is_absent (cond t (Within bs) Over) ≡ false) [ true ↦ refl | false ↦ refl ]

-- a product is none only where a factor is
pub path_times_is_absent : (a b : PathText) → path_is_absent (path_times a b) ≡ (path_is_absent a || path_is_absent b)
path_times_is_absent (Within x) (Within y) = path_of_is_absent (x ++ y)
path_times_is_absent (Within x) Over = refl
path_times_is_absent (Within x) Absent = refl
path_times_is_absent Over (Within y) = refl
path_times_is_absent Over Over = refl
path_times_is_absent Over Absent = refl
path_times_is_absent Absent b = refl

content_from : (bs : List ℕ) → nat_le (length bs) 1024 ≡ true → list_all is_byte bs ≡ true → is_content bs ≡ true
unfolding is_content
content_from bs p q = and_from _ _ p q

content_short : (bs : List ℕ) → is_content bs ≡ true → nat_le (length bs) 1024 ≡ true
unfolding is_content
content_short bs h = (and_parts (nat_le (length bs) 1024) (list_all is_byte bs) h).0

content_bytes : (bs : List ℕ) → is_content bs ≡ true → list_all is_byte bs ≡ true
unfolding is_content
content_bytes bs h = (and_parts (nat_le (length bs) 1024) (list_all is_byte bs) h).1

path_of_is : (bs : List ℕ) → list_all is_byte bs ≡ true → is_path (path_of bs) ≡ true
path_of_is bs h =
    elim (nat_le (length bs) 1024) as (λ t. nat_le (length bs) 1024 ≡ t → is_path (cond t (Within bs) Over) ≡ true) [
      | true ↦ λ e. content_from bs e h
      | false ↦ λ e. refl
    ] refl

pub path_times_is : (a b : PathText) → is_path a ≡ true → is_path b ≡ true → is_path (path_times a b) ≡ true
path_times_is (Within x) (Within y) p q = path_of_is (x ++ y) (list_all-append is_byte x y ∙ and_from _ _ (content_bytes x p) (content_bytes y q))
path_times_is (Within x) Over p q = refl
path_times_is (Within x) Absent p q = refl
path_times_is Over (Within y) p q = refl
path_times_is Over Over p q = refl
path_times_is Over Absent p q = refl
path_times_is Absent b p q = refl

pub path_times_absent : (a : PathText) → path_times a Absent ≡ Absent
path_times_absent (Within bs) = refl
path_times_absent Over = refl
path_times_absent Absent = refl

path_of_over : (x : List ℕ) → path_times (path_of x) Over ≡ Over
path_of_over x = elim (nat_le (length x) 1024) as (λ t. path_times (cond t (Within x) Over) Over ≡ Over) [ true ↦ refl | false ↦ refl ]

over_path_of : (x : List ℕ) → path_times Over (path_of x) ≡ Over
over_path_of x = elim (nat_le (length x) 1024) as (λ t. path_times Over (cond t (Within x) Over) ≡ Over) [ true ↦ refl | false ↦ refl ]

too_long : (x : List ℕ) → nat_le (length x) 1024 ≡ false → path_of x ≡ Over
too_long x h = rw h refl

longer_front : (x y : List ℕ) → nat_le (length x) 1024 ≡ false → nat_le (length (x ++ y)) 1024 ≡ false
longer_front x y h = let e = length-append x y in grind (arith, nat_tests)

longer_back : (x y : List ℕ) → nat_le (length y) 1024 ≡ false → nat_le (length (x ++ y)) 1024 ≡ false
longer_back x y h = let e = length-append x y in grind (arith, nat_tests)

-- a factor may be too long before the product is
path_of_left : (x c : List ℕ) → path_times (path_of x) (Within c) ≡ path_of (x ++ c)
path_of_left x c =
    elim (nat_le (length x) 1024) as (λ t. nat_le (length x) 1024 ≡ t → path_times (cond t (Within x) Over) (Within c) ≡ path_of (x ++ c)) [
      | true ↦ λ h. refl
      | false ↦ λ h. sym (too_long (x ++ c) (longer_front x c h))
    ] refl

path_of_right : (a y : List ℕ) → path_times (Within a) (path_of y) ≡ path_of (a ++ y)
path_of_right a y =
    elim (nat_le (length y) 1024) as (λ t. nat_le (length y) 1024 ≡ t → path_times (Within a) (cond t (Within y) Over) ≡ path_of (a ++ y)) [
      | true ↦ λ h. refl
      | false ↦ λ h. sym (too_long (a ++ y) (longer_back a y h))
    ] refl

pub path_times_assoc : (a b c : PathText) → path_times (path_times a b) c ≡ path_times a (path_times b c)
path_times_assoc Absent b c = refl
path_times_assoc (Within a) Absent c = refl
path_times_assoc Over Absent c = refl
path_times_assoc (Within a) (Within b) (Within c) = path_of_left (a ++ b) c ∙ ap path_of (append_assoc a b c) ∙ sym (path_of_right a (b ++ c))
path_times_assoc (Within a) (Within b) Over = path_of_over (a ++ b)
path_times_assoc (Within a) (Within b) Absent = path_times_absent (path_of (a ++ b))
path_times_assoc (Within a) Over (Within c) = refl
path_times_assoc (Within a) Over Over = refl
path_times_assoc (Within a) Over Absent = refl
path_times_assoc Over (Within b) (Within c) = sym (over_path_of (b ++ c))
path_times_assoc Over (Within b) Over = refl
path_times_assoc Over (Within b) Absent = refl
path_times_assoc Over Over (Within c) = refl
path_times_assoc Over Over Over = refl
path_times_assoc Over Over Absent = refl

pub path_empty_times : (a : PathText) → is_path a ≡ true → path_times (Within []) a ≡ a
path_empty_times (Within a) h = rw (content_short a h) refl
path_empty_times Over h = refl
path_empty_times Absent h = refl

no_more : (a : List ℕ) → a ++ [] ≡ a
no_more [] = refl
no_more (x ∷ xs) = ap (λ t. x ∷ t) (no_more xs)

pub path_times_empty : (a : PathText) → is_path a ≡ true → path_times a (Within []) ≡ a
path_times_empty (Within a) h = ap path_of (no_more a) ∙ rw (content_short a h) refl
path_times_empty Over h = refl
path_times_empty Absent h = refl

-- ---- the product keeps the order

same_front : (a x y : List ℕ) → bytes_cmp (a ++ x) (a ++ y) ≡ bytes_cmp x y
same_front [] x y = refl
same_front (n ∷ a) x y = let e : nat_cmp n n ≡ Equal = grind (arith, nat_tests) in rw e (same_front a x y)

then_less : (o p q : Ordering) → (o ≡ Equal → p ≡ q) → ordering_then o p ≡ ordering_then o q
then_less Less p q h = refl
then_less Equal p q h = h refl
then_less Greater p q h = refl

same_ends : (a : List ℕ) → bytes_cmp a a ≡ Equal
same_ends [] = refl
same_ends (n ∷ ns) = let e : nat_cmp n n ≡ Equal = grind (arith, nat_tests) in rw e (same_ends ns)

same_back : (x y a : List ℕ) → length x ≡ length y → bytes_cmp (x ++ a) (y ++ a) ≡ bytes_cmp x y
same_back [] [] a h = same_ends a
same_back [] (m ∷ y) a h = absurd (omega arith)
same_back (n ∷ x) [] a h = absurd (omega arith)
same_back (n ∷ x) (m ∷ y) a h = ap (ordering_then (nat_cmp n m)) (same_back x y a (omega arith))

shifted : (k m n : ℕ) → nat_cmp (k + m) (k + n) ≡ nat_cmp m n
shifted k m n = grind (arith, nat_tests)

shifted_back : (k m n : ℕ) → nat_cmp (m + k) (n + k) ≡ nat_cmp m n
shifted_back k m n = grind (arith, nat_tests)

alike : (m n : ℕ) → nat_cmp m n ≡ Equal → m ≡ n
alike m n h = grind (arith, nat_tests)

no_longer : (m n : ℕ) (r : Ordering) → is_le (ordering_then (nat_cmp m n) r) ≡ true → m ≤ n
no_longer m n r h = grind (arith, nat_tests)

front_cmp : (a x y : List ℕ) → length_cmp (a ++ x) (a ++ y) ≡ length_cmp x y
front_cmp a x y =
    (λ i. ordering_then (nat_cmp (length-append a x i) (length-append a y i)) (same_front a x y i))
    ∙ ap (λ o. ordering_then o (bytes_cmp x y)) (shifted (length a) (length x) (length y))

back_cmp : (a x y : List ℕ) → length_cmp (x ++ a) (y ++ a) ≡ length_cmp x y
back_cmp a x y =
    (λ i. ordering_then (nat_cmp (length-append x a i) (length-append y a i)) (bytes_cmp (x ++ a) (y ++ a)))
    ∙ ap (λ o. ordering_then o (bytes_cmp (x ++ a) (y ++ a))) (shifted_back (length a) (length x) (length y))
    ∙ then_less (nat_cmp (length x) (length y)) _ _ (λ e. same_back x y a (alike (length x) (length y) e))

abbrev le : PathText → PathText → Bool
le = no_later path_cmp

under_over : (z : List ℕ) → le (path_of z) Over ≡ true
under_over z = elim (nat_le (length z) 1024) as (λ t. le (cond t (Within z) Over) Over ≡ true) [ true ↦ refl | false ↦ refl ]

under_absent : (z : List ℕ) → le (path_of z) Absent ≡ true
under_absent z = elim (nat_le (length z) 1024) as (λ t. le (cond t (Within z) Over) Absent ≡ true) [ true ↦ refl | false ↦ refl ]

path_of_keeps : (x y : List ℕ) → is_le (length_cmp x y) ≡ true → le (path_of x) (path_of y) ≡ true
path_of_keeps x y h =
    elim (nat_le (length y) 1024) as (λ t. nat_le (length y) 1024 ≡ t → le (path_of x) (cond t (Within y) Over) ≡ true) [
      | true ↦ λ g.
          let fits : length x ≤ length y = no_longer (length x) (length y) (bytes_cmp x y) h in
          let short : nat_le (length x) 1024 ≡ true = grind (arith, nat_tests) in
          rw short h
      | false ↦ λ g. under_over x
    ] refl

keeps_left : (a b c : PathText) → le b c ≡ true → le (path_times a b) (path_times a c) ≡ true
keeps_left Absent b c h = refl
keeps_left Over (Within x) (Within y) h = refl
keeps_left Over (Within x) Over h = refl
keeps_left Over (Within x) Absent h = refl
keeps_left Over Over Over h = refl
keeps_left Over Over Absent h = refl
keeps_left Over Absent Absent h = refl
keeps_left (Within a) (Within x) (Within y) h = path_of_keeps (a ++ x) (a ++ y) (ap is_le (front_cmp a x y) ∙ h)
keeps_left (Within a) (Within x) Over h = under_over (a ++ x)
keeps_left (Within a) (Within x) Absent h = under_absent (a ++ x)
keeps_left (Within a) Over Over h = refl
keeps_left (Within a) Over Absent h = refl
keeps_left (Within a) Absent Absent h = refl
keeps_left _ _ _ h = cc

keeps_right : (a b c : PathText) → le b c ≡ true → le (path_times b a) (path_times c a) ≡ true
keeps_right (Within a) (Within x) (Within y) h = path_of_keeps (x ++ a) (y ++ a) (ap is_le (back_cmp a x y) ∙ h)
keeps_right (Within a) (Within x) Over h = under_over (x ++ a)
keeps_right (Within a) (Within x) Absent h = under_absent (x ++ a)
keeps_right (Within a) Over Over h = refl
keeps_right (Within a) Over Absent h = refl
keeps_right (Within a) Absent Absent h = refl
keeps_right Over (Within x) (Within y) h = refl
keeps_right Over (Within x) Over h = refl
keeps_right Over (Within x) Absent h = refl
keeps_right Over Over Over h = refl
keeps_right Over Over Absent h = refl
keeps_right Over Absent Absent h = refl
keeps_right Absent (Within x) (Within y) h = refl
keeps_right Absent (Within x) Over h = refl
keeps_right Absent (Within x) Absent h = refl
keeps_right Absent Over Over h = refl
keeps_right Absent Over Absent h = refl
keeps_right Absent Absent Absent h = refl
keeps_right _ _ _ h = cc

pub path_times_plus : (a b c : PathText) → path_times a (path_plus b c) ≡ path_plus (path_times a b) (path_times a c)
path_times_plus a b c = low_through (no_later path_cmp) path_linear (path_times a) (keeps_left a) b c

pub path_plus_times : (a b c : PathText) → path_times (path_plus a b) c ≡ path_plus (path_times a c) (path_times b c)
path_plus_times a b c = low_through (no_later path_cmp) path_linear (λ x. path_times x c) (keeps_right c) a b
