-- Keys by the names of their columns: a column is read by its name, wherever it stands.
use Rattle.std.specs.Prelude.{◌≡◌, ℕ, Bool, true, false, cond, ◌&&◌, ◌||◌, not, List, [], ◌∷◌, ◌++◌, map, filter, length, if◌then◌else◌}
use Rattle.std.proofs.Common.{refl, sym, ap, ◌∙◌, arith}
use Rattle.std.proofs.lemmas.Bool.{and_from, and_parts}
use Rattle.std.proofs.Math.Bool.{or-true, or_assoc}
use Rattle.std.specs.List.{list_any}
use Rattle.std.specs.Str.{bytes_eq}
use Rattle.std.proofs.lemmas.Slice.Eq.{bytes_eq-Decides}
use Rattle.std.proofs.lemmas.List.{length-map}
use Rattle.lara_data.specs.KeyedTables.{same_key}
use Rattle.lara_key.specs.Keys.{key_cmp}
use Rattle.lara_key.specs.declared.key.KeyVal.{KeyVal}
use Rattle.lara_key.specs.declared.key.KeyVal.TheVariants.{Nat}

-- the bytes of a name
abbrev pub Name : Type 0
Name = List ℕ

-- a key: one value for each key column
abbrev pub Tuple : Type 0
Tuple = List KeyVal

-- the names are one
unfoldable pub same_name : Name → Name → Bool
same_name a b = bytes_eq a b

-- the name is among these
unfoldable pub has : List Name → Name → Bool
has ns n = list_any (same_name n) ns

-- the first column of a key
abbrev pub head : Tuple → KeyVal
head [] = Nat 0
head (v ∷ vs) = v

-- the other columns of a key
abbrev pub tail : Tuple → Tuple
tail [] = []
tail (v ∷ vs) = vs

-- what a key over the columns ns has in the column n
unfoldable pub read : List Name → Tuple → Name → KeyVal
read [] k n = Nat 0
read (m ∷ ms) k n = if same_name n m then head k else read ms (tail k) n

-- a key over the columns ns cut to the columns ms, in their sequence
unfoldable pub cut : List Name → List Name → Tuple → Tuple
cut ns ms k = map (read ns k) ms

-- each name of ms is among ns
unfoldable pub among : List Name → List Name → Bool
among ns [] = true
among ns (m ∷ ms) = has ns m && among ns ms

-- no name stands twice
unfoldable pub distinct : List Name → Bool
distinct [] = true
distinct (n ∷ ns) = not (has ns n) && distinct ns

-- the names of ns that ms has too
unfoldable pub common : List Name → List Name → List Name
common ns ms = filter (has ms) ns

-- the names of ms that ns lacks
unfoldable pub others : List Name → List Name → List Name
others ns ms = filter (λ n. not (has ns n)) ms

-- the two columns have one value
unfoldable pub same_val : KeyVal → KeyVal → Bool
same_val a b = same_key key_cmp a b

-- ---- laws

pub same_name_is : (a b : Name) → same_name a b ≡ true → a ≡ b
unfolding same_name
same_name_is a b e = (bytes_eq-Decides a b).0 e

pub same_name_itself : (a : Name) → same_name a a ≡ true
unfolding same_name
same_name_itself a = (bytes_eq-Decides a a).1 refl

pub or_by : (p q : Bool) → p ≡ false → (p || q) ≡ true → q ≡ true
or_by true q h e = cc
or_by false q h e = e

pub not_true : (p : Bool) → not p ≡ true → p ≡ false
not_true true h = cc
not_true false h = refl

pub has_head : (n : Name) (ns : List Name) → has (n ∷ ns) n ≡ true
unfolding has
has_head n ns = ap (λ b. b || has ns n) (same_name_itself n)

pub has_tail : (n m : Name) (ns : List Name) → has ns n ≡ true → has (m ∷ ns) n ≡ true
unfolding has
has_tail n m ns h = ap (λ b. same_name n m || b) h ∙ or-true (same_name n m)

pub has_among : (ns ms : List Name) (n : Name) → among ns ms ≡ true → has ms n ≡ true → has ns n ≡ true
unfolding among has
has_among ns [] n h e = cc
has_among ns (m ∷ ms) n h e =
    elim (same_name n m) as (λ b. same_name n m ≡ b → has ns n ≡ true) [
      | true ↦ λ s. ap (has ns) (same_name_is n m s) ∙ (and_parts (has ns m) (among ns ms) h).0
      | false ↦ λ s. has_among ns ms n (and_parts (has ns m) (among ns ms) h).1 (or_by (same_name n m) (has ms n) s e)
    ] refl

pub among_by : (ns ms : List Name) → ((n : Name) → has ms n ≡ true → has ns n ≡ true) → among ns ms ≡ true
unfolding among
among_by ns [] f = refl
among_by ns (m ∷ ms) f = and_from (has ns m) (among ns ms) (f m (has_head m ms)) (among_by ns ms (λ n h. f n (has_tail n m ms h)))

pub among_itself : (ns : List Name) → among ns ns ≡ true
among_itself ns = among_by ns ns (λ n h. h)

pub among_trans : (ns ms ls : List Name) → among ns ms ≡ true → among ms ls ≡ true → among ns ls ≡ true
among_trans ns ms ls p q = among_by ns ls (λ n h. has_among ns ms n p (has_among ms ls n q h))

pub has_append : (ns ms : List Name) (n : Name) → has (ns ++ ms) n ≡ (has ns n || has ms n)
unfolding has
has_append [] ms n = refl
has_append (m ∷ ns) ms n = ap (λ b. same_name n m || b) (has_append ns ms n) ∙ sym (or_assoc (same_name n m) (has ns n) (has ms n))

-- a column that was kept reads as before
pub read_cut : (ns ms : List Name) (k : Tuple) (n : Name) → has ms n ≡ true → read ms (cut ns ms k) n ≡ read ns k n
unfolding read cut has
read_cut ns [] k n h = cc
read_cut ns (m ∷ ms) k n h =
    elim (same_name n m) as (λ b. same_name n m ≡ b → cond b (read ns k m) (read ms (map (read ns k) ms) n) ≡ read ns k n) [
      | true ↦ λ s. ap (read ns k) (sym (same_name_is n m s))
      | false ↦ λ s. read_cut ns ms k n (or_by (same_name n m) (has ms n) s h)
    ] refl

pub map_same : {X : Type 0} (f g : Name → X) (ms : List Name) → ((n : Name) → has ms n ≡ true → f n ≡ g n) → map f ms ≡ map g ms
map_same f g [] h = refl
map_same f g (m ∷ ms) h = cc_cons (f m) (g m) (map f ms) (map g ms) (h m (has_head m ms)) (map_same f g ms (λ n e. h n (has_tail n m ms e)))
  where
    cc_cons : {X : Type 0} (x y : X) (xs ys : List X) → x ≡ y → xs ≡ ys → x ∷ xs ≡ y ∷ ys
    cc_cons x y xs ys p q = λ i. p i ∷ q i

-- cut twice is cut once
pub cut_cut : (ns ms ls : List Name) (k : Tuple) → among ms ls ≡ true → cut ms ls (cut ns ms k) ≡ cut ns ls k
unfolding cut
cut_cut ns ms ls k h = map_same (read ms (cut ns ms k)) (read ns k) ls (λ n e. read_cut ns ms k n (has_among ms ls n h e))

pub length_cut : (ns ms : List Name) (k : Tuple) → length (cut ns ms k) ≡ length ms
unfolding cut
length_cut ns ms k = length-map ms (read ns k)

-- a key over two groups of columns
pub read_left : (ns ms : List Name) (x y : Tuple) (n : Name) → length x ≡ length ns → has ns n ≡ true → read (ns ++ ms) (x ++ y) n ≡ read ns x n
unfolding read has
read_left [] ms x y n l h = cc
read_left (m ∷ ns) ms [] y n l h = absurd (omega arith)
read_left (m ∷ ns) ms (v ∷ x) y n l h =
    elim (same_name n m) as (λ b. same_name n m ≡ b → cond b v (read (ns ++ ms) (x ++ y) n) ≡ cond b v (read ns x n)) [
      | true ↦ λ s. refl
      | false ↦ λ s. read_left ns ms x y n (omega arith) (or_by (same_name n m) (has ns n) s h)
    ] refl

pub read_right : (ns ms : List Name) (x y : Tuple) (n : Name) → length x ≡ length ns → has ns n ≡ false → read (ns ++ ms) (x ++ y) n ≡ read ms y n
unfolding read has
read_right [] ms [] y n l h = refl
read_right [] ms (v ∷ x) y n l h = absurd (omega arith)
read_right (m ∷ ns) ms [] y n l h = absurd (omega arith)
read_right (m ∷ ns) ms (v ∷ x) y n l h =
    elim (same_name n m) as (λ b. (b || has ns n) ≡ false → cond b v (read (ns ++ ms) (x ++ y) n) ≡ read ms y n) [
      | true ↦ λ e. cc
      | false ↦ λ e. read_right ns ms x y n (omega arith) e
    ] h

-- a name that is among ns differs from one that is not
pub other_name : (n m : Name) (ns : List Name) → has ns n ≡ false → has ns m ≡ true → same_name m n ≡ false
other_name n m ns f h =
    elim (same_name m n) as (λ b. same_name m n ≡ b → b ≡ false) [
      | true ↦ λ s. let e : has ns m ≡ has ns n = ap (has ns) (same_name_is m n s) in cc
      | false ↦ λ s. refl
    ] refl

-- a name that is among ns is read past a first column whose name is not
pub past_first : (n m : Name) (ns : List Name) (v w : KeyVal) → has ns n ≡ false → has ns m ≡ true → cond (same_name m n) v w ≡ w
past_first n m ns v w f h = ap (λ b. cond b v w) (other_name n m ns f h)

-- a tuple, cut to its own columns in their sequence, is unchanged
pub cut_itself : (ns : List Name) (k : Tuple) → distinct ns ≡ true → length k ≡ length ns → cut ns ns k ≡ k
unfolding cut read distinct
cut_itself [] [] d l = refl
cut_itself [] (v ∷ k) d l = absurd (omega arith)
cut_itself (n ∷ ns) [] d l = absurd (omega arith)
cut_itself (n ∷ ns) (v ∷ k) d l =
    let fresh = not_true (has ns n) (and_parts (not (has ns n)) (distinct ns) d).0 in
    let here : cond (same_name n n) v (read ns k n) ≡ v = ap (λ b. cond b v (read ns k n)) (same_name_itself n) in
    let there : map (λ m. cond (same_name m n) v (read ns k m)) ns ≡ map (read ns k) ns = map_same _ _ ns (λ m h. past_first n m ns v (read ns k m) fresh h) in
    λ i. here i ∷ (there ∙ cut_itself ns k (and_parts (not (has ns n)) (distinct ns) d).1 (omega arith)) i
