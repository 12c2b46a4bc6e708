-- Value columns as sets: a row brought to its own columns, and to columns that have all of its own.
use Rattle.std.specs.Prelude.{◌≡◌, Bool, true, false, cond, ◌&&◌, ◌||◌, not, [], ◌∷◌, ◌++◌, map, filter}
use Rattle.std.proofs.Common.{refl, sym, ap, ◌∙◌}
use Rattle.std.proofs.lemmas.Bool.{and_from, and_parts}
use Rattle.std.proofs.Math.Bool.{and-false, or-true, or_assoc}
use Rattle.std.specs.List.{list_all}
use Rattle.lara_semiring.specs.declared.value.Value.{Value}
use Rattle.lara_semiring.specs.Values.{value_plus, value_is_zero}
use Rattle.lara_semiring.specs.Rows.{first, rest, row_zero, row_plus, row_is_zero}
use Rattle.lara_data.specs.KeyedTables.{Types, Row, IsKept}
use Rattle.lara_data.specs.declared.table_type.ValCol.{ValCol}
use Rattle.lara_data.specs.TableTypes.{types}
use Rattle.lara_data.specs.Names.{not_true}
use Rattle.lara_data.specs.Vals.{Vals, same_col, same_col_is, same_col_itself, has_col, read_val, brought, brought_plus, brought_zero}

-- no column stands twice
unfoldable pub distinct_cols : Vals → Bool
distinct_cols [] = true
distinct_cols (c ∷ cs) = not (has_col cs c) && distinct_cols cs

-- the row cut to its types, with zero in each column that it lacks
unfoldable pub padded : Types → Row → Row
padded [] r = []
padded (t ∷ ts) r = first t r ∷ padded ts (rest r)

pub plus_padded : (ts : Types) (r s : Row) → row_plus ts (padded ts r) s ≡ row_plus ts r s
unfolding row_plus padded
plus_padded [] r s = refl
plus_padded (t ∷ ts) r s = ap (λ x. value_plus t (first t r) (first t s) ∷ x) (plus_padded ts (rest r) (rest s))

has_col_head : (c : ValCol) (cs : Vals) → has_col (c ∷ cs) c ≡ true
unfolding has_col
has_col_head c cs = ap (λ b. b || has_col cs c) (same_col_itself c)

has_col_tail : (c d : ValCol) (cs : Vals) → has_col cs c ≡ true → has_col (d ∷ cs) c ≡ true
unfolding has_col
has_col_tail c d cs h = ap (λ b. same_col c d || b) h ∙ or-true (same_col c d)

-- each column of cs is among ds
unfoldable pub among_cols : Vals → Vals → Bool
among_cols ds cs = list_all (has_col ds) cs

all_by : (p : ValCol → Bool) (cs : Vals) → ((c : ValCol) → has_col cs c ≡ true → p c ≡ true) → list_all p cs ≡ true
all_by p [] f = refl
all_by p (c ∷ cs) f = and_from (p c) (list_all p cs) (f c (has_col_head c cs)) (all_by p cs (λ d h. f d (has_col_tail d c cs h)))

has_col_append : (cs ds : Vals) (c : ValCol) → has_col (cs ++ ds) c ≡ (has_col cs c || has_col ds c)
unfolding has_col
has_col_append [] ds c = refl
has_col_append (d ∷ cs) ds c = ap (λ b. same_col c d || b) (has_col_append cs ds c) ∙ sym (or_assoc (same_col c d) (has_col cs c) (has_col ds c))

has_col_filter : (p : ValCol → Bool) (cs : Vals) (c : ValCol) → has_col (filter p cs) c ≡ (has_col cs c && p c)
unfolding has_col
has_col_filter p [] c = refl
has_col_filter p (d ∷ cs) c =
    elim (same_col c d) as (λ b. same_col c d ≡ b → has_col (filter p (d ∷ cs)) c ≡ ((b || has_col cs c) && p c)) [
      | true ↦ λ s.
          let is : p d ≡ p c = ap p (sym (same_col_is c d s)) in
          elim (p d) as (λ q. p d ≡ q → has_col (cond q (d ∷ filter p cs) (filter p cs)) c ≡ p c) [
            | true ↦ λ e. ap (λ b. b || has_col (filter p cs) c) s ∙ sym e ∙ is
            | false ↦ λ e. has_col_filter p cs c ∙ ap (λ b. has_col cs c && b) (sym is ∙ e) ∙ and-false (has_col cs c) ∙ sym e ∙ is
          ] refl
      | false ↦ λ s.
          elim (p d) as (λ q. has_col (cond q (d ∷ filter p cs) (filter p cs)) c ≡ (has_col cs c && p c)) [
            | true ↦ ap (λ b. b || has_col (filter p cs) c) s ∙ has_col_filter p cs c
            | false ↦ has_col_filter p cs c
          ]
    ] refl

map_cols : (f g : ValCol → Value) (cs : Vals) → ((c : ValCol) → has_col cs c ≡ true → f c ≡ g c) → map f cs ≡ map g cs
map_cols f g [] h = refl
map_cols f g (c ∷ cs) h = λ i. h c (has_col_head c cs) i ∷ map_cols f g cs (λ d e. h d (has_col_tail d c cs e)) i

skip : (c d : ValCol) (cs : Vals) (v w : Value) → has_col cs c ≡ false → has_col cs d ≡ true → cond (same_col d c) v w ≡ w
skip c d cs v w f h =
    elim (same_col d c) as (λ b. same_col d c ≡ b → cond b v w ≡ w) [
      | true ↦ λ s. let e : has_col cs d ≡ has_col cs c = ap (has_col cs) (same_col_is d c s) in cc
      | false ↦ λ s. refl
    ] refl

-- a row brought to its own columns is the row
pub brought_itself : (cs : Vals) (r : Row) → distinct_cols cs ≡ true → brought cs cs r ≡ padded (types cs) r
unfolding brought read_val padded distinct_cols
brought_itself [] r d = refl
brought_itself (c ∷ cs) r d =
    let fresh = not_true (has_col cs c) (and_parts (not (has_col cs c)) (distinct_cols cs) d).0 in
    let here : cond (same_col c c) (first c.ty r) (read_val cs (rest r) c) ≡ first c.ty r = ap (λ b. cond b (first c.ty r) (read_val cs (rest r) c)) (same_col_itself c) in
    let there : map (λ e. cond (same_col e c) (first c.ty r) (read_val cs (rest r) e)) cs ≡ map (read_val cs (rest r)) cs = map_cols _ _ cs (λ e h. skip c e cs (first c.ty r) (read_val cs (rest r) e) fresh h) in
    λ i. here i ∷ (there ∙ brought_itself cs (rest r) (and_parts (not (has_col cs c)) (distinct_cols cs) d).1) i

-- ---- a row that is not default stays so where no column is left out

zero_columns : (ds cs : Vals) (r : Row) → row_is_zero (types cs) (brought ds cs r) ≡ list_all (λ c. value_is_zero c.ty (read_val ds r c)) cs
unfolding row_is_zero brought
zero_columns ds [] r = refl
zero_columns ds (c ∷ cs) r = ap (λ b. value_is_zero c.ty (read_val ds r c) && b) (zero_columns ds cs r)

padded_is_zero : (ts : Types) (r : Row) → row_is_zero ts (padded ts r) ≡ row_is_zero ts r
unfolding row_is_zero padded
padded_is_zero [] r = refl
padded_is_zero (t ∷ ts) r = ap (λ b. value_is_zero t (first t r) && b) (padded_is_zero ts (rest r))

all_has : (p : ValCol → Bool) (cs : Vals) (c : ValCol) → list_all p cs ≡ true → has_col cs c ≡ true → p c ≡ true
unfolding has_col
all_has p [] c h e = cc
all_has p (d ∷ cs) c h e =
    elim (same_col c d) as (λ b. same_col c d ≡ b → (b || has_col cs c) ≡ true → p c ≡ true) [
      | true ↦ λ s k. ap p (same_col_is c d s) ∙ (and_parts (p d) (list_all p cs) h).0
      | false ↦ λ s k. all_has p cs c (and_parts (p d) (list_all p cs) h).1 k
    ] refl e

all_among : (p : ValCol → Bool) (ds cs : Vals) → among_cols ds cs ≡ true → list_all p ds ≡ true → list_all p cs ≡ true
unfolding among_cols
all_among p ds [] h a = refl
all_among p ds (c ∷ cs) h a = and_from _ _ (all_has p ds c a (and_parts (has_col ds c) (list_all (has_col ds) cs) h).0) (all_among p ds cs (and_parts (has_col ds c) (list_all (has_col ds) cs) h).1 a)

zero_by_brought : (ds cs : Vals) (r : Row) → distinct_cols ds ≡ true → among_cols cs ds ≡ true → row_is_zero (types cs) (brought ds cs r) ≡ true → row_is_zero (types ds) r ≡ true
zero_by_brought ds cs r d a z =
    let p : ValCol → Bool = λ c. value_is_zero c.ty (read_val ds r c) in
    sym (padded_is_zero (types ds) r) ∙ ap (row_is_zero (types ds)) (sym (brought_itself ds r d)) ∙ zero_columns ds ds r
    ∙ all_among p cs ds a (sym (zero_columns ds cs r) ∙ z)

not_by : (p q : Bool) → (p ≡ true → q ≡ true) → q ≡ false → p ≡ false
not_by true q f h = sym (f refl) ∙ h
not_by false q f h = refl

-- a row that a table may keep, brought to columns that have all of its own
pub brought_kept : (ds cs : Vals) (r : Row) → distinct_cols ds ≡ true → among_cols cs ds ≡ true → IsKept (types ds) r → IsKept (types cs) (brought ds cs r)
brought_kept ds cs r d a k = record {
  not_default = not_by (row_is_zero (types cs) (brought ds cs r)) (row_is_zero (types ds) r) (zero_by_brought ds cs r d a) k.not_default;
  within = ap (λ x. row_plus (types cs) x (brought ds cs r)) (sym (brought_zero ds cs)) ∙ sym (brought_plus ds cs (row_zero (types ds)) r) ∙ ap (brought ds cs) k.within;
}

-- each list of columns is among what joins it with others
pub among_left : (cs ds : Vals) → among_cols (cs ++ ds) cs ≡ true
unfolding among_cols
among_left cs ds = all_by (has_col (cs ++ ds)) cs (λ c h. has_left cs ds c h)
  where
    has_left : (cs ds : Vals) (c : ValCol) → has_col cs c ≡ true → has_col (cs ++ ds) c ≡ true
    has_left cs ds c h = has_col_append cs ds c ∙ ap (λ b. b || has_col ds c) h

pub among_all : (cs ds : Vals) → among_cols (cs ++ filter (λ d. not (has_col cs d)) ds) ds ≡ true
unfolding among_cols
among_all cs ds = all_by (has_col (cs ++ filter (λ d. not (has_col cs d)) ds)) ds (λ c h. has_all c h)
  where
    or_not : (p q : Bool) → q ≡ true → (p || (q && not p)) ≡ true
    or_not true q h = refl
    or_not false true h = refl
    or_not false false h = h

    has_all : (c : ValCol) → has_col ds c ≡ true → has_col (cs ++ filter (λ d. not (has_col cs d)) ds) c ≡ true
    has_all c h = has_col_append cs (filter (λ d. not (has_col cs d)) ds) c ∙ ap (λ b. has_col cs c || b) (has_col_filter (λ d. not (has_col cs d)) ds c) ∙ or_not (has_col cs c) (has_col ds c) h
