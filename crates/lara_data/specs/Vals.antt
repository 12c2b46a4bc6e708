-- Rows by the names of their columns.
use Rattle.std.specs.Prelude.{◌≡◌, Bool, true, false, cond, ◌&&◌, List, [], ◌∷◌, map, if◌then◌else◌}
use Rattle.std.proofs.Common.{refl, sym, ap, ◌∙◌}
use Rattle.std.proofs.lemmas.Bool.{and_from, and_parts}
use Rattle.std.specs.List.{list_any}
use Rattle.lara_semiring.specs.declared.value.ValType.{ValType}
use Rattle.lara_semiring.specs.declared.value.Value.{Value}
use Rattle.lara_semiring.specs.Values.{same_val_type, same_val_type_is, same_val_type_itself, has_type, value_zero, value_plus, value_zero_plus, value_zero_is}
use Rattle.lara_semiring.specs.Rows.{first, rest, row_has, row_zero, row_plus, row_zero_plus_plus, row_zero_twice}
use Rattle.lara_semiring.specs.Products.{row_times, row_times_plus, row_plus_times, row_times_zero, row_zero_times, row_zero_plus_times}
use Rattle.lara_data.specs.KeyedTables.{Types, Row}
use Rattle.lara_data.specs.Builders.{IsLinear}
use Rattle.lara_data.specs.declared.table_type.ValCol.{ValCol}
use Rattle.lara_data.specs.TableTypes.{types}
use Rattle.lara_data.specs.Names.{same_name, same_name_is, same_name_itself}

-- value columns
abbrev pub Vals : Type 0
Vals = List ValCol

-- the columns are one: a value column is its name with its type, so that one of another type is another column; where
-- types are checked no two tables of an operation have value columns of one name and two types
unfoldable pub same_col : ValCol → ValCol → Bool
same_col a b = same_name a.name b.name && same_val_type a.ty b.ty

-- the column is among these
unfoldable pub has_col : Vals → ValCol → Bool
has_col ds c = list_any (same_col c) ds

-- what a row over the columns ds has in the column c, which is zero where there is none
unfoldable pub read_val : Vals → Row → ValCol → Value
read_val [] r c = value_zero c.ty
read_val (d ∷ ds) r c = if same_col c d then first d.ty r else read_val ds (rest r) c

-- a row over the columns ds brought to the columns cs: each column that cs lacks is left out, and each that ds lacks
-- is zero
unfoldable pub brought : Vals → Vals → Row → Row
brought ds cs r = map (read_val ds r) cs

-- ---- laws

pub same_col_is : (a b : ValCol) → same_col a b ≡ true → a ≡ b
unfolding same_col
same_col_is a b e =
    let n = same_name_is a.name b.name (and_parts (same_name a.name b.name) (same_val_type a.ty b.ty) e).0 in
    let t = same_val_type_is a.ty b.ty (and_parts (same_name a.name b.name) (same_val_type a.ty b.ty) e).1 in
    λ i. record { name = n i; ty = t i }

pub same_col_itself : (a : ValCol) → same_col a a ≡ true
unfolding same_col
same_col_itself a = and_from _ _ (same_name_itself a.name) (same_val_type_itself a.ty)

pub zero_zero : (t : ValType) → value_plus t (value_zero t) (value_zero t) ≡ value_zero t
zero_zero t = value_zero_plus t (value_zero t) (value_zero_is t)

first_of_type : (s t : ValType) (r q : Row) → s ≡ t → value_plus s (first s r) (first s q) ≡ value_plus t (first s r) (first s q)
first_of_type s t r q e = ap (λ x. value_plus x (first s r) (first s q)) e

read_plus : (ds : Vals) (r q : Row) (c : ValCol) → read_val ds (row_plus (types ds) r q) c ≡ value_plus c.ty (read_val ds r c) (read_val ds q c)
unfolding read_val row_plus
read_plus [] r q c = sym (zero_zero c.ty)
read_plus (d ∷ ds) r q c =
    elim (same_col c d) as (λ b. same_col c d ≡ b → cond b (value_plus d.ty (first d.ty r) (first d.ty q)) (read_val ds (row_plus (types ds) (rest r) (rest q)) c) ≡ value_plus c.ty (cond b (first d.ty r) (read_val ds (rest r) c)) (cond b (first d.ty q) (read_val ds (rest q) c))) [
      | true ↦ λ s. first_of_type d.ty c.ty r q (sym (ap (λ x. x.ty) (same_col_is c d s)))
      | false ↦ λ s. read_plus ds (rest r) (rest q) c
    ] refl

read_zero : (ds : Vals) (c : ValCol) → read_val ds (row_zero (types ds)) c ≡ value_zero c.ty
unfolding read_val row_zero
read_zero [] c = refl
read_zero (d ∷ ds) c =
    elim (same_col c d) as (λ b. same_col c d ≡ b → cond b (value_zero d.ty) (read_val ds (row_zero (types ds)) c) ≡ value_zero c.ty) [
      | true ↦ λ s. ap value_zero (sym (ap (λ x. x.ty) (same_col_is c d s)))
      | false ↦ λ s. read_zero ds c
    ] refl

pub brought_plus : (ds cs : Vals) (r q : Row) → brought ds cs (row_plus (types ds) r q) ≡ row_plus (types cs) (brought ds cs r) (brought ds cs q)
unfolding brought row_plus
brought_plus ds [] r q = refl
brought_plus ds (c ∷ cs) r q = λ i. read_plus ds r q c i ∷ brought_plus ds cs r q i

pub brought_zero : (ds cs : Vals) → brought ds cs (row_zero (types ds)) ≡ row_zero (types cs)
unfolding brought row_zero
brought_zero ds [] = refl
brought_zero ds (c ∷ cs) = λ i. read_zero ds c i ∷ brought_zero ds cs i

-- to bring rows to other columns goes through sums, whatever the columns
pub brought_linear : (ds cs : Vals) → IsLinear (types ds) (types cs) (brought ds cs)
brought_linear ds cs = record {
  none = ap (row_plus (types cs) (row_zero (types cs))) (brought_zero ds cs) ∙ row_zero_twice (types cs);
  plus = λ r q. ap (row_plus (types cs) (row_zero (types cs))) (brought_plus ds cs r q) ∙ row_zero_plus_plus (types cs) (brought ds cs r) (brought ds cs q);
}

-- a product with a row on the right, and with one on the left, goes through sums
pub times_left_linear : (ds cs : Vals) (w : Row) → IsLinear (types ds) (types cs) (λ r. row_times (types cs) (brought ds cs r) w)
times_left_linear ds cs w =
    let us = types cs in
    record {
      none = ap (λ x. row_plus us (row_zero us) (row_times us x w)) (brought_zero ds cs) ∙ row_zero_plus_times us (row_zero us) w ∙ row_zero_times us w;
      plus = λ r q. row_zero_plus_times us (brought ds cs (row_plus (types ds) r q)) w ∙ ap (λ x. row_times us x w) (brought_plus ds cs r q) ∙ row_plus_times us (brought ds cs r) (brought ds cs q) w;
    }

pub times_right_linear : (ds cs : Vals) (w : Row) → IsLinear (types ds) (types cs) (λ r. row_times (types cs) w (brought ds cs r))
times_right_linear ds cs w =
    let us = types cs in
    record {
      none = ap (λ x. row_plus us (row_zero us) (row_times us w x)) (brought_zero ds cs) ∙ row_zero_plus_times us w (row_zero us) ∙ row_times_zero us w;
      plus = λ r q. row_zero_plus_times us w (brought ds cs (row_plus (types ds) r q)) ∙ ap (row_times us w) (brought_plus ds cs r q) ∙ row_times_plus us w (brought ds cs r) (brought ds cs q);
    }

-- ---- rows of the types

first_has : (t : ValType) (ts : Types) (r : Row) → row_has (t ∷ ts) r ≡ true → has_type t (first t r) ≡ true
unfolding row_has
first_has t ts [] h = cc
first_has t ts (v ∷ vs) h = (and_parts (has_type t v) (row_has ts vs) h).0

rest_has : (t : ValType) (ts : Types) (r : Row) → row_has (t ∷ ts) r ≡ true → row_has ts (rest r) ≡ true
unfolding row_has
rest_has t ts [] h = cc
rest_has t ts (v ∷ vs) h = (and_parts (has_type t v) (row_has ts vs) h).1

read_val_has : (ds : Vals) (r : Row) (c : ValCol) → row_has (types ds) r ≡ true → has_type c.ty (read_val ds r c) ≡ true
unfolding read_val
read_val_has [] r c h = value_zero_is c.ty
read_val_has (d ∷ ds) r c h =
    elim (same_col c d) as (λ b. same_col c d ≡ b → has_type c.ty (cond b (first d.ty r) (read_val ds (rest r) c)) ≡ true) [
      | true ↦ λ s. ap (λ t. has_type t (first d.ty r)) (ap (λ x. x.ty) (same_col_is c d s)) ∙ first_has d.ty (types ds) r h
      | false ↦ λ s. read_val_has ds (rest r) c (rest_has d.ty (types ds) r h)
    ] refl

-- a row of the types is brought to one of the types
pub brought_has : (ds cs : Vals) (r : Row) → row_has (types ds) r ≡ true → row_has (types cs) (brought ds cs r) ≡ true
unfolding brought row_has
brought_has ds [] r h = refl
brought_has ds (c ∷ cs) r h = and_from _ _ (read_val_has ds r c h) (brought_has ds cs r h)
