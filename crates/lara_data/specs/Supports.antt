-- What a list has at a key, and the keys that its total has.
use Rattle.std.specs.Prelude.{◌≡◌, ℕ, ◌<◌, Bool, true, false, cond, ◌&&◌, ◌||◌, not, List, [], ◌∷◌, ◌++◌, length, map, filter}
use Rattle.std.proofs.Common.{refl, sym, ap, ◌∙◌, arith, zero, suc, get_or}
use Rattle.std.proofs.lemmas.Bool.{and_parts}
use Rattle.std.proofs.Math.Bool.{and-true, or_assoc}
use Rattle.std.specs.List.{list_any}
use Rattle.std.specs.declared.cmp.Ordering.{Ordering}
use Rattle.lara_semiring.specs.Rows.{row_zero, row_plus, row_is_zero, row_zero_is_zero}
use Rattle.lara_data.specs.declared.entry.Keyed.{Keyed}
use Rattle.lara_data.specs.KeyedTables.{IsKeyOrder, Types, Row, same_key, before, at, is_below, AllKept, IsTable, total}
use Rattle.lara_data.specs.KeyedOrderLaws.{same_key_is, after_apart}
use Rattle.lara_data.specs.KeyedLaws.{at_none, at_total, at_first, rest_at, table_rest, first_rising, first_kept, IsTable-total}

-- the sum of rows
unfoldable pub row_sum : Types → List Row → Row
row_sum ts [] = row_zero ts
row_sum ts (r ∷ rs) = row_plus ts r (row_sum ts rs)

module _ {K : Type 0} (R : K → K → Ordering) where
  -- the rows that are listed with the key
  unfoldable pub rows_at : List (Keyed K) → K → List Row
  rows_at es k = map {A = Keyed K} {B = Row} (λ e. e.row) (filter (λ e. same_key R k e.key) es)

  -- some entry has the key
  unfoldable pub has_entry : List (Keyed K) → K → Bool
  has_entry es k = list_any (λ e. same_key R k e.key) es

  -- some entry has the key and a row that is not default
  unfoldable pub has_row : Types → List (Keyed K) → K → Bool
  has_row ts es k = list_any (λ e. same_key R k e.key && not (row_is_zero ts e.row)) es

-- sums of rows of the types are default only where each of them is
pub record IsZeroSumFree (ts : Types) : Type 0 where
  pub sums : (r s : Row) → row_is_zero ts (row_plus ts r s) ≡ (row_is_zero ts r && row_is_zero ts s)

-- ---- laws

-- what a list has at a key is the sum of the rows that are listed with it
pub at_is_sum : {K : Type 0} (R : K → K → Ordering) (ts : Types) (es : List (Keyed K)) (k : K) → at R ts es k ≡ row_sum ts (rows_at R es k)
unfolding at row_sum rows_at
at_is_sum R ts [] k = refl
at_is_sum {K} R ts (e ∷ es) k =
    elim (same_key R k e.key) as (λ b. cond b (row_plus ts e.row (at R ts es k)) (at R ts es k) ≡ row_sum ts (map {A = Keyed K} {B = Row} (λ x. x.row) (cond b (e ∷ filter (λ x. same_key R k x.key) es) (filter (λ x. same_key R k x.key) es)))) [
      | true ↦ ap (row_plus ts e.row) (at_is_sum R ts es k)
      | false ↦ at_is_sum R ts es k
    ]

pub has_row_append : {K : Type 0} (R : K → K → Ordering) (ts : Types) (xs ys : List (Keyed K)) (k : K) → has_row R ts (xs ++ ys) k ≡ (has_row R ts xs k || has_row R ts ys k)
unfolding has_row
has_row_append R ts [] ys k = refl
has_row_append R ts (x ∷ xs) ys k = ap (λ b. (same_key R k x.key && not (row_is_zero ts x.row)) || b) (has_row_append R ts xs ys k) ∙ sym (or_assoc (same_key R k x.key && not (row_is_zero ts x.row)) (has_row R ts xs k) (has_row R ts ys k))

or_both : (b p q : Bool) → not (cond b (p && q) q) ≡ ((b && not p) || not q)
or_both true true q = refl
or_both true false q = refl
or_both false p q = refl

module _ {K : Type 0} {R : K → K → Ordering} (ko : IsKeyOrder R) where
  -- the keys of a table are those at which its row is not default
  pub has_entry_table : (ts : Types) (t : List (Keyed K)) (k : K) → IsTable R ts t → has_entry R t k ≡ not (row_is_zero ts (at R ts t k))
  unfolding has_entry
  has_entry_table ts [] k h = sym (ap (λ r. not (row_is_zero ts r)) (at_none ko ts k) ∙ ap not (row_zero_is_zero ts))
  has_entry_table ts (e ∷ t) k h =
      elim (same_key R k e.key) as (λ b. same_key R k e.key ≡ b → (b || has_entry R t k) ≡ not (row_is_zero ts (at R ts (e ∷ t) k))) [
        | true ↦ λ s.
            let here : at R ts (e ∷ t) k ≡ e.row = ap (at R ts (e ∷ t)) (same_key_is ko k e.key s) ∙ at_first ko ts e t h in
            sym (ap (λ r. not (row_is_zero ts r)) here ∙ ap not (first_kept ko ts e t h.kept).not_default)
        | false ↦ λ s. has_entry_table ts t k (table_rest ko ts e t h) ∙ ap (λ r. not (row_is_zero ts r)) (sym (rest_at ko ts e t k s))
      ] refl

  -- the keys of a total are those at which the sum is not default
  pub has_entry_total : (ts : Types) (es : List (Keyed K)) (k : K) → has_entry R (total R ts es) k ≡ not (row_is_zero ts (at R ts es k))
  has_entry_total ts es k = has_entry_table ts (total R ts es) k (IsTable-total ko ts es) ∙ ap (λ r. not (row_is_zero ts r)) (at_total ko ts es k)

  below_at : (k : K) (t : List (Keyed K)) (i : ℕ) (d : Keyed K) → is_below R k t ≡ true → i < length t → before R k (get_or t i d).key ≡ true
  unfolding is_below
  below_at k [] i d h l = absurd (omega arith)
  below_at k (e ∷ t) zero d h l = (and_parts (before R k e.key) (is_below R k t) h).0
  below_at k (e ∷ t) (suc i) d h l = below_at k t i d (and_parts (before R k e.key) (is_below R k t) h).1 (omega arith)

  -- a table has at the key of each entry the entry's row
  pub at_entry : (ts : Types) (t : List (Keyed K)) (i : ℕ) (d : Keyed K) → IsTable R ts t → i < length t → at R ts t (get_or t i d).key ≡ (get_or t i d).row
  at_entry ts [] i d h l = absurd (omega arith)
  at_entry ts (e ∷ t) zero d h l = at_first ko ts e t h
  at_entry ts (e ∷ t) (suc i) d h l =
      rest_at ko ts e t (get_or t i d).key (after_apart ko e.key (get_or t i d).key (below_at e.key t i d (first_rising ko e t h.rising) (omega arith)))
      ∙ at_entry ts t i d (table_rest ko ts e t h) (omega arith)

  not_zero_at : (ts : Types) (es : List (Keyed K)) (k : K) → IsZeroSumFree ts → not (row_is_zero ts (at R ts es k)) ≡ has_row R ts es k
  unfolding has_row at
  not_zero_at ts [] k z = ap not (row_zero_is_zero ts)
  not_zero_at ts (e ∷ es) k z =
      ap not (elim (same_key R k e.key) as (λ b. row_is_zero ts (cond b (row_plus ts e.row (at R ts es k)) (at R ts es k)) ≡ cond b (row_is_zero ts e.row && row_is_zero ts (at R ts es k)) (row_is_zero ts (at R ts es k))) [ true ↦ z.sums e.row (at R ts es k) | false ↦ refl ])
      ∙ or_both (same_key R k e.key) (row_is_zero ts e.row) (row_is_zero ts (at R ts es k))
      ∙ ap (λ b. (same_key R k e.key && not (row_is_zero ts e.row)) || b) (not_zero_at ts es k z)

  -- without sums that cancel, a total has each key that is listed with a row that is not default
  pub has_entry_total_free : (ts : Types) (es : List (Keyed K)) (k : K) → IsZeroSumFree ts → has_entry R (total R ts es) k ≡ has_row R ts es k
  has_entry_total_free ts es k z = has_entry_total ts es k ∙ not_zero_at ts es k z

  -- where no row is default, these are all keys that are listed
  pub has_row_kept : (ts : Types) (es : List (Keyed K)) (k : K) → AllKept ts es → has_row R ts es k ≡ has_entry R es k
  unfolding has_row has_entry AllKept
  has_row_kept ts [] k h = refl
  has_row_kept ts (e ∷ es) k h =
      (λ i. (same_key R k e.key && not (h.0.not_default i)) || has_row_kept ts es k h.1 i) ∙ ap (λ b. b || has_entry R es k) (and-true (same_key R k e.key))
