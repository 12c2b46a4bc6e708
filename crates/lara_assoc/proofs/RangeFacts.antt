-- A row is over where a column is.
use Rattle.std.proofs.Common.{◌≡◌, ℕ, ◌<◌, ◌+◌, true, false, List, [], ◌∷◌, length, take, refl, ap, sym, ◌∙◌, arith, suc, zero, get_or, add-one}
use Rattle.std.proofs.Math.Bool.{or-false, or-true, or_assoc}
use Rattle.std.proofs.lemmas.Bool.{and_parts}
use Rattle.std.specs.Prelude.{◌||◌}
use Rattle.lara_semiring.specs.declared.value.Value.{Value}
use Rattle.lara_semiring.specs.Values.{has_type, value_is_over}
use Rattle.lara_semiring.specs.Rows.{row_has, row_is_over}
use Rattle.lara_data.specs.declared.table_type.ValCol.{ValCol}
use Rattle.lara_data.specs.TableTypes.{types}

pub row_long : (cs : List ValCol) (row : List Value) → row_has (types cs) row ≡ true → length row ≡ length cs
unfolding row_has
row_long [] [] h = refl
row_long [] (v ∷ row) h = cc
row_long (c ∷ cs) [] h = cc
row_long (c ∷ cs) (v ∷ row) h = ap suc (row_long cs row (and_parts (has_type c.ty v) (row_has (types cs) row) h).1)

pub row_has_at : (cs : List ValCol) (row : List Value) (i : ℕ) (d : ValCol) (x : Value) → row_has (types cs) row ≡ true → i < length cs → has_type (get_or cs i d).ty (get_or row i x) ≡ true
unfolding row_has
row_has_at [] row i d x h l = absurd (omega arith)
row_has_at (c ∷ cs) [] i d x h l = cc
row_has_at (c ∷ cs) (v ∷ row) zero d x h l = (and_parts (has_type c.ty v) (row_has (types cs) row) h).0
row_has_at (c ∷ cs) (v ∷ row) (suc i) d x h l = row_has_at cs row i d x (and_parts (has_type c.ty v) (row_has (types cs) row) h).1 (omega arith)

over_more : (cs : List ValCol) (row : List Value) (i : ℕ) (d : ValCol) (x : Value) → row_has (types cs) row ≡ true → i < length cs → row_is_over (types (take (suc i) cs)) row ≡ (row_is_over (types (take i cs)) row || value_is_over (get_or cs i d).ty (get_or row i x))
unfolding row_has row_is_over
over_more [] row i d x h l = absurd (omega arith)
over_more (c ∷ cs) [] i d x h l = cc
over_more (c ∷ cs) (v ∷ row) zero d x h l = or-false (value_is_over c.ty v)
over_more (c ∷ cs) (v ∷ row) (suc i) d x h l =
    ap (λ b. value_is_over c.ty v || b) (over_more cs row i d x (and_parts (has_type c.ty v) (row_has (types cs) row) h).1 (omega arith))
    ∙ sym (or_assoc (value_is_over c.ty v) (row_is_over (types (take i cs)) row) (value_is_over (get_or cs i d).ty (get_or row i x)))

over_at : (cs : List ValCol) (row : List Value) (i : ℕ) (d : ValCol) (x : Value) → row_has (types cs) row ≡ true → i < length cs → value_is_over (get_or cs i d).ty (get_or row i x) ≡ true → row_is_over (types cs) row ≡ true
unfolding row_has row_is_over
over_at [] row i d x h l o = absurd (omega arith)
over_at (c ∷ cs) [] i d x h l o = cc
over_at (c ∷ cs) (v ∷ row) zero d x h l o = ap (λ b. b || row_is_over (types cs) row) o
over_at (c ∷ cs) (v ∷ row) (suc i) d x h l o =
    ap (λ b. value_is_over c.ty v || b) (over_at cs row i d x (and_parts (has_type c.ty v) (row_has (types cs) row) h).1 (omega arith) o) ∙ or-true (value_is_over c.ty v)

-- a column that is over settles the row
pub over_found : (cs : List ValCol) (row : List Value) (i : ℕ) (d : ValCol) (x : Value) → row_has (types cs) row ≡ true → i < length cs → d ≡ get_or cs i d → true ≡ value_is_over d.ty (get_or row i x) → true ≡ row_is_over (types cs) row
over_found cs row i d x h l is o = sym (over_at cs row i d x h l (ap (λ (c : ValCol). value_is_over c.ty (get_or row i x)) (sym is) ∙ sym o))

pub over_none : (row : List Value) → row_is_over [] row ≡ false
unfolding row_is_over
over_none row = refl

-- a turn of the loop over the columns
pub over_step : (cs : List ValCol) (row : List Value) (i : ℕ) (d : ValCol) (x : Value) → row_has (types cs) row ≡ true → i < length cs → d ≡ get_or cs i d → false ≡ value_is_over d.ty (get_or row i x) → row_is_over (types (take i cs)) row ≡ false → row_is_over (types (take (i + 1) cs)) row ≡ false
over_step cs row i d x h l is o so_far =
    let here : value_is_over (get_or cs i d).ty (get_or row i x) ≡ false = ap (λ (c : ValCol). value_is_over c.ty (get_or row i x)) (sym is) ∙ sym o in
    rw add-one (over_more cs row i d x h l ∙ (λ k. so_far k || here k))

pub ruleset over_facts = (row_long, row_has_at, over_found, over_none, over_step)
