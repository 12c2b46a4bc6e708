-- A row is over where a column is, as a loop over the columns finds it.
use Rattle.std.specs.Prelude.{◌≡◌, ℕ, true, false, ◌||◌, List, [], ◌∷◌, length, take, ◌<◌, ◌≤◌, ◌+◌}
use Rattle.std.proofs.Common.{refl, ap, sym, ◌∙◌, arith, zero, suc, get_or, add-one}
use Rattle.std.proofs.Math.Bool.{or-false, or_assoc}
use Rattle.std.proofs.lemmas.List.{take_all}
use Rattle.lara_semiring.specs.declared.value.ValType.{ValType}
use Rattle.lara_semiring.specs.declared.value.Value.{Value}
use Rattle.lara_semiring.specs.Values.{value_is_over}
use Rattle.lara_semiring.specs.Rows.{row_has, row_is_over, row_has_length, row_is_over_at}

-- one more column
row_is_over_more : (ts : List ValType) (a : List Value) (i : ℕ) (d : ValType) (x : Value) → i < length ts → i < length a → row_is_over (take (suc i) ts) a ≡ (row_is_over (take i ts) a || value_is_over (get_or ts i d) (get_or a i x))
unfolding row_is_over
row_is_over_more [] a i d x l m = absurd (omega arith)
row_is_over_more (t ∷ ts) [] i d x l m = absurd (omega arith)
row_is_over_more (t ∷ ts) (v ∷ a) zero d x l m = or-false (value_is_over t v)
row_is_over_more (t ∷ ts) (v ∷ a) (suc i) d x l m = rw (row_is_over_more ts a i d x (omega arith) (omega arith)) (sym (or_assoc (value_is_over t v) _ _))

-- one more column that is not over, where us and b are what the columns are read from
pub row_is_over_step : (ts us : List ValType) (a b : List Value) (i : ℕ) (t : ValType) (v : Value) → us ≡ ts → b ≡ a → row_has ts a ≡ true → i < length ts → v ≡ get_or b i v → value_is_over (get_or us i t) v ≡ false → row_is_over (take i ts) a ≡ false → row_is_over (take (i + 1) ts) a ≡ false
row_is_over_step ts us a b i t v read columns p l at is before =
    let m : i < length a = omega (arith, row_has_length ts a p) in
    let here : value_is_over (get_or ts i t) (get_or a i v) ≡ false = cc in
    rw add-one (row_is_over_more ts a i t v l m ∙ (λ k. before k || here k))

-- a column that is over, where us and b are what the columns are read from
pub row_is_over_stop : (ts us : List ValType) (a b : List Value) (i : ℕ) (t : ValType) (v : Value) → us ≡ ts → b ≡ a → row_has ts a ≡ true → i < length ts → v ≡ get_or b i v → value_is_over (get_or us i t) v ≡ true → true ≡ row_is_over ts a
row_is_over_stop ts us a b i t v read columns p l at is =
    let m : i < length a = omega (arith, row_has_length ts a p) in
    let here : value_is_over (get_or ts i t) (get_or a i v) ≡ true = cc in
    sym (row_is_over_at ts a i t v l m here)

-- all columns were looked at
pub row_is_over_end : (ts : List ValType) (a : List Value) (i : ℕ) → length ts ≤ i → row_is_over (take i ts) a ≡ false → false ≡ row_is_over ts a
row_is_over_end ts a i l h = sym h ∙ ap (λ us. row_is_over us a) (take_all i ts l)

pub row_is_over_none : (a : List Value) → row_is_over [] a ≡ false
unfolding row_is_over
row_is_over_none a = refl
