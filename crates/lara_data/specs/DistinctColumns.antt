-- The columns of a table's type are distinct.
use Rattle.std.specs.Prelude.{◌≡◌, true, false, ◌&&◌, ◌||◌, not, List, [], ◌∷◌, length, nat_le}
use Rattle.std.proofs.Common.{refl, ap}
use Rattle.std.proofs.lemmas.Bool.{and_from, and_left, and_parts, or_parts}
use Rattle.lara_semiring.specs.Values.{same_val_type}
use Rattle.lara_data.specs.declared.table_type.KeyCol.{KeyCol}
use Rattle.lara_data.specs.declared.table_type.ValCol.{ValCol}
use Rattle.lara_data.specs.TableTypes.{key_names, val_names, column_names, are_columns, most_columns}
use Rattle.lara_data.specs.Names.{same_name, has, distinct, not_true}
use Rattle.lara_data.specs.DistinctNames.{distinct_left, distinct_right}
use Rattle.lara_data.specs.Vals.{Vals, same_col, has_col}
use Rattle.lara_data.specs.ValSets.{distinct_cols}

-- a column whose name no value column has is none of them
has_col_by : (c : ValCol) (cs : Vals) → has (val_names cs) c.name ≡ false → has_col cs c ≡ false
unfolding has_col same_col has
has_col_by c [] h = refl
has_col_by c (d ∷ cs) h =
    let p = or_parts (same_name c.name d.name) (has (val_names cs) c.name) h in
    λ i. and_left (same_name c.name d.name) (same_val_type c.ty d.ty) p.0 i || has_col_by c cs p.1 i

-- value columns of distinct names are distinct
distinct_cols_by : (vals : Vals) → distinct (val_names vals) ≡ true → distinct_cols vals ≡ true
unfolding distinct distinct_cols
distinct_cols_by [] h = refl
distinct_cols_by (v ∷ vals) h =
    let p = and_parts (not (has (val_names vals) v.name)) (distinct (val_names vals)) h in
    and_from (not (has_col vals v)) (distinct_cols vals) (ap not (has_col_by v vals (not_true (has (val_names vals) v.name) p.0))) (distinct_cols_by vals p.1)

module _ (keys : List KeyCol) (vals : Vals) (h : are_columns keys vals ≡ true) where
  -- no name stands twice
  pub distinct_names : distinct (column_names keys vals) ≡ true
  unfolding are_columns
  distinct_names = (and_parts (nat_le (length keys) most_columns && nat_le 1 (length vals) && nat_le (length vals) most_columns) (distinct (column_names keys vals)) h).1

  -- nor does one of the key columns'
  pub distinct_key_names : distinct (key_names keys) ≡ true
  distinct_key_names = distinct_left (key_names keys) (val_names vals) distinct_names

  -- nor one of the value columns'
  pub distinct_val_names : distinct (val_names vals) ≡ true
  distinct_val_names = distinct_right (key_names keys) (val_names vals) distinct_names

  -- the value columns are distinct
  pub distinct_val_cols : distinct_cols vals ≡ true
  distinct_val_cols = distinct_cols_by vals distinct_val_names
