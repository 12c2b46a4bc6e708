-- The columns of stored tables, type by type.
use Rattle.std.specs.Prelude.{◌≡◌, ◌<◌, ◌+◌, ℕ, true, List, [], ◌∷◌, ◌++◌, take, length}
use Rattle.std.proofs.Common.{get_or, add-one}
use Rattle.std.proofs.Math.Seq.{take-suc}
use Rattle.lara_data.specs.declared.schema.Schema.{Schema}
use Rattle.lara_data.specs.TableTypes.{are_columns}
use Rattle.lara_types.specs.StoredTypes.{AllColumns}

pub columns_none : AllColumns []
unfolding AllColumns
columns_none = tt

columns_last : (ss : List Schema) (s : Schema) → AllColumns ss → are_columns s.ty.keys s.ty.vals ≡ true → AllColumns (ss ++ s ∷ [])
unfolding AllColumns
columns_last [] s all h = (h, tt)
columns_last (x ∷ ss) s all h = (all.0, columns_last ss s all.1 h)

-- one type more
pub columns_more : (ss : List Schema) (i : ℕ) (s : Schema) → i < length ss → s ≡ get_or ss i s → AllColumns (take i ss) → are_columns s.ty.keys s.ty.vals ≡ true → AllColumns (take (i + 1) ss)
columns_more ss i s within here all h = rw (add-one, take-suc ss i s within, ← here) (columns_last (take i ss) s all h)
