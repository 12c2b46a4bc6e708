use Rattle.std.proofs.Common.{[], ◌∷◌, refl, sym, subst}
use Rattle.lara_key.specs.declared.key.KeyType.TheVariants.{Nat}
use Rattle.lara_semiring.specs.declared.value.ValType.TheVariants.{Count}
use Rattle.lara_data.specs.declared.order.EachOp.{EachOp}
use Rattle.lara_data.specs.TableTypes.{Columns}
use Rattle.lara_data.specs.Names.{same_name, has, among, distinct}
use Rattle.lara_data.specs.ExprTypes.{expr_type, key_column_type, val_column_type}
use Rattle.lara_data.specs.Extensions.{each_columns}
use Rattle.lara_data.specs.TypeRules.{too_many, def_types, defs_fit, map_type, filter_type, promote_type, EachTyped}
use Rattle.lara_assoc.proofs.tests_extensions.promoted.Goals as goal

-- i: nat : v: count
abbrev columns : Columns
columns = record { keys = record { name = 105 ∷ []; ty = Nat } ∷ []; vals = record { name = 118 ∷ []; ty = Count } ∷ [] }

pub ext-requires : goal.ext-requires
unfolding map_type filter_type promote_type too_many def_types defs_fit expr_type key_column_type val_column_type each_columns same_name has among distinct Rattle.lara_data.specs.declared.expr.Expr.TheBlock.hidden-the_row-Expr-0 denote.Hole.Carrier.hidden
ext-requires c =
    subst (λ (t : Columns). EachTyped t c.in_ok-op.op (each_columns c.in_ok-op.op t)) (sym c.in_ok-a.ensures)
    (subst (λ (op : EachOp). EachTyped columns op (each_columns op columns)) (sym c.in_ok-op.ensures) refl)
