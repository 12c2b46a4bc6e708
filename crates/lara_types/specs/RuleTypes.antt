-- What meets the rules of an operator has the type that they give.
use Rattle.std.specs.Prelude.{◌≡◌, ◌&&◌, cond, List, Ok, Err}
use Rattle.std.proofs.Common.{ap, ◌∙◌}
use Rattle.lara_base.specs.Results.{◌>>=◌}
use Rattle.lara_data.specs.declared.arg.Def.{Def}
use Rattle.lara_data.specs.declared.arg.KeyDef.{KeyDef}
use Rattle.lara_data.specs.declared.arg.NamePair.{NamePair}
use Rattle.lara_data.specs.declared.expr.Expr.{Expr}
use Rattle.lara_data.specs.declared.expr_val.ExprType.TheVariants.{Flag}
use Rattle.lara_data.specs.declared.order.EachOp.TheVariants as each
use Rattle.lara_data.specs.declared.refusal.Kind.TheVariants.{NoName, NameTwice, TooManyColumns, TypesDiffer, NoCommonValue, NotAKey}
use Rattle.lara_data.specs.Algebra.{common_vals, join_columns, union_columns, agg_columns}
use Rattle.lara_data.specs.ExprLaws.{expr_only, same_expr_type_itself}
use Rattle.lara_data.specs.ExprTypes.{key_expr_type, same_expr_type, expr_type}
use Rattle.lara_data.specs.ExtensionLaws.{IsMap, IsFilter, IsPromote, IsRename}
use Rattle.lara_data.specs.Extensions.{each_columns, renamed_columns}
use Rattle.lara_data.specs.Names.{Name, distinct}
use Rattle.lara_data.specs.TableTypes.{Columns}
use Rattle.lara_data.specs.TypeRules.{Typing, is_none, few_enough, join_type, union_type, agg_type, def_types, map_fits, map_type, filter_type, promote_fits, promote_type, old_names, names_of, rename_type}
use Rattle.lara_data.specs.TypeRuleLaws.{IsJoin, IsUnion, IsAgg}

-- the rules give these columns
abbrev given : Columns → Typing
given c = Ok c

pub is_join_type : (a b c : Columns) → IsJoin a b c → join_type a b ≡ Ok c
unfolding join_type
is_join_type a b c h =
    (λ i. cond (h.agree i) (Err TypesDiffer) (cond (is_none (common_vals a.vals b.vals)) (Err NoCommonValue) (few_enough (join_columns a b))))
    ∙ (λ i. cond (h.some i) (Err NoCommonValue) (few_enough (join_columns a b)))
    ∙ (λ i. cond (h.few i) (Err TooManyColumns) (given (join_columns a b)))
    ∙ ap given h.is

pub is_union_type : (a b c : Columns) → IsUnion a b c → union_type a b ≡ Ok c
unfolding union_type
is_union_type a b c h =
    (λ i. cond (h.agree i) (Err TypesDiffer) (few_enough (union_columns a b)))
    ∙ (λ i. cond (h.few i) (Err TooManyColumns) (given (union_columns a b)))
    ∙ ap given h.is

pub is_agg_type : (a : Columns) (ks : List Name) (c : Columns) → IsAgg a ks c → agg_type a ks ≡ Ok c
unfolding agg_type
is_agg_type a ks c h =
    (λ i. cond (h.keys i) (cond (distinct ks) (given (agg_columns a ks)) (Err NameTwice)) (Err NotAKey))
    ∙ (λ i. cond (h.once i) (given (agg_columns a ks)) (Err NameTwice))
    ∙ ap given h.is

pub is_map_type : (a : Columns) (ds : List Def) (c : Columns) → IsMap a ds c → map_type a ds ≡ Ok c
unfolding map_type
is_map_type a ds c h =
    (λ i. cond (h.once i) (def_types a ds >>= map_fits a ds) (Err NameTwice))
    ∙ (λ i. h.typed i >>= map_fits a ds)
    ∙ (λ i. cond (h.fit i) (few_enough (each_columns (each.Map ds) a)) (Err TypesDiffer))
    ∙ (λ i. cond (h.few i) (Err TooManyColumns) (given (each_columns (each.Map ds) a)))
    ∙ ap given h.is

pub is_filter_type : (a : Columns) (e : Expr) (c : Columns) → IsFilter a e c → filter_type a e ≡ Ok c
unfolding filter_type
is_filter_type a e c h = (λ i. expr_only a e Flag h.test i >>= λ t. cond (same_expr_type t Flag) (given a) (Err TypesDiffer)) ∙ ap given h.is

pub is_promote_type : (a : Columns) (d : KeyDef) (c : Columns) → IsPromote a d c → promote_type a d ≡ Ok c
unfolding promote_type
is_promote_type a d c h =
    (λ i. cond (h.fresh i) (Err NameTwice) (expr_type a d.expr >>= promote_fits a d))
    ∙ (λ i. expr_only a d.expr (key_expr_type d.col.ty) h.typed i >>= promote_fits a d)
    ∙ (λ i. cond (same_expr_type_itself (key_expr_type d.col.ty) i) (few_enough (each_columns (each.Promote d) a)) (Err TypesDiffer))
    ∙ (λ i. cond (h.few i) (Err TooManyColumns) (given (each_columns (each.Promote d) a)))
    ∙ ap given h.is

pub is_rename_type : (a : Columns) (ps : List NamePair) (c : Columns) → IsRename a ps c → rename_type a ps ≡ Ok c
unfolding rename_type
is_rename_type a ps c h =
    (λ i. cond (h.olds i) (cond (distinct (old_names ps) && distinct (names_of (renamed_columns ps a))) (given (renamed_columns ps a)) (Err NameTwice)) (Err NoName))
    ∙ (λ i. cond (h.once i && h.apart i) (given (renamed_columns ps a)) (Err NameTwice))
    ∙ ap given h.is
