-- Maps, filters, promotes, renames and their expressions worked out by hand: each shows which rule comes first, and where it
-- is broken.
use Rattle.std.specs.Prelude.{◌≡◌, ◌+◌, ◌-◌, ◌^◌, ℕ, List, [], ◌∷◌, None, Ok}
use Rattle.std.proofs.Common.{refl}
use Rattle.lara_key.specs.declared.key.KeyType.TheVariants as key_type
use Rattle.lara_semiring.specs.declared.value.ValType.{ValType}
use Rattle.lara_semiring.specs.declared.value.ValType.TheVariants as val_type
use Rattle.lara_data.specs.declared.expr.Expr.TheVariants as expr
use Rattle.lara_data.specs.declared.expr.FunOp.TheVariants as fun
use Rattle.lara_data.specs.declared.expr.TwoOp.{TwoOp}
use Rattle.lara_data.specs.declared.expr.TwoOp.TheVariants as two
use Rattle.lara_data.specs.declared.expr_val.ExprType.TheVariants as type
use Rattle.lara_data.specs.declared.refusal.Kind.TheVariants.{NoName, NameTwice, TypesDiffer, TooManyColumns}
use Rattle.lara_data.specs.ExprTypes.{key_column_type, val_column_type, expr_type}
use Rattle.lara_data.specs.Extensions.{each_columns, new_name, renamed_columns}
use Rattle.lara_data.specs.Names.{Name, same_name, has, distinct}
use Rattle.lara_data.specs.TableTypes.{Columns, are_columns}
use Rattle.lara_syntax.specs.declared.ast.AstName.{AstName}
use Rattle.lara_syntax.specs.declared.ast_expr.AstExpr.{AstExpr}
use Rattle.lara_syntax.specs.declared.ast_expr.AstForm.TheVariants as form
use Rattle.lara_syntax.specs.declared.ast_part.AstDef.{AstDef}
use Rattle.lara_syntax.specs.declared.ast_part.AstKeyDef.{AstKeyDef}
use Rattle.lara_syntax.specs.declared.ast_part.AstPair.{AstPair}
use Rattle.lara_types.specs.CheckedExprs.{checked_form, checked_expr}
use Rattle.lara_types.specs.EachRules.{exprs_rules, fit_rules, map_rules, filter_rules, promote_rules, column_name_rules, rename_rules}
use Rattle.lara_types.specs.ExprRules.{form_rules, expr_rules, first_word}
use Rattle.lara_types.specs.NameRules.{once_rules}
use Rattle.lara_types.specs.RuleLaws.{is_broken}
use Rattle.lara_types.specs.Rules.{FirstBroken, first_broken}
use Rattle.lara_types.specs.Written.{plain_form, plain_expr}

-- names of one letter
abbrev i : Name
i = 105 ∷ []

abbrev v : Name
v = 118 ∷ []

abbrev w : Name
w = 119 ∷ []

abbrev z : Name
z = 122 ∷ []

abbrev at : ℕ → Name → AstName
at place n = record { name = n; at = place }

-- the table with the key i, the count v and the flag w
abbrev i_vw : Columns
i_vw = record { keys = record { name = i; ty = key_type.Nat } ∷ []; vals = record { name = v; ty = val_type.Count } ∷ record { name = w; ty = val_type.Flag } ∷ [] }

-- ---- expressions

abbrev column : ℕ → Name → AstExpr
column place n = record { at = place; form = form.Column n }

abbrev number : ℕ → ℕ → AstExpr
number place n = record { at = place; form = form.Number n }

abbrev sides : ℕ → TwoOp → AstExpr → AstExpr → AstExpr
sides place o a b = record { at = place; form = form.Two o a b }

-- i + v, whose sign is at 12
abbrev sum : AstExpr
sum = sides 12 two.Add (column 10 i) (column 14 v)

-- (i + v) * 2, where the parenthesis is at 9
abbrev product : AstExpr
product = sides 17 two.Mul sum (number 19 2)

-- without places
plain_product : plain_expr product ≡ expr.Two two.Mul (expr.Two two.Add (expr.Column i) (expr.Column v)) (expr.Number 2)
unfolding plain_form Rattle.lara_syntax.specs.declared.ast_expr.AstForm.TheBlock.hidden-the_row-AstExpr-0 denote.Hole.Carrier.hidden
plain_product = refl

-- numbers of both kinds of columns
product_type : checked_expr i_vw product ≡ Ok type.Number
unfolding checked_form key_column_type val_column_type same_name Rattle.lara_syntax.specs.declared.ast_expr.AstForm.TheBlock.hidden-the_row-AstExpr-0 denote.Hole.Carrier.hidden
product_type = refl

-- its first word is that of the left part's left part, behind the parenthesis
product_first : first_word product.at product.form ≡ 10
unfolding first_word Rattle.lara_syntax.specs.declared.ast_expr.AstForm.TheBlock.hidden-the_row-AstExpr-0 denote.Hole.Carrier.hidden
product_first = refl

-- a function's is its own
call_first : first_word 10 (form.Fun fun.Num sum) ≡ 10
unfolding first_word Rattle.lara_syntax.specs.declared.ast_expr.AstForm.TheBlock.hidden-the_row-AstExpr-0 denote.Hole.Carrier.hidden
call_first = refl

-- z + w == 2 ^ 64 - 1: an unknown column, then two types, then a number past its range: the first counts
three_faults : FirstBroken (expr_rules i_vw (sides 16 two.Eq (sides 12 two.Add (column 10 z) (column 14 w)) (number 19 (2 ^ 64 - 1)))) (record { at = 10; kind = NoName })
unfolding first_broken form_rules plain_form expr_type key_column_type val_column_type same_name Rattle.lara_syntax.specs.declared.ast_expr.AstForm.TheBlock.hidden-the_row-AstExpr-0 Rattle.lara_data.specs.declared.expr.Expr.TheBlock.hidden-the_row-Expr-0 denote.Hole.Carrier.hidden
three_faults = is_broken (expr_rules i_vw (sides 16 two.Eq (sides 12 two.Add (column 10 z) (column 14 w)) (number 19 (2 ^ 64 - 1)))) (record { at = 10; kind = NoName }) refl

-- v + w == 2 ^ 64 - 1: the left part's own rule comes before the right part
left_first : FirstBroken (expr_rules i_vw (sides 16 two.Eq (sides 12 two.Add (column 10 v) (column 14 w)) (number 19 (2 ^ 64 - 1)))) (record { at = 12; kind = TypesDiffer })
unfolding first_broken form_rules plain_form expr_type key_column_type val_column_type same_name Rattle.lara_syntax.specs.declared.ast_expr.AstForm.TheBlock.hidden-the_row-AstExpr-0 Rattle.lara_data.specs.declared.expr.Expr.TheBlock.hidden-the_row-Expr-0 denote.Hole.Carrier.hidden
left_first = is_broken (expr_rules i_vw (sides 16 two.Eq (sides 12 two.Add (column 10 v) (column 14 w)) (number 19 (2 ^ 64 - 1)))) (record { at = 12; kind = TypesDiffer }) refl

-- if v then w else i: what is no flag is refused at the word `if`
if_refused : FirstBroken (form_rules i_vw 10 (form.If (column 13 v) (column 20 w) (column 27 i))) (record { at = 10; kind = TypesDiffer })
unfolding first_broken form_rules plain_form expr_type key_column_type val_column_type same_name Rattle.lara_syntax.specs.declared.ast_expr.AstForm.TheBlock.hidden-the_row-AstExpr-0 Rattle.lara_data.specs.declared.expr.Expr.TheBlock.hidden-the_row-Expr-0 denote.Hole.Carrier.hidden
if_refused = is_broken (form_rules i_vw 10 (form.If (column 13 v) (column 20 w) (column 27 i))) (record { at = 10; kind = TypesDiffer }) refl

-- ---- maps

abbrev def : ℕ → Name → ValType → AstExpr → AstDef
def place n ty e = record { col = record { name = at place n; ty = ty }; expr = e }

-- v: count = z, i: count = v: all names come before all expressions
names_first : FirstBroken (map_rules 4 i_vw (def 13 v val_type.Count (column 24 z) ∷ def 27 i val_type.Count (column 38 v) ∷ [])) (record { at = 27; kind = NameTwice })
unfolding first_broken once_rules same_name has
names_first = is_broken (map_rules 4 i_vw (def 13 v val_type.Count (column 24 z) ∷ def 27 i val_type.Count (column 38 v) ∷ [])) (record { at = 27; kind = NameTwice }) refl

-- v: flag = (i + v) * 2, w: count = z: all expressions come before all types
exprs_first : FirstBroken (map_rules 4 i_vw (def 5 v val_type.Flag product ∷ def 22 w val_type.Count (column 33 z) ∷ [])) (record { at = 33; kind = NoName })
unfolding first_broken once_rules exprs_rules form_rules plain_form expr_type key_column_type val_column_type same_name has Rattle.lara_syntax.specs.declared.ast_expr.AstForm.TheBlock.hidden-the_row-AstExpr-0 Rattle.lara_data.specs.declared.expr.Expr.TheBlock.hidden-the_row-Expr-0 denote.Hole.Carrier.hidden
exprs_first = is_broken (map_rules 4 i_vw (def 5 v val_type.Flag product ∷ def 22 w val_type.Count (column 33 z) ∷ [])) (record { at = 33; kind = NoName }) refl

-- v: flag = (i + v) * 2: the type at the first word, which is no parenthesis
type_refused : FirstBroken (map_rules 4 i_vw (def 5 v val_type.Flag product ∷ [])) (record { at = 10; kind = TypesDiffer })
unfolding first_broken once_rules exprs_rules fit_rules form_rules first_word plain_form expr_type key_column_type val_column_type same_name has Rattle.lara_syntax.specs.declared.ast_expr.AstForm.TheBlock.hidden-the_row-AstExpr-0 Rattle.lara_data.specs.declared.expr.Expr.TheBlock.hidden-the_row-Expr-0 denote.Hole.Carrier.hidden
type_refused = is_broken (map_rules 4 i_vw (def 5 v val_type.Flag product ∷ [])) (record { at = 10; kind = TypesDiffer }) refl

-- v: count = (i + v) * 2 breaks none
map_kept : first_broken (map_rules 4 i_vw (def 5 v val_type.Count product ∷ [])) ≡ None
unfolding first_broken once_rules exprs_rules fit_rules form_rules first_word plain_form expr_type key_column_type val_column_type same_name has distinct are_columns each_columns Rattle.lara_syntax.specs.declared.ast_expr.AstForm.TheBlock.hidden-the_row-AstExpr-0 Rattle.lara_data.specs.declared.expr.Expr.TheBlock.hidden-the_row-Expr-0 denote.Hole.Carrier.hidden
map_kept = refl

-- nine columns are refused at the word `map`
abbrev nine : List AstDef
nine =
    def 10 (97 ∷ []) val_type.Count (number 20 1) ∷ def 11 (98 ∷ []) val_type.Count (number 21 1) ∷ def 12 (99 ∷ []) val_type.Count (number 22 1)
    ∷ def 13 (100 ∷ []) val_type.Count (number 23 1) ∷ def 14 (101 ∷ []) val_type.Count (number 24 1) ∷ def 15 (102 ∷ []) val_type.Count (number 25 1)
    ∷ def 16 (103 ∷ []) val_type.Count (number 26 1) ∷ def 17 (104 ∷ []) val_type.Count (number 27 1) ∷ def 18 (106 ∷ []) val_type.Count (number 28 1) ∷ []

nine_refused : FirstBroken (map_rules 4 i_vw nine) (record { at = 4; kind = TooManyColumns })
unfolding first_broken once_rules exprs_rules fit_rules form_rules first_word plain_form expr_type same_name has distinct are_columns each_columns Rattle.lara_syntax.specs.declared.ast_expr.AstForm.TheBlock.hidden-the_row-AstExpr-0 Rattle.lara_data.specs.declared.expr.Expr.TheBlock.hidden-the_row-Expr-0 denote.Hole.Carrier.hidden
nine_refused = is_broken (map_rules 4 i_vw nine) (record { at = 4; kind = TooManyColumns }) refl

-- ---- filters

-- a test that is no flag is refused at the word `filter`, and one that is refused where it is
filter_refused : FirstBroken (filter_rules 4 i_vw sum) (record { at = 4; kind = TypesDiffer })
unfolding first_broken form_rules plain_form expr_type key_column_type val_column_type same_name Rattle.lara_syntax.specs.declared.ast_expr.AstForm.TheBlock.hidden-the_row-AstExpr-0 Rattle.lara_data.specs.declared.expr.Expr.TheBlock.hidden-the_row-Expr-0 denote.Hole.Carrier.hidden
filter_refused = is_broken (filter_rules 4 i_vw sum) (record { at = 4; kind = TypesDiffer }) refl

test_refused : FirstBroken (filter_rules 4 i_vw (column 20 z)) (record { at = 20; kind = NoName })
unfolding first_broken form_rules plain_form expr_type key_column_type val_column_type same_name
test_refused = is_broken (filter_rules 4 i_vw (column 20 z)) (record { at = 20; kind = NoName }) refl

-- ---- promotes

abbrev key_def : ℕ → Name → AstExpr → AstKeyDef
key_def place n e = record { col = record { name = at place n; ty = key_type.Text }; expr = e }

-- a column's name comes before the expression, and is refused at the word `promote`
promote_twice : FirstBroken (promote_rules 4 i_vw (key_def 17 w (column 27 z))) (record { at = 4; kind = NameTwice })
unfolding first_broken same_name has
promote_twice = is_broken (promote_rules 4 i_vw (key_def 17 w (column 27 z))) (record { at = 4; kind = NameTwice }) refl

-- a number is no text, at the word `promote`
promote_unlike : FirstBroken (promote_rules 4 i_vw (key_def 17 z sum)) (record { at = 4; kind = TypesDiffer })
unfolding first_broken form_rules plain_form expr_type key_column_type val_column_type same_name has Rattle.lara_syntax.specs.declared.ast_expr.AstForm.TheBlock.hidden-the_row-AstExpr-0 Rattle.lara_data.specs.declared.expr.Expr.TheBlock.hidden-the_row-Expr-0 denote.Hole.Carrier.hidden
promote_unlike = is_broken (promote_rules 4 i_vw (key_def 17 z sum)) (record { at = 4; kind = TypesDiffer }) refl

-- ---- renames

abbrev pair : ℕ → Name → Name → AstPair
pair place old new = record { old = at place old; new = at (place + 5) new }

-- i to z, i to v, z to w: all old names are asked for being columns' first
rename_unknown : FirstBroken (rename_rules 4 i_vw (pair 13 i z ∷ pair 21 i v ∷ pair 29 z w ∷ [])) (record { at = 29; kind = NoName })
unfolding first_broken column_name_rules same_name has
rename_unknown = is_broken (rename_rules 4 i_vw (pair 13 i z ∷ pair 21 i v ∷ pair 29 z w ∷ [])) (record { at = 29; kind = NoName }) refl

-- i to z, i to v: the second i, though two columns would get the name v
rename_repeated : FirstBroken (rename_rules 4 i_vw (pair 13 i z ∷ pair 21 i v ∷ [])) (record { at = 21; kind = NameTwice })
unfolding first_broken column_name_rules once_rules same_name has
rename_repeated = is_broken (rename_rules 4 i_vw (pair 13 i z ∷ pair 21 i v ∷ [])) (record { at = 21; kind = NameTwice }) refl

-- i to v: two columns get the name v, at the word `rename`
rename_taken : FirstBroken (rename_rules 4 i_vw (pair 13 i v ∷ [])) (record { at = 4; kind = NameTwice })
unfolding first_broken column_name_rules once_rules renamed_columns new_name same_name has distinct
rename_taken = is_broken (rename_rules 4 i_vw (pair 13 i v ∷ [])) (record { at = 4; kind = NameTwice }) refl

-- v to w, w to v: all at once
rename_swapped : first_broken (rename_rules 4 i_vw (pair 13 v w ∷ pair 21 w v ∷ [])) ≡ None
unfolding first_broken column_name_rules once_rules renamed_columns new_name same_name has distinct
rename_swapped = refl
