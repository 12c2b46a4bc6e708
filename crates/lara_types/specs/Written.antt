-- What a tree with places says, without its places.
use Rattle.std.specs.Prelude.{List, ◌++◌, map}
use Rattle.lara_syntax.specs.declared.ast.AstKeyCol.{AstKeyCol}
use Rattle.lara_syntax.specs.declared.ast.AstName.{AstName}
use Rattle.lara_syntax.specs.declared.ast.AstType.{AstType}
use Rattle.lara_syntax.specs.declared.ast.AstValCol.{AstValCol}
use Rattle.lara_syntax.specs.declared.ast_expr.AstExpr.{AstExpr}
use Rattle.lara_syntax.specs.declared.ast_expr.AstForm.{AstForm}
use Rattle.lara_syntax.specs.declared.ast_expr.AstForm.TheBlock.{end_of-AstExpr, more_of-AstExpr}
use Rattle.lara_syntax.specs.declared.ast_expr.AstForm.TheVariants as form
use Rattle.lara_syntax.specs.declared.ast_expr.AstForm.TheVariants.{Two', Not', If', Fun'}
use Rattle.lara_syntax.specs.declared.ast_part.AstDef.{AstDef}
use Rattle.lara_syntax.specs.declared.ast_part.AstKeyDef.{AstKeyDef}
use Rattle.lara_syntax.specs.declared.ast_part.AstPair.{AstPair}
use Rattle.lara_data.specs.declared.arg.Def.{Def}
use Rattle.lara_data.specs.declared.arg.KeyDef.{KeyDef}
use Rattle.lara_data.specs.declared.arg.NamePair.{NamePair}
use Rattle.lara_data.specs.declared.expr.Expr.{Expr}
use Rattle.lara_data.specs.declared.expr.Expr.TheVariants as expr
use Rattle.lara_data.specs.declared.table_type.KeyCol.{KeyCol}
use Rattle.lara_data.specs.declared.table_type.ValCol.{ValCol}
use Rattle.lara_data.specs.Names.{Name}
use Rattle.lara_data.specs.TableTypes.{Columns}

-- the names
abbrev pub plain : List AstName → List Name
plain ns = map (λ n. n.name) ns

-- the names of columns at their places, keys first
abbrev pub names_of : List AstKeyCol → List AstValCol → List AstName
names_of keys vals = map (λ (c : AstKeyCol). c.name) keys ++ map (λ (c : AstValCol). c.name) vals

-- a key column
abbrev pub key_col : AstKeyCol → KeyCol
key_col c = record { name = c.name.name; ty = c.ty }

-- a value column
abbrev pub val_col : AstValCol → ValCol
val_col c = record { name = c.name.name; ty = c.ty }

-- the columns
abbrev pub columns : AstType → Columns
columns ty = record { keys = map key_col ty.keys; vals = map val_col ty.vals }

-- what an expression is
unfoldable pub plain_form : AstForm → Expr
plain_form (form.Column n) = expr.Column n
plain_form (form.Number n) = expr.Number n
plain_form (form.Text bs) = expr.Text bs
plain_form (form.Flag b) = expr.Flag b
plain_form form.Inf = expr.Inf
plain_form form.None = expr.None
plain_form (Two' o _ (more_of-AstExpr i a end_of-AstExpr) _ (more_of-AstExpr j b end_of-AstExpr)) = expr.Two o (plain_form a) (plain_form b)
plain_form (Not' _ (more_of-AstExpr i a end_of-AstExpr)) = expr.Not (plain_form a)
plain_form (If' _ (more_of-AstExpr h t end_of-AstExpr) _ (more_of-AstExpr i a end_of-AstExpr) _ (more_of-AstExpr j b end_of-AstExpr)) = expr.If (plain_form t) (plain_form a) (plain_form b)
plain_form (Fun' f _ (more_of-AstExpr i a end_of-AstExpr)) = expr.Fun f (plain_form a)

-- the expression
abbrev pub plain_expr : AstExpr → Expr
plain_expr e = plain_form e.form

-- the definition of a value column
abbrev pub plain_def : AstDef → Def
plain_def d = record { col = val_col d.col; expr = plain_expr d.expr }

-- the definitions of a map
abbrev pub plain_defs : List AstDef → List Def
plain_defs ds = map plain_def ds

-- the definition of a key column
abbrev pub plain_key_def : AstKeyDef → KeyDef
plain_key_def d = record { col = key_col d.col; expr = plain_expr d.expr }

-- an old name and its new one
abbrev pub plain_pair : AstPair → NamePair
plain_pair p = record { old = p.old.name; new = p.new.name }

-- the pairs of names
abbrev pub plain_pairs : List AstPair → List NamePair
plain_pairs ps = map plain_pair ps
