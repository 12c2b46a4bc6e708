-- A typed script fits a database whose tables have the stored names and types.
use Rattle.std.specs.Prelude.{◌≡◌, List, [], ◌∷◌, Option, Some, None}
use Rattle.std.proofs.Common.{sym, ◌∙◌, subst}
use Rattle.lara_data.specs.declared.node.Node.{Node}
use Rattle.lara_data.specs.declared.node.Op.{Op}
use Rattle.lara_data.specs.declared.node.Op.TheVariants as to
use Rattle.lara_data.specs.declared.schema.Schema.{Schema}
use Rattle.lara_data.specs.declared.script.Statement.{Statement}
use Rattle.lara_data.specs.Denotations.{Database, table_named}
use Rattle.lara_data.specs.Fits.{LoadFits, OpFits, StatementFits, ScriptFits, TablesOf}
use Rattle.lara_data.specs.MeaningLaws.{Finds, finds_named}
use Rattle.lara_data.specs.Plugins.{Plugins}
use Rattle.lara_data.specs.TableTypes.{Columns}
use Rattle.lara_data.specs.Tables.{Table}
use Rattle.lara_data.specs.TypedScripts.{known_after}
use Rattle.lara_data.specs.TypedTrees.{type_named}
use Rattle.lara_data.proofs.FitEquations.{fits_Load, fits_Named, fits_Literal, fits_Join, fits_Union, fits_Agg, fits_Map, fits_Filter, fits_Promote, fits_Rename}
use Rattle.lara_syntax.specs.declared.ast.Ast.{Ast}
use Rattle.lara_syntax.specs.declared.ast.AstOp.{AstOp}
use Rattle.lara_syntax.specs.declared.ast.AstOp.TheBlock.{end_of-AstNode, more_of-AstNode}
use Rattle.lara_syntax.specs.declared.ast.AstOp.TheVariants.{Load, Named, Literal, Join', Union', Agg', Map', Filter', Promote', Rename', Apply'}
use Rattle.lara_syntax.specs.declared.ast.AstStatement.{AstStatement}
use Rattle.lara_syntax.specs.declared.ast.AstStatement.TheVariants as ast
use Rattle.lara_types.specs.Written.{plain, plain_expr, plain_defs, plain_key_def, plain_pairs}
use Rattle.lara_types.specs.HasTypes.{OpHas, StatementHas, StatementsHave, HasTypes}

-- a name of a known type has a table with these columns
load_fits : (ty : Columns) (found : Option Columns) (table : Option Table) → found ≡ Some ty → Finds found table → LoadFits table ty
load_fits ty None None e f = cc
load_fits ty None (Some t) e f = absurd f
load_fits ty (Some u) None e f = absurd f
load_fits ty (Some u) (Some t) e f = let is : u ≡ ty = cc in f.columns ∙ is

module _ (ps : Plugins) (stored : List Schema) (db : Database) (of_stored : TablesOf stored db) where
  -- the operator fits, by what it is and what it is to fit
  fits_by : (op made : Op) (ty : Columns) (Fits : Type 0) → op ≡ made → OpFits ps db made ty ≡ Fits → Fits → OpFits ps db op ty
  fits_by op made ty Fits is e f = subst (λ (o : Op). OpFits ps db o ty) (sym is) (subst (λ (T : Type 0). T) (sym e) f)

  op_fits : (known : List Schema) (tree : AstOp) (node : Node) → OpHas ps stored known tree node → OpFits ps db node.op node.ty
  unfolding OpHas
  op_fits known (Load n) node h =
      fits_by node.op (to.Load n.name) node.ty _ h.0 (fits_Load ps db n.name node.ty) (load_fits node.ty (type_named n.name stored) (table_named n.name db) h.1 (finds_named n.name stored db of_stored))
  op_fits known (Named n) node h = fits_by node.op (to.Named n.name) node.ty _ h.0 (fits_Named ps db n.name node.ty) tt
  op_fits known (Literal ty es) node h = fits_by node.op (to.Literal h.entries) node.ty _ h.op (fits_Literal ps db h.entries node.ty) tt
  op_fits known (Join' _ (more_of-AstNode i a end_of-AstNode) _ (more_of-AstNode j b end_of-AstNode)) node h =
      fits_by node.op (to.Join h.0 h.1) node.ty _ h.2 (fits_Join ps db h.0 h.1 node.ty) (op_fits known a h.0 h.4, op_fits known b h.1 h.5)
  op_fits known (Union' _ (more_of-AstNode i a end_of-AstNode) _ (more_of-AstNode j b end_of-AstNode)) node h =
      fits_by node.op (to.Union h.0 h.1) node.ty _ h.2 (fits_Union ps db h.0 h.1 node.ty) (op_fits known a h.0 h.4, op_fits known b h.1 h.5)
  op_fits known (Agg' _ (more_of-AstNode i a end_of-AstNode) ks) node h =
      fits_by node.op (to.Agg h.0 (plain ks)) node.ty _ h.1 (fits_Agg ps db h.0 (plain ks) node.ty) (op_fits known a h.0 h.3)
  op_fits known (Map' _ (more_of-AstNode i a end_of-AstNode) ds) node h =
      fits_by node.op (to.Map h.0 (plain_defs ds)) node.ty _ h.1 (fits_Map ps db h.0 (plain_defs ds) node.ty) (op_fits known a h.0 h.4)
  op_fits known (Filter' _ (more_of-AstNode i a end_of-AstNode) test) node h =
      fits_by node.op (to.Filter h.0 (plain_expr test)) node.ty _ h.1 (fits_Filter ps db h.0 (plain_expr test) node.ty) (op_fits known a h.0 h.3)
  op_fits known (Promote' _ (more_of-AstNode i a end_of-AstNode) def) node h =
      fits_by node.op (to.Promote h.0 (plain_key_def def)) node.ty _ h.1 (fits_Promote ps db h.0 (plain_key_def def) node.ty) (op_fits known a h.0 h.3)
  op_fits known (Rename' _ (more_of-AstNode i a end_of-AstNode) pairs) node h =
      fits_by node.op (to.Rename h.0 (plain_pairs pairs)) node.ty _ h.1 (fits_Rename ps db h.0 (plain_pairs pairs) node.ty) (op_fits known a h.0 h.3)
  op_fits known (Apply' _ (more_of-AstNode i a end_of-AstNode) call) node h = absurd h

  statement_fits : (known : List Schema) (x : AstStatement) (s : Statement) → StatementHas ps stored known x s → StatementFits ps db s
  statement_fits known (ast.Assign at name tree) s h = subst (StatementFits ps db) (sym h.1) (op_fits known tree.op h.0 h.2)
  statement_fits known (ast.Print at name by) s h = subst (StatementFits ps db) (sym h.2) tt
  statement_fits known (ast.Store at old new) s h = subst (StatementFits ps db) (sym h.1) tt

  all_fit : (known : List Schema) (xs : List AstStatement) (ss : List Statement) → StatementsHave ps stored known xs ss → ScriptFits ps db ss
  unfolding StatementsHave ScriptFits
  all_fit known [] [] h = tt
  all_fit known [] (s ∷ ss) h = absurd h
  all_fit known (x ∷ xs) [] h = absurd h
  all_fit known (x ∷ xs) (s ∷ ss) h = (statement_fits known x s h.0, all_fit (known_after known s) xs ss h.1)

-- a typed script fits a database whose tables have the stored names and types
pub has_fits : (ps : Plugins) (stored : List Schema) (tree : Ast) (ss : List Statement) (db : Database) → TablesOf stored db → HasTypes ps stored tree ss → ScriptFits ps db ss
has_fits ps stored tree ss db t h = all_fit ps stored db t [] tree.statements ss h
