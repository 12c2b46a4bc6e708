-- What it is that an operator with places is checked, and how many nodes it has.
use Rattle.std.proofs.Common.{◌≡◌, ℕ, ◌+◌, List, refl}
use Rattle.lara_data.specs.declared.refusal.Kind.TheVariants.{Unexpected}
use Rattle.lara_data.specs.declared.schema.Schema.{Schema}
use Rattle.lara_syntax.specs.declared.ast.AstEntry.{AstEntry}
use Rattle.lara_syntax.specs.declared.ast.AstName.{AstName}
use Rattle.lara_syntax.specs.declared.ast.AstNode.{AstNode}
use Rattle.lara_syntax.specs.declared.ast.AstOp.TheVariants.{Load, Named, Literal, Join, Union, Agg, Map, Filter, Promote, Rename, Apply}
use Rattle.lara_syntax.specs.declared.ast.AstType.{AstType}
use Rattle.lara_syntax.specs.declared.ast_expr.AstExpr.{AstExpr}
use Rattle.lara_syntax.specs.declared.ast_part.AstCall.{AstCall}
use Rattle.lara_syntax.specs.declared.ast_part.AstDef.{AstDef}
use Rattle.lara_syntax.specs.declared.ast_part.AstKeyDef.{AstKeyDef}
use Rattle.lara_syntax.specs.declared.ast_part.AstPair.{AstPair}
use Rattle.lara_types.specs.CheckedTrees.{loaded, assigned, literal, joined, united, summed, mapped, filtered, promoted, renamed, checked_op}
use Rattle.lara_data.specs.Judgements.{refused}
use Rattle.lara_data.specs.Plugins.{Plugins}
use Rattle.lara_types.specs.Sizes.{written_nodes}
use Rattle.lara_base.specs.Results.{◌>>=◌}

module _ (ps : Plugins) (stored known : List Schema) (at : ℕ) where
  pub checked_Load : (n : AstName) → checked_op ps stored known at (Load n) ≡ loaded stored n
  unfolding checked_op
  checked_Load n = refl

  pub checked_Named : (n : AstName) → checked_op ps stored known at (Named n) ≡ assigned known n
  unfolding checked_op
  checked_Named n = refl

  pub checked_Literal : (ty : AstType) (es : List AstEntry) → checked_op ps stored known at (Literal ty es) ≡ literal at ty es
  unfolding checked_op
  checked_Literal ty es = refl

  pub checked_Join : (a b : AstNode) → checked_op ps stored known at (Join a b) ≡ (checked_op ps stored known a.at a.op >>= λ x. checked_op ps stored known b.at b.op >>= λ y. joined at x y)
  unfolding checked_op Rattle.lara_syntax.specs.declared.ast.AstOp.TheBlock.hidden-the_row-AstNode-0 denote.Hole.Carrier.hidden
  checked_Join a b = refl

  pub checked_Union : (a b : AstNode) → checked_op ps stored known at (Union a b) ≡ (checked_op ps stored known a.at a.op >>= λ x. checked_op ps stored known b.at b.op >>= λ y. united at x y)
  unfolding checked_op Rattle.lara_syntax.specs.declared.ast.AstOp.TheBlock.hidden-the_row-AstNode-0 denote.Hole.Carrier.hidden
  checked_Union a b = refl

  pub checked_Agg : (a : AstNode) (ks : List AstName) → checked_op ps stored known at (Agg a ks) ≡ (checked_op ps stored known a.at a.op >>= λ x. summed x ks)
  unfolding checked_op Rattle.lara_syntax.specs.declared.ast.AstOp.TheBlock.hidden-the_row-AstNode-0 denote.Hole.Carrier.hidden
  checked_Agg a ks = refl

  pub checked_Map : (a : AstNode) (defs : List AstDef) → checked_op ps stored known at (Map a defs) ≡ (checked_op ps stored known a.at a.op >>= λ x. mapped at x defs)
  unfolding checked_op Rattle.lara_syntax.specs.declared.ast.AstOp.TheBlock.hidden-the_row-AstNode-0 denote.Hole.Carrier.hidden
  checked_Map a defs = refl

  pub checked_Filter : (a : AstNode) (test : AstExpr) → checked_op ps stored known at (Filter a test) ≡ (checked_op ps stored known a.at a.op >>= λ x. filtered at x test)
  unfolding checked_op Rattle.lara_syntax.specs.declared.ast.AstOp.TheBlock.hidden-the_row-AstNode-0 denote.Hole.Carrier.hidden
  checked_Filter a test = refl

  pub checked_Promote : (a : AstNode) (def : AstKeyDef) → checked_op ps stored known at (Promote a def) ≡ (checked_op ps stored known a.at a.op >>= λ x. promoted at x def)
  unfolding checked_op Rattle.lara_syntax.specs.declared.ast.AstOp.TheBlock.hidden-the_row-AstNode-0 denote.Hole.Carrier.hidden
  checked_Promote a def = refl

  pub checked_Rename : (a : AstNode) (pairs : List AstPair) → checked_op ps stored known at (Rename a pairs) ≡ (checked_op ps stored known a.at a.op >>= λ x. renamed at x pairs)
  unfolding checked_op Rattle.lara_syntax.specs.declared.ast.AstOp.TheBlock.hidden-the_row-AstNode-0 denote.Hole.Carrier.hidden
  checked_Rename a pairs = refl

  pub checked_Apply : (a : AstNode) (call : AstCall) → checked_op ps stored known at (Apply a call) ≡ refused at Unexpected
  unfolding checked_op Rattle.lara_syntax.specs.declared.ast.AstOp.TheBlock.hidden-the_row-AstNode-0 denote.Hole.Carrier.hidden
  checked_Apply a call = refl

pub ruleset checked_rules = (checked_Load, checked_Named, checked_Literal, checked_Join, checked_Union, checked_Agg, checked_Map, checked_Filter, checked_Promote, checked_Rename, checked_Apply)

pub written_Join : (a b : AstNode) → written_nodes (Join a b) ≡ 1 + (written_nodes a.op + written_nodes b.op)
unfolding written_nodes Rattle.lara_syntax.specs.declared.ast.AstOp.TheBlock.hidden-the_row-AstNode-0 denote.Hole.Carrier.hidden
written_Join a b = refl

pub written_Union : (a b : AstNode) → written_nodes (Union a b) ≡ 1 + (written_nodes a.op + written_nodes b.op)
unfolding written_nodes Rattle.lara_syntax.specs.declared.ast.AstOp.TheBlock.hidden-the_row-AstNode-0 denote.Hole.Carrier.hidden
written_Union a b = refl

pub written_Agg : (a : AstNode) (ks : List AstName) → written_nodes (Agg a ks) ≡ 1 + written_nodes a.op
unfolding written_nodes Rattle.lara_syntax.specs.declared.ast.AstOp.TheBlock.hidden-the_row-AstNode-0 denote.Hole.Carrier.hidden
written_Agg a ks = refl

pub written_Map : (a : AstNode) (defs : List AstDef) → written_nodes (Map a defs) ≡ 1 + written_nodes a.op
unfolding written_nodes Rattle.lara_syntax.specs.declared.ast.AstOp.TheBlock.hidden-the_row-AstNode-0 denote.Hole.Carrier.hidden
written_Map a defs = refl

pub written_Filter : (a : AstNode) (test : AstExpr) → written_nodes (Filter a test) ≡ 1 + written_nodes a.op
unfolding written_nodes Rattle.lara_syntax.specs.declared.ast.AstOp.TheBlock.hidden-the_row-AstNode-0 denote.Hole.Carrier.hidden
written_Filter a test = refl

pub written_Promote : (a : AstNode) (def : AstKeyDef) → written_nodes (Promote a def) ≡ 1 + written_nodes a.op
unfolding written_nodes Rattle.lara_syntax.specs.declared.ast.AstOp.TheBlock.hidden-the_row-AstNode-0 denote.Hole.Carrier.hidden
written_Promote a def = refl

pub written_Rename : (a : AstNode) (pairs : List AstPair) → written_nodes (Rename a pairs) ≡ 1 + written_nodes a.op
unfolding written_nodes Rattle.lara_syntax.specs.declared.ast.AstOp.TheBlock.hidden-the_row-AstNode-0 denote.Hole.Carrier.hidden
written_Rename a pairs = refl
