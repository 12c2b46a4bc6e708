-- Why a tree stands for no typed script, with no walk: a node is refused by the first of its rules that is broken, where its
-- operands stand for typed trees, or by the refusal of an operand, where those before it do.
use Rattle.std.specs.Prelude.{◌≡◌, List, [], ◌∷◌, ◌++◌, map}
use Rattle.lara_data.specs.declared.node.Node.{Node}
use Rattle.lara_data.specs.declared.refusal.Kind.TheVariants.{NoName}
use Rattle.lara_data.specs.declared.refusal.Refusal.{Refusal}
use Rattle.lara_data.specs.declared.refusal.ReadFault.{ReadFault}
use Rattle.lara_data.specs.declared.refusal.ReadFault.TheVariants as faults
use Rattle.lara_data.specs.declared.schema.Schema.{Schema}
use Rattle.lara_data.specs.declared.script.Statement.{Statement}
use Rattle.lara_data.specs.Plugins.{Plugins}
use Rattle.lara_data.specs.TypedScripts.{all_known}
use Rattle.lara_data.specs.TypedTrees.{type_named}
use Rattle.lara_syntax.specs.declared.ast.Ast.{Ast}
use Rattle.lara_syntax.specs.declared.ast.AstNode.{AstNode}
use Rattle.lara_syntax.specs.declared.ast.AstOp.{AstOp}
use Rattle.lara_syntax.specs.declared.ast.AstOp.TheBlock.{end_of-AstNode, more_of-AstNode}
use Rattle.lara_syntax.specs.declared.ast.AstOp.TheVariants.{Join', Union', Agg', Map', Filter', Promote', Rename'}
use Rattle.lara_syntax.specs.declared.ast.AstStatement.{AstStatement}
use Rattle.lara_syntax.specs.declared.ast.AstStatement.TheVariants as ast
use Rattle.lara_types.specs.HasTypes.{NodeHas, StatementsHave}
use Rattle.lara_types.specs.NodeRules.{known_rules, print_rules, rules_of}
use Rattle.lara_types.specs.Rules.{FirstBroken}

-- the tables that an operator is of, left before right
unfoldable pub operands : AstOp → List AstNode
operands (Join' _ (more_of-AstNode i a end_of-AstNode) _ (more_of-AstNode j b end_of-AstNode)) = record { at = i; op = a } ∷ record { at = j; op = b } ∷ []
operands (Union' _ (more_of-AstNode i a end_of-AstNode) _ (more_of-AstNode j b end_of-AstNode)) = record { at = i; op = a } ∷ record { at = j; op = b } ∷ []
operands (Agg' _ (more_of-AstNode i a end_of-AstNode) ks) = record { at = i; op = a } ∷ []
operands (Map' _ (more_of-AstNode i a end_of-AstNode) ds) = record { at = i; op = a } ∷ []
operands (Filter' _ (more_of-AstNode i a end_of-AstNode) e) = record { at = i; op = a } ∷ []
operands (Promote' _ (more_of-AstNode i a end_of-AstNode) d) = record { at = i; op = a } ∷ []
operands (Rename' _ (more_of-AstNode i a end_of-AstNode) pairs) = record { at = i; op = a } ∷ []
-- no words yet, or no tables
operands op = []

-- each tree stands for a typed one
unfoldable pub NodesHave : Plugins → List Schema → List Schema → List AstNode → List Node → Type 0
NodesHave ps stored known [] [] = Unit {0}
NodesHave ps stored known (t ∷ ts) (n ∷ ns) = NodeHas ps stored known t n × NodesHave ps stored known ts ns
NodesHave ps stored known ts ns = ⊥

-- why a tree stands for no typed one, where the first list has the stored names and the second one those that were assigned
pub data NodeRefused (ps : Plugins) (stored known : List Schema) : AstNode → Refusal → Type 0 where
  -- the operands have types, and this is the first rule that is broken
  here : (t : AstNode) (ns : List Node) (r : Refusal) → NodesHave ps stored known (operands t.op) ns
      → FirstBroken (rules_of ps stored known t.at t.op (map (λ n. n.ty) ns)) r → NodeRefused ps stored known t r
  -- an operand is refused, and those left of it have types
  below : (t bad : AstNode) (before after : List AstNode) (ns : List Node) (r : Refusal) → operands t.op ≡ before ++ bad ∷ after
      → NodesHave ps stored known before ns → NodeRefused ps stored known bad r → NodeRefused ps stored known t r

-- why a statement stands for no typed one
abbrev pub StatementRefused : Plugins → List Schema → List Schema → AstStatement → Refusal → Type 0
StatementRefused ps stored known (ast.Assign at name tree) r = NodeRefused ps stored known tree r
StatementRefused ps stored known (ast.Print at name by) r = FirstBroken (print_rules name (type_named name.name known) by) r
StatementRefused ps stored known (ast.Store at old new) r = FirstBroken (known_rules NoName old (type_named old.name known)) r

-- why a script stands for no typed one: a statement is refused, and all before it stand for typed ones
pub data Refused (ps : Plugins) (stored : List Schema) (tree : Ast) : Refusal → Type 0 where
  at_statement : (before : List AstStatement) (bad : AstStatement) (after : List AstStatement) (ss : List Statement) (r : Refusal) → tree.statements ≡ before ++ bad ∷ after
      → StatementsHave ps stored [] before ss → StatementRefused ps stored (all_known [] ss) bad r → Refused ps stored tree r

-- a refusal is right by the rules; of memory nothing is said
abbrev pub RefusedRight : Plugins → List Schema → Ast → ReadFault → Type 0
RefusedRight ps stored tree faults.Memory = Unit {0}
RefusedRight ps stored tree (faults.Refused refusal) = Refused ps stored tree refusal
