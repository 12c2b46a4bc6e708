-- Which trees are typed: every node has its type by the rules.
use Rattle.std.specs.Prelude.{◌≡◌, ◌<◌, true, List, length, Option, Some, Ok}
use Rattle.std.specs.List.{list_all}
use Rattle.lara_data.specs.declared.node.Node.{Node}
use Rattle.lara_data.specs.declared.node.Op.{Op}
use Rattle.lara_data.specs.declared.node.Op.TheBlock.{end_of-Node, more_of-Node}
use Rattle.lara_data.specs.declared.node.Op.TheVariants.{Load, Named, Literal, Join', Union', Agg', Map', Filter', Promote', Rename', Apply'}
use Rattle.lara_data.specs.declared.schema.Schema.{Schema}
use Rattle.lara_data.specs.TableTypes.{Columns, types, are_columns}
use Rattle.lara_data.specs.Names.{Name}
use Rattle.lara_data.specs.Newest.{newest}
use Rattle.lara_data.specs.KeyedTables.{AllKeys, all_have}
use Rattle.lara_data.specs.TypedTables.{KeyHas}
use Rattle.lara_data.specs.Tables.{Entries, is_entry_in_range}
use Rattle.lara_data.specs.TypeRules.{join_type, union_type, agg_type, map_type, filter_type, promote_type, rename_type}

-- the newest type of a name
abbrev pub type_named : Name → List Schema → Option Columns
type_named n known = newest (λ s. s.name) (λ s. s.ty) n known

-- columns of a type, and entries with one key value and one value of each column's type, none past its range
pub record IsLiteral (ty : Columns) (es : Entries) : Type 0 where
  pub columns : are_columns ty.keys ty.vals ≡ true
  pub keys : AllKeys (KeyHas ty.keys) es
  pub rows : all_have (types ty.vals) es ≡ true
  pub in_range : list_all (is_entry_in_range (types ty.vals)) es ≡ true

-- What an operator makes has the columns by the rules, and so has each node below. A load has the stored table's, which
-- stand in its node. Applies have no rules yet, so that no typed tree has one.
unfoldable pub OpTyped : List Schema → Op → Columns → Type 0
OpTyped known (Load n) ty = are_columns ty.keys ty.vals ≡ true
OpTyped known (Named n) ty = type_named n known ≡ Some ty
OpTyped known (Literal es) ty = IsLiteral ty es
OpTyped known (Join' _ (more_of-Node t a end_of-Node) _ (more_of-Node u b end_of-Node)) ty = (join_type t u ≡ Ok ty) × OpTyped known a t × OpTyped known b u
OpTyped known (Union' _ (more_of-Node t a end_of-Node) _ (more_of-Node u b end_of-Node)) ty = (union_type t u ≡ Ok ty) × OpTyped known a t × OpTyped known b u
OpTyped known (Agg' _ (more_of-Node t a end_of-Node) ks) ty = (agg_type t ks ≡ Ok ty) × OpTyped known a t
OpTyped known (Map' _ (more_of-Node t a end_of-Node) defs) ty = (0 < length defs) × (map_type t defs ≡ Ok ty) × OpTyped known a t
OpTyped known (Filter' _ (more_of-Node t a end_of-Node) test) ty = (filter_type t test ≡ Ok ty) × OpTyped known a t
OpTyped known (Promote' _ (more_of-Node t a end_of-Node) def) ty = (promote_type t def ≡ Ok ty) × OpTyped known a t
OpTyped known (Rename' _ (more_of-Node t a end_of-Node) pairs) ty = (rename_type t pairs ≡ Ok ty) × OpTyped known a t
-- no words yet
OpTyped known (Apply' _ (more_of-Node t a end_of-Node) call) ty = ⊥

-- every node has its type by the rules, where these names are known
abbrev pub IsTyped : List Schema → Node → Type 0
IsTyped known node = OpTyped known node.op node.ty
