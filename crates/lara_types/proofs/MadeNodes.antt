-- Nodes and statements that are made where their rules are met.
use Rattle.std.specs.Prelude.{◌≡◌, ℕ, true, false, cond, not, List, map, Option, Some, None, Result, Ok, Err, IfOk, IfErr}
use Rattle.std.proofs.Common.{refl, ap, subst, ◌∙◌}
use Rattle.lara_data.specs.declared.node.Node.{Node}
use Rattle.lara_data.specs.declared.node.Op.{Op}
use Rattle.lara_data.specs.declared.node.Op.TheVariants as to
use Rattle.lara_data.specs.declared.refusal.Kind.{Kind}
use Rattle.lara_data.specs.declared.refusal.Kind.TheVariants.{NoName, TooManyColumns, TypesDiffer, NoCommonValue}
use Rattle.lara_data.specs.declared.refusal.Refusal.{Refusal}
use Rattle.lara_data.specs.declared.refusal.ReadFault.{ReadFault}
use Rattle.lara_data.specs.declared.refusal.ReadFault.TheVariants as faults
use Rattle.lara_data.specs.declared.script.Statement.TheVariants.{Print}
use Rattle.lara_data.specs.Algebra.{common_vals, join_columns, union_columns}
use Rattle.lara_data.specs.Judgements.{Judged, Judges, FaultJudges, refused}
use Rattle.lara_data.specs.Names.{Name}
use Rattle.lara_data.specs.TableTypes.{Columns}
use Rattle.lara_data.specs.Tables.{Entries}
use Rattle.lara_data.specs.TypeRules.{Typing, types_differ, is_none, too_many, join_type, union_type}
use Rattle.lara_syntax.specs.declared.ast.AstBy.{AstBy}
use Rattle.lara_syntax.specs.declared.ast.AstEntry.{AstEntry}
use Rattle.lara_syntax.specs.declared.ast.AstName.{AstName}
use Rattle.lara_syntax.specs.declared.ast.AstType.{AstType}
use Rattle.lara_types.specs.Answered.{answered}
use Rattle.lara_types.specs.CheckedTrees.{typed, columns_in, literal}
use Rattle.lara_types.specs.Checks.{order_in, printed}
use Rattle.lara_types.specs.LiteralValues.{entry_value}
use Rattle.lara_types.specs.NodeRuleLaws.{known_met}
use Rattle.lara_types.specs.NodeRules.{known_rules, order_rules, join_rules, union_rules, column_rules, entries_rules}
use Rattle.lara_types.specs.RuleLaws.{rules_met, rules_map, rules_stop, rules_behind, rules_before}
use Rattle.lara_types.specs.Rules.{unless, by_rules, first_broken}
use Rattle.lara_types.specs.Written.{columns}

-- ---- faults

-- what refuses nothing fails for memory alone
pub fault_of_memory : {A B : Type 0} (x : A) (whole : Judged B) (fault : ReadFault) → FaultJudges (answered x) fault → FaultJudges whole fault
fault_of_memory x whole (faults.Refused r) f = absurd cc
fault_of_memory x whole faults.Memory f = tt

-- ---- names

-- a table of a name whose type was found
pub known_made : (kind : Kind) (n : AstName) (found : Option Columns) (op : Op) (ty : Columns) → by_rules (known_rules kind n found) (columns_in found) ≡ Ok ty → by_rules (known_rules kind n found) (typed (columns_in found) op) ≡ Ok (typed ty op)
known_made kind n found op ty e = rules_map (known_rules kind n found) (λ c. typed c op) (columns_in found) ty e

-- ---- literals

module _ (at : ℕ) (ty : AstType) (xs : List AstEntry) where
  pub literal_unnamed : (r : Refusal) → by_rules (column_rules at ty) (columns ty) ≡ Err r → literal at ty xs ≡ Err r
  literal_unnamed r e = rules_before (column_rules at ty) (entries_rules (columns ty) xs) (columns ty) (typed (columns ty) (to.Literal (map (entry_value (columns ty)) xs))) r e

  module _ (c : Columns) (of_columns : by_rules (column_rules at ty) (columns ty) ≡ Ok c) where
    own : columns ty ≡ c
    own = (rules_met (column_rules at ty) (columns ty) c of_columns).1

    behind : literal at ty xs ≡ by_rules (entries_rules c xs) (typed c (to.Literal (map (entry_value c) xs)))
    behind =
        rules_behind (column_rules at ty) (entries_rules (columns ty) xs) (columns ty) c (typed (columns ty) (to.Literal (map (entry_value (columns ty)) xs))) of_columns
        ∙ (λ i. by_rules (entries_rules (own i) xs) (typed (own i) (to.Literal (map (entry_value (own i)) xs))))

    pub literal_made : (es : Entries) → by_rules (entries_rules c xs) (map (entry_value c) xs) ≡ Ok es → literal at ty xs ≡ Ok (typed c (to.Literal es))
    literal_made es e = behind ∙ rules_map (entries_rules c xs) (λ (l : Entries). typed c (to.Literal l)) (map (entry_value c) xs) es e

    pub literal_stop : (r : Refusal) → by_rules (entries_rules c xs) (map (entry_value c) xs) ≡ Err r → literal at ty xs ≡ Err r
    literal_stop r e = behind ∙ rules_stop (entries_rules c xs) (map (entry_value c) xs) (typed c (to.Literal (map (entry_value c) xs))) r e

-- ---- joins and unions

abbrev of_typing : ℕ → Op → Typing → Judged Node
of_typing at op (Ok ty) = Ok (typed ty op)
of_typing at op (Err kind) = refused at kind

placed_judges : (at : ℕ) (op : Op) (t : Typing) (r : Result Node ReadFault) → IfOk t (λ c. Judges (λ n. n) (answered (typed c op)) r) → IfErr t (λ kind. Judges (λ (n : Node). n) (refused at kind) r) → Judges (λ n. n) (of_typing at op t) r
placed_judges at op (Ok c) r h g = h
placed_judges at op (Err kind) r h g = g

join_judged : (at : ℕ) (op : Op) (a b : Columns) → of_typing at op (join_type a b) ≡ by_rules (join_rules at a b) (typed (join_columns a b) op)
unfolding join_type first_broken
join_judged at op a b =
    elim (types_differ a b) as (λ d. of_typing at op (cond d (Err TypesDiffer) (cond (is_none (common_vals a.vals b.vals)) (Err NoCommonValue) (cond (too_many (join_columns a b)) (Err TooManyColumns) (Ok (join_columns a b)))))
    ≡ unless (cond (not d) (cond (not (is_none (common_vals a.vals b.vals))) (cond (not (too_many (join_columns a b))) None (Some (record { at = at; kind = TooManyColumns }))) (Some (record { at = at; kind = NoCommonValue }))) (Some (record { at = at; kind = TypesDiffer }))) (typed (join_columns a b) op)) [
      | true ↦ refl
      | false ↦ elim (is_none (common_vals a.vals b.vals)) as (λ n. of_typing at op (cond n (Err NoCommonValue) (cond (too_many (join_columns a b)) (Err TooManyColumns) (Ok (join_columns a b))))
          ≡ unless (cond (not n) (cond (not (too_many (join_columns a b))) None (Some (record { at = at; kind = TooManyColumns }))) (Some (record { at = at; kind = NoCommonValue }))) (typed (join_columns a b) op)) [
            | true ↦ refl
            | false ↦ elim (too_many (join_columns a b)) as (λ m. of_typing at op (cond m (Err TooManyColumns) (Ok (join_columns a b))) ≡ unless (cond (not m) None (Some (record { at = at; kind = TooManyColumns }))) (typed (join_columns a b) op)) [ true ↦ refl | false ↦ refl ]
          ]
    ]

pub union_judged : (at : ℕ) (op : Op) (a b : Columns) → of_typing at op (union_type a b) ≡ by_rules (union_rules at a b) (typed (union_columns a b) op)
unfolding union_type first_broken
union_judged at op a b =
    elim (types_differ a b) as (λ d. of_typing at op (cond d (Err TypesDiffer) (cond (too_many (union_columns a b)) (Err TooManyColumns) (Ok (union_columns a b))))
    ≡ unless (cond (not d) (cond (not (too_many (union_columns a b))) None (Some (record { at = at; kind = TooManyColumns }))) (Some (record { at = at; kind = TypesDiffer }))) (typed (union_columns a b) op)) [
      | true ↦ refl
      | false ↦ elim (too_many (union_columns a b)) as (λ m. of_typing at op (cond m (Err TooManyColumns) (Ok (union_columns a b))) ≡ unless (cond (not m) None (Some (record { at = at; kind = TooManyColumns }))) (typed (union_columns a b) op)) [ true ↦ refl | false ↦ refl ]
    ]

module _ (at : ℕ) (a b : Columns) (op : Op) (t : Typing) (r : Result Node ReadFault) (made : IfOk t (λ c. Judges (λ n. n) (answered (typed c op)) r)) (stopped : IfErr t (λ kind. Judges (λ (n : Node). n) (refused at kind) r)) where
  pub join_placed : t ≡ join_type a b → Judges (λ n. n) (by_rules (join_rules at a b) (typed (join_columns a b) op)) r
  join_placed is = subst (λ (j : Judged Node). Judges (λ n. n) j r) (ap (of_typing at op) is ∙ join_judged at op a b) (placed_judges at op t r made stopped)

  pub union_placed : t ≡ union_type a b → Judges (λ n. n) (by_rules (union_rules at a b) (typed (union_columns a b) op)) r
  union_placed is = subst (λ (j : Judged Node). Judges (λ n. n) j r) (ap (of_typing at op) is ∙ union_judged at op a b) (placed_judges at op t r made stopped)

-- ---- prints

module _ (name : AstName) (found : Option Columns) (by : Option AstBy) where
  pub print_unknown : (r : Refusal) → by_rules (known_rules NoName name found) (columns_in found) ≡ Err r → printed name found by ≡ Err r
  print_unknown r e = rules_before (known_rules NoName name found) (order_rules found by) (columns_in found) (Print name.name (order_in (columns_in found) by)) r e

  module _ (ty : Columns) (known : by_rules (known_rules NoName name found) (columns_in found) ≡ Ok ty) where
    is : found ≡ Some ty
    is =
        let p = rules_met (known_rules NoName name found) (columns_in found) ty known in
        known_met NoName name found p.0 ∙ ap (λ (c : Columns). Some c) p.1

    ordered : printed name found by ≡ by_rules (order_rules (Some ty) by) (Print name.name (order_in ty by))
    ordered =
        rules_behind (known_rules NoName name found) (order_rules found by) (columns_in found) ty (Print name.name (order_in (columns_in found) by)) known
        ∙ (λ i. by_rules (order_rules (is i) by) (Print name.name (order_in (columns_in (is i)) by)))

    pub print_made : (order : List Name) → by_rules (order_rules (Some ty) by) (order_in ty by) ≡ Ok order → printed name found by ≡ Ok (Print name.name order)
    print_made order e = ordered ∙ rules_map (order_rules (Some ty) by) (λ (o : List Name). Print name.name o) (order_in ty by) order e

    pub print_stop : (r : Refusal) → by_rules (order_rules (Some ty) by) (order_in ty by) ≡ Err r → printed name found by ≡ Err r
    print_stop r e = ordered ∙ rules_stop (order_rules (Some ty) by) (order_in ty by) (Print name.name (order_in ty by)) r e
