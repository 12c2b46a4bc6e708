-- Which rules of a node and of a statement are met.
use Rattle.std.specs.Prelude.{◌≡◌, ℕ, true, false, not, ◌||◌, List, [], ◌∷◌, ◌++◌, Option, Some, None}
use Rattle.std.proofs.Common.{refl, sym, ap, ◌∙◌, append_assoc}
use Rattle.std.proofs.Math.Bool.{or-true}
use Rattle.std.proofs.lemmas.Bool.{and_parts, and_from}
use Rattle.std.proofs.lemmas.List.{append-nil}
use Rattle.lara_data.specs.declared.refusal.Kind.{Kind}
use Rattle.lara_data.specs.declared.table_type.KeyCol.{KeyCol}
use Rattle.lara_data.specs.Algebra.{common_vals, join_columns, union_columns, agg_columns}
use Rattle.lara_data.specs.DistinctNames.{distinct_append}
use Rattle.lara_data.specs.Names.{Name, same_name, same_name_is, has, has_head, has_append, among, distinct, not_true}
use Rattle.lara_data.specs.TableTypes.{Columns, key_names}
use Rattle.lara_data.specs.TypeRules.{types_differ, is_none, too_many}
use Rattle.lara_data.specs.TypeRuleLaws.{IsJoin, IsUnion, IsAgg}
use Rattle.lara_data.specs.TypedScripts.{is_order}
use Rattle.lara_syntax.specs.declared.ast.AstBy.{AstBy}
use Rattle.lara_syntax.specs.declared.ast.AstName.{AstName}
use Rattle.lara_types.specs.CheckedTrees.{columns_in}
use Rattle.lara_types.specs.Checks.{order_in}
use Rattle.lara_types.specs.HasTypes.{IsOrder}
use Rattle.lara_types.specs.NameRules.{key_rules, once_rules}
use Rattle.lara_types.specs.NodeRules.{known_rules, join_rules, union_rules, agg_rules, order_rules}
use Rattle.lara_types.specs.RuleLaws.{met_parts, met_from, first_met, rest_met, met_cons, met_end}
use Rattle.lara_types.specs.Rules.{AllMet}
use Rattle.lara_types.specs.Written.{plain}

-- ---- joins and unions

pub join_met : (at : ℕ) (a b : Columns) → AllMet (join_rules at a b) → IsJoin a b (join_columns a b)
join_met at a b m =
    let two = rest_met _ _ m in
    let three = rest_met _ _ two in
    record { agree = not_true (types_differ a b) (first_met _ _ m); some = not_true (is_none (common_vals a.vals b.vals)) (first_met _ _ two); few = not_true (too_many (join_columns a b)) (first_met _ _ three); is = refl }

pub join_meets : (at : ℕ) (a b c : Columns) → IsJoin a b c → AllMet (join_rules at a b)
join_meets at a b c h = met_cons _ _ (ap not h.agree) (met_cons _ _ (ap not h.some) (met_cons _ _ (ap not h.few) met_end))

pub union_met : (at : ℕ) (a b : Columns) → AllMet (union_rules at a b) → IsUnion a b (union_columns a b)
union_met at a b m = record { agree = not_true (types_differ a b) (first_met _ _ m); few = not_true (too_many (union_columns a b)) (first_met _ _ (rest_met _ _ m)); is = refl }

pub union_meets : (at : ℕ) (a b c : Columns) → IsUnion a b c → AllMet (union_rules at a b)
union_meets at a b c h = met_cons _ _ (ap not h.agree) (met_cons _ _ (ap not h.few) met_end)

-- ---- names

-- a name in a list without repeats is none of those before it
pub apart_before : (seen : List Name) (n : Name) (ns : List Name) → distinct (seen ++ n ∷ ns) ≡ true → has seen n ≡ false
unfolding distinct has
apart_before [] n ns d = refl
apart_before (m ∷ seen) n ns d =
    let parts = and_parts (not (has (seen ++ n ∷ ns) m)) (distinct (seen ++ n ∷ ns)) d in
    elim (same_name n m) as (λ b. same_name n m ≡ b → (b || has seen n) ≡ false) [
      | true ↦ λ s. sym (again m (sym (same_name_is n m s))) ∙ not_true (has (seen ++ n ∷ ns) m) parts.0
      | false ↦ λ s. apart_before seen n ns parts.1
    ] refl
  where
    again : (m : Name) → m ≡ n → has (seen ++ n ∷ ns) m ≡ true
    again m e = has_append seen (n ∷ ns) m ∙ ap (λ b. has seen m || b) (ap (has (n ∷ ns)) e ∙ has_head n ns) ∙ or-true (has seen m)

alone : (n : Name) → distinct (n ∷ []) ≡ true
unfolding distinct has
alone n = refl

pub none_twice : distinct [] ≡ true
unfolding distinct
none_twice = refl

not_it : (seen : List Name) (n m : Name) → has seen n ≡ false → has seen m ≡ true → has (n ∷ []) m ≡ false
unfolding has
not_it seen n m f h =
    elim (same_name m n) as (λ b. same_name m n ≡ b → (b || false) ≡ false) [
      | true ↦ λ s. let e : true ≡ false = sym h ∙ ap (has seen) (same_name_is m n s) ∙ f in absurd cc
      | false ↦ λ s. refl
    ] refl

-- one more name that has not stood is distinct from those before
one_apart : (seen : List Name) (n : Name) → distinct seen ≡ true → has seen n ≡ false → distinct (seen ++ n ∷ []) ≡ true
one_apart seen n d f = distinct_append seen (n ∷ []) d (alone n) (λ m h. not_it seen n m f h)

pub once_met : (seen : List Name) (ns : List AstName) → distinct seen ≡ true → AllMet (once_rules seen ns) → distinct (seen ++ plain ns) ≡ true
unfolding AllMet once_rules
once_met seen [] d m = ap distinct (append-nil seen) ∙ d
once_met seen (n ∷ ns) d m =
    ap distinct (sym (append_assoc seen (n.name ∷ []) (plain ns)))
    ∙ once_met (seen ++ n.name ∷ []) ns (one_apart seen n.name d (not_true (has seen n.name) m.0)) m.1

pub once_meets : (seen : List Name) (ns : List AstName) → distinct (seen ++ plain ns) ≡ true → AllMet (once_rules seen ns)
unfolding AllMet once_rules
once_meets seen [] d = tt
once_meets seen (n ∷ ns) d =
    (ap not (apart_before seen n.name (plain ns) d), once_meets (seen ++ n.name ∷ []) ns (ap distinct (append_assoc seen (n.name ∷ []) (plain ns)) ∙ d))

keys_met : (keys : List KeyCol) (ns : List AstName) → AllMet (key_rules keys ns) → among (key_names keys) (plain ns) ≡ true
unfolding AllMet key_rules among
keys_met keys [] m = refl
keys_met keys (n ∷ ns) m = and_from (has (key_names keys) n.name) (among (key_names keys) (plain ns)) m.0 (keys_met keys ns m.1)

keys_meet : (keys : List KeyCol) (ns : List AstName) → among (key_names keys) (plain ns) ≡ true → AllMet (key_rules keys ns)
unfolding AllMet key_rules among
keys_meet keys [] h = tt
keys_meet keys (n ∷ ns) h =
    let p = and_parts (has (key_names keys) n.name) (among (key_names keys) (plain ns)) h in
    (p.0, keys_meet keys ns p.1)

pub agg_met : (a : Columns) (ks : List AstName) → AllMet (agg_rules a ks) → IsAgg a (plain ks) (agg_columns a (plain ks))
agg_met a ks m =
    let p = met_parts (key_rules a.keys ks) (once_rules [] ks) m in
    record { keys = keys_met a.keys ks p.0; once = once_met [] ks none_twice p.1; is = refl }

pub agg_meets : (a : Columns) (ks : List AstName) (c : Columns) → IsAgg a (plain ks) c → AllMet (agg_rules a ks)
agg_meets a ks c h = met_from (key_rules a.keys ks) (once_rules [] ks) (keys_meet a.keys ks h.keys) (once_meets [] ks h.once)

-- a name of which a type was found
pub known_met : (kind : Kind) (n : AstName) (found : Option Columns) → AllMet (known_rules kind n found) → found ≡ Some (columns_in found)
known_met kind n None m = let e : false ≡ true = first_met _ _ m in absurd cc
known_met kind n (Some ty) m = refl

pub known_meets : (kind : Kind) (n : AstName) (ty : Columns) → AllMet (known_rules kind n (Some ty))
known_meets kind n ty = met_cons _ _ refl met_end

-- ---- orders

pub order_met : (ty : Columns) (by : Option AstBy) → AllMet (order_rules (Some ty) by) → IsOrder ty by (order_in ty by)
order_met ty None m = refl
order_met ty (Some by) m = (refl, first_met _ _ m)

pub order_meets : (ty : Columns) (by : Option AstBy) (order : List Name) → IsOrder ty by order → AllMet (order_rules (Some ty) by) × (order_in ty by ≡ order)
order_meets ty None order h = (met_end, sym h)
order_meets ty (Some by) order h = (met_cons _ _ (ap (λ o. is_order o (key_names ty.keys)) (sym h.0) ∙ h.1) met_end, sym h.0)
