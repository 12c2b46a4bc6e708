-- The columns of a literal, by the walk over their names.
use Rattle.std.specs.Prelude.{◌≡◌, ℕ, Bool, true, false, cond, not, List, [], ◌∷◌, ◌++◌, map, Option, Some, None, Result, Ok, Err}
use Rattle.std.proofs.Common.{refl, sym, ap, ◌∙◌}
use Rattle.lara_data.specs.declared.refusal.Kind.TheVariants.{NameTwice, TooManyColumns}
use Rattle.lara_data.specs.declared.refusal.Refusal.{Refusal}
use Rattle.lara_data.specs.declared.table_type.KeyCol.{KeyCol}
use Rattle.lara_data.specs.declared.table_type.ValCol.{ValCol}
use Rattle.lara_data.specs.Judgements.{Judged, refused}
use Rattle.lara_data.specs.Names.{Name, has}
use Rattle.lara_data.specs.TableTypes.{Columns, are_columns, typed_columns}
use Rattle.lara_syntax.specs.declared.ast.AstKeyCol.{AstKeyCol}
use Rattle.lara_syntax.specs.declared.ast.AstName.{AstName}
use Rattle.lara_syntax.specs.declared.ast.AstType.{AstType}
use Rattle.lara_syntax.specs.declared.ast.AstValCol.{AstValCol}
use Rattle.lara_base.specs.Results.{◌>>=◌, bind_same}
use Rattle.lara_types.specs.Answered.{answered, ok_is}
use Rattle.lara_types.specs.LiteralTypes.{one_more_name, one_more_val, distinct_names}
use Rattle.lara_types.specs.NameRules.{once_rules}
use Rattle.lara_types.specs.NodeRules.{column_rules}
use Rattle.lara_types.specs.RuleLaws.{first_here, first_behind, rules_refuse}
use Rattle.lara_types.specs.Rules.{first_broken, unless, by_rules, rule}
use Rattle.lara_types.specs.WalkLaws.{walk-append}
use Rattle.lara_types.specs.Walks.{walk}
use Rattle.lara_types.specs.Written.{names_of, key_col, val_col, columns}

-- ---- names

-- steps on what is made of each item
pub walk-map : {S A B E : Type 0} (step : S → B → Result S E) (f : A → B) (s : S) (xs : List A) → walk (λ t x. step t (f x)) s xs ≡ walk step s (map f xs)
unfolding walk
walk-map step f s [] = refl
walk-map step f s (x ∷ xs) = bind_same (step s (f x)) (λ t. walk (λ u y. step u (f y)) t xs) (λ t. walk step t (map f xs)) (λ t. walk-map step f t xs)

one_walk : (keys : List AstKeyCol) (vals : List AstValCol) → distinct_names keys vals ≡ walk one_more_name [] (names_of keys vals)
unfolding distinct_names
one_walk keys vals =
    (λ i. walk-map one_more_name (λ (c : AstKeyCol). c.name) [] keys i >>= λ names. walk one_more_val names vals)
    ∙ bind_same (walk one_more_name [] (map (λ (c : AstKeyCol). c.name) keys)) (λ names. walk one_more_val names vals) (λ names. walk one_more_name names (map (λ (c : AstValCol). c.name) vals)) (λ names. walk-map one_more_name (λ (c : AstValCol). c.name) names vals)
    ∙ sym (walk-append one_more_name [] (map (λ (c : AstKeyCol). c.name) keys) (map (λ (c : AstValCol). c.name) vals))

-- what a judgement refuses
abbrev pub refusal_of : {A : Type 0} → Judged A → Option Refusal
refusal_of (Ok x) = None
refusal_of (Err r) = Some r

pub names_judged : (seen : List Name) (ns : List AstName) → refusal_of (walk one_more_name seen ns) ≡ first_broken (once_rules seen ns)
unfolding walk first_broken once_rules
names_judged seen [] = refl
names_judged seen (n ∷ ns) =
    elim (has seen n.name) as (λ b. refusal_of (cond b (refused n.at NameTwice) (Ok (seen ++ n.name ∷ [])) >>= λ t. walk one_more_name t ns) ≡ cond (not b) (first_broken (once_rules (seen ++ n.name ∷ []) ns)) (Some (record { at = n.at; kind = NameTwice }))) [
      | true ↦ refl
      | false ↦ names_judged (seen ++ n.name ∷ []) ns
    ]

all_names : (ty : AstType) → first_broken (once_rules [] (names_of ty.keys ty.vals)) ≡ refusal_of (distinct_names ty.keys ty.vals)
all_names ty = sym (ap refusal_of (one_walk ty.keys ty.vals) ∙ names_judged [] (names_of ty.keys ty.vals))

-- ---- columns

last_rule : (at : ℕ) (keys : List KeyCol) (vals : List ValCol) → first_broken (rule at TooManyColumns (are_columns keys vals) ∷ []) ≡ cond (are_columns keys vals) None (Some (record { at = at; kind = TooManyColumns }))
unfolding first_broken
last_rule at keys vals = refl

-- columns that are a table's, and such as are not
if_made : (b : Bool) (own c : Columns) (r : Refusal) → Some c ≡ cond b (Some own) None → unless (cond b None (Some r)) own ≡ Ok c
if_made true own c r e = let z : c ≡ own = cc in ap (λ (d : Columns). answered d) (sym z)
if_made false own c r e = absurd cc

if_over : (b : Bool) (own : Columns) (r : Refusal) → None ≡ cond b (Some own) None → unless (cond b None (Some r)) own ≡ Err r
if_over true own r e = absurd cc
if_over false own r e = refl

-- the keys and the values are those of the type
module _ (at : ℕ) (ty : AstType) (of_keys : List AstKeyCol) (of_vals : List AstValCol) (k : of_keys ≡ ty.keys) (v : of_vals ≡ ty.vals) where
  names_are : distinct_names ty.keys ty.vals ≡ distinct_names of_keys of_vals
  names_are = λ i. distinct_names (sym k i) (sym v i)

  -- a name that stood before
  pub columns_stop : (r : Refusal) → distinct_names of_keys of_vals ≡ Err r → by_rules (column_rules at ty) (columns ty) ≡ Err r
  columns_stop r e = rules_refuse (column_rules at ty) (columns ty) r (first_here (once_rules [] (names_of ty.keys ty.vals)) _ r (all_names ty ∙ ap refusal_of (names_are ∙ e)))

  module _ (ns : List Name) (names : distinct_names of_keys of_vals ≡ Ok ns) (keys : List KeyCol) (vals : List ValCol) (made_keys : answered (map key_col of_keys) ≡ Ok keys) (made_vals : answered (map val_col of_vals) ≡ Ok vals) where
    -- names that differ
    of_columns : first_broken (column_rules at ty) ≡ cond (are_columns (map key_col ty.keys) (map val_col ty.vals)) None (Some (record { at = at; kind = TooManyColumns }))
    of_columns = first_behind (once_rules [] (names_of ty.keys ty.vals)) _ (all_names ty ∙ ap refusal_of (names_are ∙ names)) ∙ last_rule at (map key_col ty.keys) (map val_col ty.vals)

    keys_are : map key_col ty.keys ≡ keys
    keys_are = ap (map key_col) (sym k) ∙ ok_is (map key_col of_keys) keys made_keys

    vals_are : map val_col ty.vals ≡ vals
    vals_are = ap (map val_col) (sym v) ∙ ok_is (map val_col of_vals) vals made_vals

    judged : by_rules (column_rules at ty) (columns ty) ≡ unless (cond (are_columns keys vals) None (Some (record { at = at; kind = TooManyColumns }))) (record { keys = keys; vals = vals })
    judged = ap (λ o. unless o (columns ty)) of_columns ∙ (λ i. unless (cond (are_columns (keys_are i) (vals_are i)) None (Some (record { at = at; kind = TooManyColumns }))) (record { keys = keys_are i; vals = vals_are i }))

    pub columns_made : (c : Columns) → Some c ≡ typed_columns keys vals → by_rules (column_rules at ty) (columns ty) ≡ Ok c
    columns_made c e = judged ∙ if_made (are_columns keys vals) (record { keys = keys; vals = vals }) c (record { at = at; kind = TooManyColumns }) e

    pub columns_over : None ≡ typed_columns keys vals → by_rules (column_rules at ty) (columns ty) ≡ Err (record { at = at; kind = TooManyColumns })
    columns_over e = judged ∙ if_over (are_columns keys vals) (record { keys = keys; vals = vals }) (record { at = at; kind = TooManyColumns }) e
