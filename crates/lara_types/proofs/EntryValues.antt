-- Entries that are read, one after the other.
use Rattle.std.specs.Prelude.{◌≡◌, ◌<◌, ◌+◌, ℕ, true, List, [], ◌∷◌, ◌++◌, length, take, map, None, Some, Ok, Err}
use Rattle.std.proofs.Common.{refl, sym, ap, subst, ◌∙◌, get_or, add-one, append_assoc, drop}
use Rattle.std.proofs.Math.Seq.{take-suc}
use Rattle.std.proofs.lemmas.List.{append-nil, map-append, take-append-drop, drop_more}
use Rattle.lara_semiring.specs.Rows.{row_has}
use Rattle.lara_syntax.specs.declared.ast.AstEntry.{AstEntry}
use Rattle.lara_data.specs.declared.refusal.Refusal.{Refusal}
use Rattle.lara_data.specs.TableTypes.{Columns, types}
use Rattle.lara_data.specs.Tables.{Entry, Entries}
use Rattle.lara_types.specs.Answered.{answered}
use Rattle.lara_types.specs.LiteralLaws.{entry_met}
use Rattle.lara_types.specs.LiteralValues.{entry_value}
use Rattle.lara_types.specs.NodeRules.{entry_rules, entries_rules}
use Rattle.lara_types.specs.RuleLaws.{all_met, met_from, met_end, first_here, first_behind, none_broken, rules_met, rules_answer, rules_refused, rules_refuse}
use Rattle.lara_types.specs.Rules.{AllMet, first_broken, by_rules}
use Rattle.lara_types.proofs.LiteralFacts.{vals_are}

pub ruleset behind_rules = (append_assoc, append-nil)

-- the row of an entry that meets its rules is of the columns' types
pub entry_has : (ty : Columns) (x : AstEntry) (e : Entry) → None ≡ first_broken (entry_rules ty x) → e ≡ entry_value ty x → row_has (types ty.vals) e.row ≡ true
entry_has ty x e n is =
    ap (λ (y : Entry). row_has (types ty.vals) y.row) is
    ∙ (vals_are ty.vals x.row (entry_value ty x).row (entry_met ty x (all_met (entry_rules ty x) (sym n))).1).0

entries_append : (ty : Columns) (xs ys : List AstEntry) → entries_rules ty (xs ++ ys) ≡ entries_rules ty xs ++ entries_rules ty ys
unfolding entries_rules
entries_append ty [] ys = refl
entries_append ty (x ∷ xs) ys = ap (λ rs. entry_rules ty x ++ rs) (entries_append ty xs ys) ∙ sym (append_assoc (entry_rules ty x) (entries_rules ty xs) (entries_rules ty ys))

entries_last : (ty : Columns) (xs : List AstEntry) (x : AstEntry) → AllMet (entries_rules ty xs) → AllMet (entry_rules ty x) → AllMet (entries_rules ty (xs ++ x ∷ []))
unfolding entries_rules
entries_last ty xs x m n = subst AllMet (sym (entries_append ty xs (x ∷ []))) (met_from (entries_rules ty xs) (entry_rules ty x ++ []) m (met_from (entry_rules ty x) [] n met_end))

entries_first : (ty : Columns) (xs ys : List AstEntry) (x : AstEntry) (r : Refusal) → first_broken (entries_rules ty xs) ≡ None → first_broken (entry_rules ty x) ≡ Some r → first_broken (entries_rules ty (xs ++ x ∷ ys)) ≡ Some r
unfolding entries_rules
entries_first ty xs ys x r n b =
    ap first_broken (entries_append ty xs (x ∷ ys))
    ∙ first_behind (entries_rules ty xs) (entry_rules ty x ++ entries_rules ty ys) n
    ∙ first_here (entry_rules ty x) (entries_rules ty ys) r b

pub entries_none : (ty : Columns) → by_rules (entries_rules ty []) (map (entry_value ty) []) ≡ Ok []
unfolding entries_rules
entries_none ty = rules_answer [] [] met_end

-- one entry behind those that were read
read_last : (ty : Columns) (xs : List AstEntry) (x : AstEntry) (read : Entries) (e : Entry) → by_rules (entries_rules ty xs) (map (entry_value ty) xs) ≡ Ok read → by_rules (entry_rules ty x) (entry_value ty x) ≡ Ok e → by_rules (entries_rules ty (xs ++ x ∷ [])) (map (entry_value ty) (xs ++ x ∷ [])) ≡ Ok (read ++ e ∷ [])
read_last ty xs x read e so_far one =
    let p = rules_met (entries_rules ty xs) (map (entry_value ty) xs) read so_far in
    let q = rules_met (entry_rules ty x) (entry_value ty x) e one in
    rules_answer (entries_rules ty (xs ++ x ∷ [])) (map (entry_value ty) (xs ++ x ∷ [])) (entries_last ty xs x p.0 q.0)
    ∙ ap (λ (es : Entries). answered es) (map-append (entry_value ty) xs (x ∷ []))
    ∙ (λ i. answered (p.1 i ++ q.1 i ∷ []))

module _ (ty : Columns) (xs : List AstEntry) (i : ℕ) (x : AstEntry) (read : Entries) (within : i < length xs) (here : x ≡ get_or xs i x) (so_far : by_rules (entries_rules ty (take i xs)) (map (entry_value ty) (take i xs)) ≡ Ok read) where
  pub entries_more : (e : Entry) → by_rules (entry_rules ty x) (entry_value ty x) ≡ Ok e → by_rules (entries_rules ty (take (i + 1) xs)) (map (entry_value ty) (take (i + 1) xs)) ≡ Ok (read ++ e ∷ [])
  entries_more e one = rw (add-one, take-suc xs i x within, ← here) (read_last ty (take i xs) x read e so_far one)

  pub entries_stop : (r : Refusal) → by_rules (entry_rules ty x) (entry_value ty x) ≡ Err r → by_rules (entries_rules ty xs) (map (entry_value ty) xs) ≡ Err r
  entries_stop r one =
      let parts : take i xs ++ x ∷ drop (i + 1) xs ≡ xs = rw (here) (sym (ap (λ ys. take i xs ++ ys) (drop_more xs i x within))) ∙ take-append-drop i xs in
      let none = none_broken (entries_rules ty (take i xs)) (rules_met (entries_rules ty (take i xs)) (map (entry_value ty) (take i xs)) read so_far).0 in
      rules_refuse (entries_rules ty xs) (map (entry_value ty) xs) r
      (subst (λ ys. first_broken (entries_rules ty ys) ≡ Some r) parts (entries_first ty (take i xs) (drop (i + 1) xs) x r none (rules_refused (entry_rules ty x) (entry_value ty x) r one)))
