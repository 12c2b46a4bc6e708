-- The names of a literal's columns, one after the other.
use Rattle.std.specs.Prelude.{◌≡◌, ◌<◌, ◌+◌, ℕ, List, [], ◌∷◌, ◌++◌, take, length, map, Ok, Err}
use Rattle.std.proofs.Common.{refl, sym, ap, ◌∙◌, get_or, append_assoc, ◌≤◌}
use Rattle.std.proofs.lemmas.List.{take_all}
use Rattle.std.specs.BTreeSet.{BTreeSet}
use Rattle.lara_types.specs.Seen.{Holds}
use Rattle.lara_syntax.specs.declared.ast.AstKeyCol.{AstKeyCol}
use Rattle.lara_syntax.specs.declared.ast.AstValCol.{AstValCol}
use Rattle.lara_data.specs.declared.refusal.Refusal.{Refusal}
use Rattle.lara_data.specs.declared.refusal.ReadFault.{ReadFault}
use Rattle.lara_data.specs.declared.refusal.ReadFault.TheVariants.{Refused, Memory}
use Rattle.lara_types.specs.Walks.{walk}
use Rattle.lara_data.specs.Judgements.{Judged, FaultJudges}
use Rattle.lara_types.specs.LiteralTypes.{one_more_key, one_more_val, distinct_names, key_col_name, val_col_name}
use Rattle.lara_types.specs.WalkLaws.{walk-more, walk-stops, map-more}

-- a fault of a step is a fault of what the step's refusal refuses
pub fault_through : {A B : Type 0} (step : Judged A) (whole : Judged B) (fault : ReadFault) → ((r : Refusal) → step ≡ Err r → whole ≡ Err r) → FaultJudges step fault → FaultJudges whole fault
fault_through step whole (Refused r) h f = h r f
fault_through step whole Memory h f = tt

module _ (keys : List AstKeyCol) (vals : List AstValCol) (i : ℕ) where
  -- one key column more
  pub keys_more : (c : AstKeyCol) → i < length keys → c ≡ get_or keys i c → walk one_more_key [] (take i keys) ≡ Ok (map key_col_name (take i keys)) → one_more_key (map key_col_name (take i keys)) c ≡ Ok (map key_col_name (take i keys) ++ c.name.name ∷ []) → walk one_more_key [] (take (i + 1) keys) ≡ Ok (map key_col_name (take (i + 1) keys))
  keys_more c h here so_far e =
      walk-more one_more_key [] (map key_col_name (take i keys)) keys i c _ h here so_far e
      ∙ ap (λ (names : List (List ℕ)). Ok names) (sym (map-more key_col_name keys i c h here))

  -- a key column's name stood before
  pub keys_stop : (c : AstKeyCol) (r : Refusal) → i < length keys → c ≡ get_or keys i c → walk one_more_key [] (take i keys) ≡ Ok (map key_col_name (take i keys)) → one_more_key (map key_col_name (take i keys)) c ≡ Err r → distinct_names keys vals ≡ Err r
  unfolding distinct_names
  keys_stop c r h here so_far e = rw (walk-stops one_more_key [] _ keys i c r h here so_far e) refl

  -- one value column more
  pub vals_more : (c : AstValCol) → i < length vals → c ≡ get_or vals i c → walk one_more_val (map key_col_name keys) (take i vals) ≡ Ok (map key_col_name keys ++ map val_col_name (take i vals)) → one_more_val (map key_col_name keys ++ map val_col_name (take i vals)) c ≡ Ok ((map key_col_name keys ++ map val_col_name (take i vals)) ++ c.name.name ∷ []) → walk one_more_val (map key_col_name keys) (take (i + 1) vals) ≡ Ok (map key_col_name keys ++ map val_col_name (take (i + 1) vals))
  vals_more c h here so_far e =
      walk-more one_more_val (map key_col_name keys) _ vals i c _ h here so_far e
      ∙ ap (λ (names : List (List ℕ)). Ok names) (val_names_more keys vals i c h here)
    where
      val_names_more : (keys : List AstKeyCol) (vals : List AstValCol) (i : ℕ) (c : AstValCol) → i < length vals → c ≡ get_or vals i c → (map key_col_name keys ++ map val_col_name (take i vals)) ++ c.name.name ∷ [] ≡ map key_col_name keys ++ map val_col_name (take (i + 1) vals)
      val_names_more keys vals i c h here = rw (append_assoc, map-more val_col_name vals i c h here) refl

  -- a value column's name stood before
  pub vals_stop : (c : AstValCol) (r : Refusal) → walk one_more_key [] keys ≡ Ok (map key_col_name keys) → i < length vals → c ≡ get_or vals i c → walk one_more_val (map key_col_name keys) (take i vals) ≡ Ok (map key_col_name keys ++ map val_col_name (take i vals)) → one_more_val (map key_col_name keys ++ map val_col_name (take i vals)) c ≡ Err r → distinct_names keys vals ≡ Err r
  unfolding distinct_names
  vals_stop c r all h here so_far e = rw (all, walk-stops one_more_val (map key_col_name keys) _ vals i c r h here so_far e) refl

-- all names differ
pub names_end : (keys : List AstKeyCol) (vals : List AstValCol) (names : List (List ℕ)) → walk one_more_key [] keys ≡ Ok (map key_col_name keys) → walk one_more_val (map key_col_name keys) vals ≡ Ok names → distinct_names keys vals ≡ Ok names
unfolding distinct_names
names_end keys vals names all_keys all_vals = rw all_keys all_vals

-- the set with one key column more
pub holds_key : (keys : List AstKeyCol) (vals : List AstValCol) (i : ℕ) (c : AstKeyCol) (set : BTreeSet (List ℕ)) → i < length keys → c ≡ get_or keys i c → Holds set (map key_col_name (take i keys) ++ c.name.name ∷ []) → Holds set (map key_col_name (take (i + 1) keys))
holds_key keys vals i c set h here held = rw (map-more key_col_name keys i c h here) held

-- the set with one value column more
pub holds_val : (keys : List AstKeyCol) (vals : List AstValCol) (i : ℕ) (c : AstValCol) (set : BTreeSet (List ℕ)) → i < length vals → c ≡ get_or vals i c → Holds set ((map key_col_name keys ++ map val_col_name (take i vals)) ++ c.name.name ∷ []) → Holds set (map key_col_name keys ++ map val_col_name (take (i + 1) vals))
holds_val keys vals i c set h here held = rw (map-more val_col_name vals i c h here, ← append_assoc) held

pub keys_all : (keys : List AstKeyCol) (vals : List AstValCol) (i : ℕ) → length keys ≤ i → take i keys ≡ keys
keys_all keys vals i h = take_all i keys h

pub vals_all : (keys : List AstKeyCol) (vals : List AstValCol) (i : ℕ) → length vals ≤ i → take i vals ≡ vals
vals_all keys vals i h = take_all i vals h
