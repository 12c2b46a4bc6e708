-- Two heads with one text are one.
use Rattle.std.specs.Prelude.{◌≡◌, ℕ, true, false, cond, List, [], ◌∷◌, ◌++◌, codes}
use Rattle.std.proofs.Common.{refl, sym, ◌∙◌}
use Rattle.std.specs.List.{join_by}
use Rattle.std.proofs.lemmas.List.{append_assoc}
use Rattle.lara_base.specs.Names.{goes_on}
use Rattle.lara_data.specs.declared.table_type.KeyCol.{KeyCol}
use Rattle.lara_data.specs.TableTypes.{Columns}
use Rattle.lara_data.specs.Names.{Name, same_name}
use Rattle.lara_data.specs.Algebra.{key_col, key_cols}
use Rattle.lara_text.specs.TableTexts.{val_column_text, key_columns_text, head_text}
use Rattle.lara_text.specs.Delimited.{Each, rest_is}
use Rattle.lara_text.specs.Columns.{IsName, KeyIsNamed, ValIsNamed, IsDelimited-name, key_columns_apart, val_columns_apart}

-- the names of a type's columns are names
pub record AreNamed (ty : Columns) : Type 0 where
  pub keys : Each KeyIsNamed ty.keys
  pub vals : Each ValIsNamed ty.vals

-- what the text of a head tells: the name, the key columns in the order, the value columns, and what stands behind it
pub record HeadsAgree (m n : Name) (t u : Columns) (o p : List Name) (r s : List ℕ) : Type 0 where
  pub name : m ≡ n
  pub keys : key_cols t.keys o ≡ key_cols u.keys p
  pub vals : t.vals ≡ u.vals
  pub behind : r ≡ s

each_append : {X : Type 0} (P : X → Type 0) (xs ys : List X) → Each P xs → Each P ys → Each P (xs ++ ys)
unfolding Each
each_append P [] ys p q = q
each_append P (x ∷ xs) ys p q = (p.0, each_append P xs ys p.1 q)

each_key_col : (P : KeyCol → Type 0) (keys : List KeyCol) (n : Name) → Each P keys → Each P (key_col keys n)
unfolding Each key_col
each_key_col P [] n p = tt
each_key_col P (k ∷ keys) n p = elim (same_name n k.name) as (λ b. Each P (cond b (k ∷ []) (key_col keys n))) [ true ↦ (p.0, tt) | false ↦ each_key_col P keys n p.1 ]

-- what all key columns have, those of some names have
pub each_key_cols : (P : KeyCol → Type 0) (keys : List KeyCol) (ns : List Name) → Each P keys → Each P (key_cols keys ns)
unfolding Each key_cols
each_key_cols P keys [] p = tt
each_key_cols P keys (n ∷ ns) p = each_append P (key_col keys n) (key_cols keys ns) (each_key_col P keys n p) (each_key_cols P keys ns p)

bracket : goes_on 91 ≡ false
unfolding goes_on
bracket = refl

-- the bytes of a head in front of others, from left to right
parts : (n : Name) (t : Columns) (o : List Name) (r : List ℕ) → head_text n t o ++ r ≡ n ++ (91 ∷ (key_columns_text (key_cols t.keys o) ++ (58 ∷ 32 ∷ (join_by val_column_text (codes ", ") t.vals ++ 93 ∷ r))))
unfolding head_text
parts n t o r =
    let keys = key_columns_text (key_cols t.keys o) in
    let vals = join_by val_column_text (codes ", ") t.vals in
    append_assoc (n ++ codes "[" ++ keys ++ codes ": " ++ vals) (codes "]") r
    ∙ append_assoc (n ++ codes "[" ++ keys ++ codes ": ") vals (93 ∷ r)
    ∙ append_assoc (n ++ codes "[" ++ keys) (codes ": ") (vals ++ 93 ∷ r)
    ∙ append_assoc (n ++ codes "[") keys (58 ∷ 32 ∷ (vals ++ 93 ∷ r))
    ∙ append_assoc n (codes "[") (keys ++ (58 ∷ 32 ∷ (vals ++ 93 ∷ r)))

pub head_text-apart : (m n : Name) (t u : Columns) (o p : List Name) (r s : List ℕ) → IsName m → IsName n → AreNamed t → AreNamed u → head_text m t o ++ r ≡ head_text n u p ++ s → HeadsAgree m n t u o p r s
head_text-apart m n t u o p r s h k a b e =
    let names = IsDelimited-name.apart m n _ _ h k bracket bracket (sym (parts m t o r) ∙ e ∙ parts n u p s) in
    let keys = key_columns_apart (key_cols t.keys o) (key_cols u.keys p) _ _ (each_key_cols KeyIsNamed t.keys o a.keys) (each_key_cols KeyIsNamed u.keys p b.keys) (rest_is names.1) in
    let vals = val_columns_apart t.vals u.vals r s a.vals b.vals (rest_is keys.1) in
    record { name = names.0; keys = keys.0; vals = vals.0; behind = vals.1 }
