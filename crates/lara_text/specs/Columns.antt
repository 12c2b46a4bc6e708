-- Columns as texts: each is told from what stands behind it, and so are the lists of a head.
use Rattle.std.specs.Prelude.{◌≡◌, ℕ, ◌==◌, Bool, true, false, ◌&&◌, ◌||◌, not, nat_lt, List, [], ◌∷◌, ◌++◌, length, codes}
use Rattle.std.proofs.Common.{refl, sym, ◌∙◌, arith}
use Rattle.std.specs.List.{flat_map, list_all, join_by}
use Rattle.std.specs.Char.{is_ascii_digit, is_ascii_uppercase, is_ascii_lowercase}
use Rattle.std.proofs.lemmas.Bool.{and_parts, and_from}
use Rattle.std.proofs.lemmas.List.{append_assoc, append_cancel_left}
use Rattle.lara_base.specs.Names.{starts_name, goes_on, is_keyword, is_name}
use Rattle.lara_data.specs.declared.table_type.KeyCol.{KeyCol}
use Rattle.lara_data.specs.declared.table_type.ValCol.{ValCol}
use Rattle.lara_data.specs.Names.{Name}
use Rattle.lara_text.specs.TableTexts.{key_type_text, val_type_text, key_column_text, val_column_text, key_columns_text}
use Rattle.lara_text.specs.Delimited.{Ends, IsDelimited, BeginsWithin, IsRun, IsDelimited-run, BeginsWithin-run, Each, rest_is, joined_apart}
use Rattle.lara_text.specs.TypeWords.{IsDelimited-key_type, IsDelimited-val_type}

-- the bytes are a name
abbrev pub IsName : Name → Type 0
IsName n = is_name n ≡ true

-- the names of the columns are names
abbrev pub KeyIsNamed : KeyCol → Type 0
KeyIsNamed k = IsName k.name

abbrev pub ValIsNamed : ValCol → Type 0
ValIsNamed v = IsName v.name

-- ---- names

widened : (d u l x : Bool) → ((u || l) || x) ≡ true → (((d || u) || l) || x) ≡ true
widened true u l x h = refl
widened false u l x h = h

start_goes_on : (b : ℕ) → starts_name b ≡ true → goes_on b ≡ true
unfolding starts_name goes_on
start_goes_on b h = widened (is_ascii_digit b) (is_ascii_uppercase b) (is_ascii_lowercase b) (b == 95) h

name_all : (n : Name) → IsName n → list_all goes_on n ≡ true
unfolding is_name
name_all [] h = cc
name_all (b ∷ bs) h =
    let front = (and_parts (starts_name b && list_all goes_on bs && nat_lt (length bs) 64) (not (is_keyword (b ∷ bs))) h).0 in
    let bytes = (and_parts (starts_name b && list_all goes_on bs) (nat_lt (length bs) 64) front).0 in
    let both = and_parts (starts_name b) (list_all goes_on bs) bytes in
    and_from (goes_on b) (list_all goes_on bs) (start_goes_on b both.0) both.1

name_some : (n : Name) → IsName n → n ≡ [] → ⊥
unfolding is_name
name_some [] h e = cc
name_some (b ∷ bs) h e = cc

name_run : IsRun IsName goes_on (λ n. n)
name_run = record { all = name_all; some = name_some; told = λ m n p q e. e }

pub IsDelimited-name : IsDelimited IsName goes_on (λ n. n)
IsDelimited-name = IsDelimited-run IsName goes_on (λ n. n) name_run

name_begun : (n : Name) (r s : List ℕ) → IsName n → Ends goes_on s → n ++ r ≡ s → ⊥
name_begun = (BeginsWithin-run IsName goes_on (λ n. n) name_run).begun

-- ---- a column: its name, and the word of its type

colon_ends : goes_on 58 ≡ false
unfolding goes_on
colon_ends = refl

comma_ends : goes_on 44 ≡ false
unfolding goes_on
comma_ends = refl

space_ends : goes_on 32 ≡ false
unfolding goes_on
space_ends = refl

bracket_ends : goes_on 93 ≡ false
unfolding goes_on
bracket_ends = refl

-- the bytes of a column in front of others, from left to right
column_parts : (n w r : List ℕ) → (n ++ codes ": " ++ w) ++ r ≡ n ++ (codes ": " ++ (w ++ r))
column_parts n w r = append_assoc (n ++ codes ": ") w r ∙ append_assoc n (codes ": ") (w ++ r)

module _ {T : Type 0} (word : T → List ℕ) (is : IsDelimited (λ (t : T). Unit {0}) goes_on word) where
  column_apart : (m n : Name) (t u : T) (r s : List ℕ) → IsName m → IsName n → Ends goes_on r → Ends goes_on s → (m ++ codes ": " ++ word t) ++ r ≡ (n ++ codes ": " ++ word u) ++ s → (m ≡ n) × ((t ≡ u) × (r ≡ s))
  column_apart m n t u r s p q h k e =
      let names = IsDelimited-name.apart m n (codes ": " ++ (word t ++ r)) (codes ": " ++ (word u ++ s)) p q colon_ends colon_ends (sym (column_parts m (word t) r) ∙ e ∙ column_parts n (word u) s) in
      let words = is.apart t u r s tt tt h k (append_cancel_left (codes ": ") (word t ++ r) (word u ++ s) names.1) in
      (names.0, words)

column_begun : {T : Type 0} (word : T → List ℕ) (m : Name) (t : T) (r s : List ℕ) → IsName m → Ends goes_on s → (m ++ codes ": " ++ word t) ++ r ≡ s → ⊥
column_begun word m t r s p h e = name_begun m (codes ": " ++ (word t ++ r)) s p h (sym (column_parts m (word t) r) ∙ e)

pub IsDelimited-key_column : IsDelimited KeyIsNamed goes_on key_column_text
unfolding key_column_text
IsDelimited-key_column = record { apart = apart }
  where
    apart : (k l : KeyCol) (r s : List ℕ) → KeyIsNamed k → KeyIsNamed l → Ends goes_on r → Ends goes_on s → key_column_text k ++ r ≡ key_column_text l ++ s → (k ≡ l) × (r ≡ s)
    apart k l r s p q m n e =
        let parts = column_apart key_type_text IsDelimited-key_type k.name l.name k.ty l.ty r s p q m n e in
        ((λ i. record { name = parts.0 i; ty = parts.1.0 i }), parts.1.1)

pub IsDelimited-val_column : IsDelimited ValIsNamed goes_on val_column_text
unfolding val_column_text
IsDelimited-val_column = record { apart = apart }
  where
    apart : (v w : ValCol) (r s : List ℕ) → ValIsNamed v → ValIsNamed w → Ends goes_on r → Ends goes_on s → val_column_text v ++ r ≡ val_column_text w ++ s → (v ≡ w) × (r ≡ s)
    apart v w r s p q m n e =
        let parts = column_apart val_type_text IsDelimited-val_type v.name w.name v.ty w.ty r s p q m n e in
        ((λ i. record { name = parts.0 i; ty = parts.1.0 i }), parts.1.1)

BeginsWithin-key_column : BeginsWithin KeyIsNamed goes_on key_column_text
unfolding key_column_text
BeginsWithin-key_column = record { begun = λ k r s p h e. column_begun key_type_text k.name k.ty r s p h e }

BeginsWithin-val_column : BeginsWithin ValIsNamed goes_on val_column_text
unfolding val_column_text
BeginsWithin-val_column = record { begun = λ v r s p h e. column_begun val_type_text v.name v.ty r s p h e }

-- ---- the lists of columns

-- key columns are told in front of a colon
pub key_columns_apart : (ks ls : List KeyCol) (r s : List ℕ) → Each KeyIsNamed ks → Each KeyIsNamed ls → key_columns_text ks ++ 58 ∷ r ≡ key_columns_text ls ++ 58 ∷ s → (ks ≡ ls) × (r ≡ s)
unfolding Each key_columns_text
key_columns_apart [] [] r s p q e = (refl, rest_is e)
key_columns_apart [] (l ∷ ls) r s p q e =
    let others = flat_map (λ x. codes ", " ++ key_column_text x) ls in
    absurd (BeginsWithin-key_column.begun l (others ++ (32 ∷ 58 ∷ s)) (58 ∷ r) q.0 colon_ends
    (sym (append_assoc (key_column_text l) others (32 ∷ 58 ∷ s)) ∙ sym (append_assoc (key_column_text l ++ others) (32 ∷ []) (58 ∷ s)) ∙ sym e))
key_columns_apart (k ∷ ks) [] r s p q e =
    let others = flat_map (λ x. codes ", " ++ key_column_text x) ks in
    absurd (BeginsWithin-key_column.begun k (others ++ (32 ∷ 58 ∷ r)) (58 ∷ s) p.0 colon_ends
    (sym (append_assoc (key_column_text k) others (32 ∷ 58 ∷ r)) ∙ sym (append_assoc (key_column_text k ++ others) (32 ∷ []) (58 ∷ r)) ∙ e))
key_columns_apart (k ∷ ks) (l ∷ ls) r s p q e =
    let lefts = join_by key_column_text (codes ", ") (k ∷ ks) in
    let rights = join_by key_column_text (codes ", ") (l ∷ ls) in
    let both = joined_apart KeyIsNamed goes_on key_column_text IsDelimited-key_column BeginsWithin-key_column 44 (32 ∷ []) comma_ends 32 space_ends (λ (h : 44 ≡ 32). absurd (omega (arith, h))) (k ∷ ks) (l ∷ ls) (58 ∷ r) (58 ∷ s) p q
    (sym (append_assoc lefts (32 ∷ []) (58 ∷ r)) ∙ e ∙ append_assoc rights (32 ∷ []) (58 ∷ s)) in
    (both.0, rest_is both.1)

-- value columns are told in front of a bracket
pub val_columns_apart : (vs ws : List ValCol) (r s : List ℕ) → Each ValIsNamed vs → Each ValIsNamed ws → join_by val_column_text (codes ", ") vs ++ 93 ∷ r ≡ join_by val_column_text (codes ", ") ws ++ 93 ∷ s → (vs ≡ ws) × (r ≡ s)
val_columns_apart vs ws r s p q e = joined_apart ValIsNamed goes_on val_column_text IsDelimited-val_column BeginsWithin-val_column 44 (32 ∷ []) comma_ends 93 bracket_ends (λ (h : 44 ≡ 93). absurd (omega (arith, h))) vs ws r s p q e
