-- Texts that grow item by item.
use Rattle.std.proofs.Common.{◌≡◌, ℕ, ◌<◌, ◌≤◌, ◌+◌, List, [], ◌∷◌, ◌++◌, length, take, refl, ap, sym, ◌∙◌, get_or, append_assoc, drop, ◌-◌, arith, codes}
use Rattle.std.specs.List.{flat_map, join_by}
use Rattle.lara_data.specs.declared.table_type.KeyCol.{KeyCol}
use Rattle.lara_text.specs.TableTexts.{key_column_text, key_columns_text}
use Rattle.std.proofs.lemmas.List.{flat_map_more, take_more, take_all, append-nil}

-- a turn of a loop that adds an item's text to a text
pub text_step : {X : Type 0} (f : X → List ℕ) (start text new : List ℕ) (xs : List X) (i : ℕ) (x : X) → i < length xs → x ≡ get_or xs i x → text ≡ start ++ flat_map f (take i xs) → new ≡ text ++ f x → new ≡ start ++ flat_map f (take (i + 1) xs)
text_step f start text new xs i x l is so_far after =
    let more : take (i + 1) xs ≡ take i xs ++ x ∷ [] = take_more xs i x l ∙ ap (λ y. take i xs ++ y ∷ []) (sym is) in
    after ∙ ap (λ t. t ++ f x) so_far ∙ flat_map_more f start (take i xs) x ∙ ap (λ ys. start ++ flat_map f ys) (sym more)

-- a turn of a loop that adds a text, and then an item's, to a text
pub joined_step : {X : Type 0} (between : List ℕ) (f : X → List ℕ) (start text mid new : List ℕ) (xs : List X) (i : ℕ) (x : X) → i < length xs → x ≡ get_or xs i x → text ≡ start ++ flat_map (λ y. between ++ f y) (take i xs) → mid ≡ text ++ between → new ≡ mid ++ f x → new ≡ start ++ flat_map (λ y. between ++ f y) (take (i + 1) xs)
joined_step {X} between f start text mid new xs i x l is so_far middle after =
    let g : X → List ℕ = λ y. between ++ f y in
    let more : take (i + 1) xs ≡ take i xs ++ x ∷ [] = take_more xs i x l ∙ ap (λ y. take i xs ++ y ∷ []) (sym is) in
    let added : new ≡ text ++ g x = after ∙ ap (λ t. t ++ f x) middle ∙ append_assoc text between (f x) in
    added ∙ ap (λ t. t ++ g x) so_far ∙ flat_map_more g start (take i xs) x ∙ ap (λ ys. start ++ flat_map g ys) (sym more)

-- the first item, and the others each behind a text
pub joined_whole : {X : Type 0} (between : List ℕ) (f : X → List ℕ) (old start new : List ℕ) (xs : List X) (i : ℕ) (x : X) → 0 < length xs → x ≡ get_or xs 0 x → start ≡ old ++ f x → new ≡ start ++ flat_map (λ y. between ++ f y) (take i (take (length xs - 1) (drop 1 xs))) → length (take (length xs - 1) (drop 1 xs)) ≤ i → new ≡ old ++ join_by f between xs
joined_whole between f old start new [] i x l is first others e = absurd (omega arith)
joined_whole {X} between f old start new (y ∷ ys) i x l is first others e =
    let g : X → List ℕ = λ z. between ++ f z in
    let rest : take (length (y ∷ ys) - 1) (drop 1 (y ∷ ys)) ≡ ys = take_all (length (y ∷ ys) - 1) ys (omega arith) in
    let long : length ys ≤ i = omega (arith, ap length rest) in
    others ∙ (λ k. first k ++ flat_map g (take i (rest k))) ∙ ap (λ zs. (old ++ f x) ++ flat_map g zs) (take_all i ys long) ∙ append_assoc old (f x) (flat_map g ys) ∙ ap (λ z. old ++ (f z ++ flat_map g ys)) is

pub ruleset joined_facts = (joined_step, joined_whole)

pub no_key_columns : (old : List ℕ) (keys : List KeyCol) → keys ≡ [] → old ≡ old ++ key_columns_text keys
unfolding key_columns_text
no_key_columns old keys none = sym (append-nil old) ∙ ap (λ (ks : List KeyCol). old ++ key_columns_text ks) (sym none)

pub some_key_columns : (old mid new : List ℕ) (keys : List KeyCol) → (keys ≡ [] → ⊥) → mid ≡ old ++ join_by key_column_text (codes ", ") keys → new ≡ mid ++ codes " " → new ≡ old ++ key_columns_text keys
unfolding key_columns_text
some_key_columns old mid new [] some names space = absurd (some refl)
some_key_columns old mid new (k ∷ ks) some names space = space ∙ ap (λ t. t ++ codes " ") names ∙ append_assoc old (join_by key_column_text (codes ", ") (k ∷ ks)) (codes " ")

pub ruleset key_column_facts = (no_key_columns, some_key_columns)
