-- Two cells of the same columns with one text are one, and so are two lists of such cells.
use Rattle.std.specs.Prelude.{◌≡◌, ℕ, true, false, List, [], ◌∷◌, ◌++◌, codes}
use Rattle.std.proofs.Common.{refl, sym, ap, ◌∙◌, arith}
use Rattle.std.specs.List.{flat_map, join_by}
use Rattle.std.proofs.lemmas.Bool.{and_parts, leb-true}
use Rattle.std.proofs.lemmas.List.{append_assoc}
use Rattle.lara_base.specs.Names.{goes_on}
use Rattle.lara_semiring.specs.declared.value.ValType.{ValType}
use Rattle.lara_semiring.specs.declared.value.ValType.TheVariants as val_type
use Rattle.lara_semiring.specs.declared.value.Value.{Value}
use Rattle.lara_semiring.specs.declared.value.Value.TheVariants as value
use Rattle.lara_semiring.specs.Counts.{count_over}
use Rattle.lara_semiring.specs.MinPlus.{minplus_inf}
use Rattle.lara_semiring.specs.MaxMin.{maxmin_over}
use Rattle.lara_semiring.specs.Values.{has_type}
use Rattle.lara_semiring.specs.Rows.{row_has}
use Rattle.lara_key.specs.declared.key.KeyType.{KeyType}
use Rattle.lara_key.specs.declared.key.KeyType.TheVariants as key_type
use Rattle.lara_key.specs.declared.key.KeyVal.{KeyVal}
use Rattle.lara_key.specs.declared.key.KeyVal.TheVariants as key
use Rattle.lara_key.specs.Keys.{has_key_type, tuple_has, nat_over}
use Rattle.lara_data.specs.KeyedTables.{Row, all_have, AllKeys}
use Rattle.lara_data.specs.Names.{Tuple}
use Rattle.lara_data.specs.Tables.{Entry, Entries}
use Rattle.lara_text.specs.TableTexts.{key_text, value_text, cell_text, entry_line}
use Rattle.lara_text.specs.Delimited.{Ends, IsDelimited, EachAs, first_is, rest_is, joined_apart_as}
use Rattle.lara_text.specs.Numbers.{IsDelimited-number, number_not_end}
use Rattle.lara_text.specs.Distances.{IsDelimited-distance}
use Rattle.lara_text.specs.FlagTexts.{IsDelimited-flag, flag_not_end}
use Rattle.lara_text.specs.ShortTexts.{IsDelimited-short, IsDelimited-path, short_not_end}

-- a column of the type
abbrev pub HasKeyType : KeyType → KeyVal → Type 0
HasKeyType t v = has_key_type t v ≡ true

-- a value of the type
abbrev pub HasType : ValType → Value → Type 0
HasType t v = has_type t v ≡ true

-- ---- columns and values, type by type

-- a pair of equations carried through a constructor
under : {X Y : Type 0} (f : X → Y) {x y : X} {r s : List ℕ} → (x ≡ y) × (r ≡ s) → (f x ≡ f y) × (r ≡ s)
under f both = (ap f both.0, both.1)

key_type_apart : (t : KeyType) (x y : KeyVal) (r s : List ℕ) → HasKeyType t x → HasKeyType t y → Ends goes_on r → Ends goes_on s → key_text x ++ r ≡ key_text y ++ s → (x ≡ y) × (r ≡ s)
unfolding key_text has_key_type
key_type_apart key_type.Nat (key.Nat m) (key.Nat n) r s p q h k e = under key.Nat (IsDelimited-number.apart m n r s (leb-true m nat_over p) (leb-true n nat_over q) h k e)
key_type_apart key_type.Text (key.Text a) (key.Text b) r s p q h k e = under key.Text ((IsDelimited-short goes_on).apart a b r s p q h k e)
key_type_apart key_type.Flag (key.Flag a) (key.Flag b) r s p q h k e = under key.Flag (IsDelimited-flag.apart a b r s tt tt h k e)
key_type_apart _ _ _ r s p q h k e = cc

pub IsDelimited-key : (t : KeyType) → IsDelimited (HasKeyType t) goes_on key_text
IsDelimited-key t = record { apart = key_type_apart t }

-- no column of a key begins as the end of a table does
key_not_end : (t : KeyType) (x : KeyVal) (r s : List ℕ) → HasKeyType t x → key_text x ++ r ≡ 101 ∷ s → ⊥
unfolding key_text has_key_type
key_not_end key_type.Nat (key.Nat n) r s p e = number_not_end n r s (leb-true n nat_over p) e
key_not_end key_type.Text (key.Text t) r s p e = short_not_end t r s e
key_not_end key_type.Flag (key.Flag b) r s p e = flag_not_end b r s e
key_not_end _ _ r s p e = cc

value_apart : (t : ValType) (x y : Value) (r s : List ℕ) → HasType t x → HasType t y → Ends goes_on r → Ends goes_on s → value_text x ++ r ≡ value_text y ++ s → (x ≡ y) × (r ≡ s)
unfolding value_text has_type
value_apart val_type.Count (value.Count m) (value.Count n) r s p q h k e = under value.Count (IsDelimited-number.apart m n r s (leb-true m count_over p) (leb-true n count_over q) h k e)
value_apart val_type.MinPlus (value.MinPlus m) (value.MinPlus n) r s p q h k e = under value.MinPlus (IsDelimited-distance.apart m n r s (leb-true m minplus_inf p) (leb-true n minplus_inf q) h k e)
value_apart val_type.MaxMin (value.MaxMin m) (value.MaxMin n) r s p q h k e = under value.MaxMin (IsDelimited-number.apart m n r s (leb-true m maxmin_over p) (leb-true n maxmin_over q) h k e)
value_apart val_type.Flag (value.Flag a) (value.Flag b) r s p q h k e = under value.Flag (IsDelimited-flag.apart a b r s tt tt h k e)
value_apart val_type.Last (value.Last a) (value.Last b) r s p q h k e = under value.Last ((IsDelimited-short goes_on).apart a b r s p q h k e)
value_apart val_type.Path (value.Path a) (value.Path b) r s p q h k e = under value.Path ((IsDelimited-path goes_on).apart a b r s p q h k e)
value_apart _ _ _ r s p q h k e = cc

pub IsDelimited-value : (t : ValType) → IsDelimited (HasType t) goes_on value_text
IsDelimited-value t = record { apart = value_apart t }

-- ---- keys and rows

key_as : (ts : List KeyType) (k : Tuple) → tuple_has ts k ≡ true → EachAs HasKeyType ts k
unfolding EachAs tuple_has
key_as [] [] h = tt
key_as [] (v ∷ k) h = cc
key_as (t ∷ ts) [] h = cc
key_as (t ∷ ts) (v ∷ k) h = ((and_parts (has_key_type t v) (tuple_has ts k) h).0, key_as ts k (and_parts (has_key_type t v) (tuple_has ts k) h).1)

row_as : (ts : List ValType) (r : Row) → row_has ts r ≡ true → EachAs HasType ts r
unfolding EachAs row_has
row_as [] [] h = tt
row_as [] (v ∷ r) h = cc
row_as (t ∷ ts) [] h = cc
row_as (t ∷ ts) (v ∷ r) h = ((and_parts (has_type t v) (row_has ts r) h).0, row_as ts r (and_parts (has_type t v) (row_has ts r) h).1)

comma : goes_on 44 ≡ false
unfolding goes_on
comma = refl

colon : goes_on 58 ≡ false
unfolding goes_on
colon = refl

pub line_feed : goes_on 10 ≡ false
unfolding goes_on
line_feed = refl

-- the bytes of a cell in front of others, from left to right
parts : (k : Tuple) (a : Row) (r : List ℕ) → cell_text k a ++ r ≡ join_by key_text (codes ",") k ++ (58 ∷ (join_by value_text (codes ",") a ++ r))
unfolding cell_text
parts k a r =
    append_assoc (join_by key_text (codes ",") k ++ codes ":") (join_by value_text (codes ",") a) r
    ∙ append_assoc (join_by key_text (codes ",") k) (codes ":") (join_by value_text (codes ",") a ++ r)

-- the text of a cell in front of a line feed, or any byte that ends a number or a word, tells its key and its row
pub cell_text-apart : (kts : List KeyType) (vts : List ValType) (k l : Tuple) (a b : Row) (r s : List ℕ) → tuple_has kts k ≡ true → tuple_has kts l ≡ true → row_has vts a ≡ true → row_has vts b ≡ true → Ends goes_on r → Ends goes_on s → cell_text k a ++ r ≡ cell_text l b ++ s → (k ≡ l) × ((a ≡ b) × (r ≡ s))
cell_text-apart kts vts k l a b r s hk hl ha hb m n e =
    let keys = joined_apart_as HasKeyType goes_on key_text IsDelimited-key 44 [] comma kts k l (58 ∷ (join_by value_text (codes ",") a ++ r)) (58 ∷ (join_by value_text (codes ",") b ++ s)) (key_as kts k hk) (key_as kts l hl) colon colon (sym (parts k a r) ∙ e ∙ parts l b s) in
    let rows = joined_apart_as HasType goes_on value_text IsDelimited-value 44 [] comma vts a b r s (row_as vts a ha) (row_as vts b hb) m n (rest_is keys.1) in
    (keys.0, rows)

-- no cell begins as the end of a table does
cell_not_end : (kts : List KeyType) (k : Tuple) (a : Row) (r s : List ℕ) → tuple_has kts k ≡ true → cell_text k a ++ r ≡ 101 ∷ s → ⊥
unfolding tuple_has
cell_not_end [] [] a r s h e = let x : 58 ≡ 101 = first_is (sym (parts [] a r) ∙ e) in absurd (omega (arith, x))
cell_not_end [] (v ∷ k) a r s h e = cc
cell_not_end (t ∷ kts) [] a r s h e = cc
cell_not_end (t ∷ kts) (v ∷ k) a r s h e =
    let others = flat_map (λ x. codes "," ++ key_text x) k in
    let behind = 58 ∷ (join_by value_text (codes ",") a ++ r) in
    key_not_end t v (others ++ behind) s (and_parts (has_key_type t v) (tuple_has kts k) h).0 (sym (append_assoc (key_text v) others behind) ∙ sym (parts (v ∷ k) a r) ∙ e)

-- ---- the lines of cells

line_parts : (d : Entry) (es : Entries) (r : List ℕ) → flat_map entry_line (d ∷ es) ++ r ≡ cell_text d.key d.row ++ (10 ∷ (flat_map entry_line es ++ r))
unfolding entry_line
line_parts d es r = append_assoc (entry_line d) (flat_map entry_line es) r ∙ append_assoc (cell_text d.key d.row) (codes "\n") (flat_map entry_line es ++ r)

-- lines of cells, and behind them a line that begins as the end does, tell the cells
pub lines_apart : (kts : List KeyType) (vts : List ValType) (xs ys : Entries) (r s : List ℕ) → AllKeys (λ k. tuple_has kts k ≡ true) xs → AllKeys (λ k. tuple_has kts k ≡ true) ys → all_have vts xs ≡ true → all_have vts ys ≡ true → flat_map entry_line xs ++ 101 ∷ r ≡ flat_map entry_line ys ++ 101 ∷ s → xs ≡ ys
unfolding AllKeys all_have
lines_apart kts vts [] [] r s p q h k e = refl
lines_apart kts vts [] (y ∷ ys) r s p q h k e = absurd (cell_not_end kts y.key y.row (10 ∷ (flat_map entry_line ys ++ 101 ∷ s)) r q.0 (sym (line_parts y ys (101 ∷ s)) ∙ sym e))
lines_apart kts vts (x ∷ xs) [] r s p q h k e = absurd (cell_not_end kts x.key x.row (10 ∷ (flat_map entry_line xs ++ 101 ∷ r)) s p.0 (sym (line_parts x xs (101 ∷ r)) ∙ e))
lines_apart kts vts (x ∷ xs) (y ∷ ys) r s p q h k e =
    let hx = and_parts (row_has vts x.row) (all_have vts xs) h in
    let hy = and_parts (row_has vts y.row) (all_have vts ys) k in
    let one = cell_text-apart kts vts x.key y.key x.row y.row (10 ∷ (flat_map entry_line xs ++ 101 ∷ r)) (10 ∷ (flat_map entry_line ys ++ 101 ∷ s)) p.0 q.0 hx.0 hy.0 line_feed line_feed (sym (line_parts x xs (101 ∷ r)) ∙ e ∙ line_parts y ys (101 ∷ s)) in
    let others = lines_apart kts vts xs ys r s p.1 q.1 hx.1 hy.1 (rest_is one.1.1) in
    λ i. record { key = one.0 i; row = one.1.0 i } ∷ others i
