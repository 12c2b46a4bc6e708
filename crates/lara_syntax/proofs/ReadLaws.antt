-- The items of a script stand in the relation to its bytes, and nothing else does.
use Rattle.std.proofs.Common.{◌≡◌, ◌≢◌, ℕ, ◌-◌, List, [], ◌∷◌, ◌++◌, length, refl, arith, Some, Option, sym, ◌∙◌, ap, subst, Ok, Err, length-append}
use Rattle.lara_data.specs.declared.refusal.Kind.{Kind}
use Rattle.lara_data.specs.declared.refusal.Kind.TheVariants.{BadByte}
use Rattle.lara_data.specs.declared.refusal.Refusal.{Refusal}
use Rattle.lara_syntax.specs.declared.item.Item.{Item}
use Rattle.lara_syntax.specs.declared.item.Lexeme.{Lexeme}
use Rattle.lara_syntax.specs.ScanSteps.{Bytes, Scan}
use Rattle.lara_syntax.specs.ByteClasses.{after_blank}
use Rattle.lara_syntax.specs.TokenWords.{word_at, item_here, item_by, stop_at, refused}
use Rattle.lara_syntax.specs.Tokens.{scanned, items_of, items_in, stop_of, stop_in}
use Rattle.lara_syntax.specs.Spellings.{Spells, Ends, Wrong, long_name, too_great, letter_behind, no_text, no_token, AreDigits}
use Rattle.lara_syntax.specs.TokenReadings.{Blank, place, Reads, IsOnlyReading, ended, stopped, next}
use Rattle.lara_syntax.proofs.Blanks.{Solid, after_blank-blank, after_blank-solid, blank-after}
use Rattle.lara_syntax.proofs.Gather.{scan_of, erred, err_ok}
use Rattle.lara_syntax.proofs.ItemLaws.{one_item, no_item, scanned-rest}
use Rattle.lara_syntax.proofs.Listed.{Listed, none, more, gather-listed}
use Rattle.lara_syntax.proofs.SoundTokens.{Sound}
use Rattle.lara_syntax.proofs.WordLaws.{item_here-one}
use Rattle.lara_syntax.proofs.WordReads.{word_at-spells, word_at-wrong, word_at-sound, spells-solid, wrong-solid, first_digit}

-- ---- the items are a reading

stop_sound : (size : ℕ) (ts bs : Bytes) → Blank ts bs → (k : Kind) (r : Scan Lexeme) → r ≡ erred k → Sound bs r → Reads size ts [] (refused size bs r)
stop_sound size ts bs b k (Ok x) e s = absurd (err_ok k x (sym e))
stop_sound size ts bs b k (Err j) e s = stopped ts bs j b s

none_sound : (size : ℕ) (ts rest : Bytes) → Blank ts rest → Solid rest → (k : Kind) → word_at rest ≡ erred k → Reads size ts [] (stop_at size rest)
unfolding stop_at
none_sound size ts [] b so k e = ended ts b
none_sound size ts (c ∷ bs) b so k e = stop_sound size ts (c ∷ bs) b k (word_at (c ∷ bs)) e (word_at-sound c bs so)

item_is : (x : Item) (a n : ℕ) → x.at ≡ a → x.len ≡ n → (let y : Item = record { at = a; len = n; lexeme = x.lexeme } in y) ≡ x
item_is x a n e f = let p = sym e in let q = sym f in rw (p, q) refl

front_sound : (bs : Bytes) → Solid bs → (x : Lexeme) (mid : Bytes) → word_at bs ≡ scan_of x mid → (text : Bytes) × (bs ≡ text ++ mid) × Spells x text × Ends x mid
unfolding word_at
front_sound [] so x mid e = absurd (err_ok BadByte (x, mid) e)
front_sound (b ∷ bs) so x mid e = subst (λ (r : Scan Lexeme). Sound (b ∷ bs) r) e (word_at-sound b bs so)

listed-reads : (size : ℕ) (xs : List Item) (ts rest : Bytes) → Listed (item_here size) xs ts rest → Reads size ts xs (stop_at size rest)
listed-reads size _ _ _ (none ts rest e) =
    let n = no_item size ts rest e in
    none_sound size ts rest (subst (λ (u : Bytes). Blank ts u) (sym n.behind) (after_blank-blank ts)) (subst (λ (u : Bytes). Solid u) (sym n.behind) (after_blank-solid ts)) n.kind n.word
listed-reads size _ _ _ (more x xs ts mid rest e l) =
    let o = one_item size ts x mid e in
    let f = front_sound (after_blank ts) (after_blank-solid ts) x.lexeme mid o.word in
    let len : length (after_blank ts) - length mid ≡ length f.0 = omega (arith, ap length f.1, length-append f.0 mid) in
    let is = item_is x (place size (f.0 ++ mid)) (length f.0) (o.at ∙ ap (place size) f.1) (o.len ∙ len) in
    subst (λ (y : Item). Reads size ts (y ∷ xs) (stop_at size rest)) is (next ts f.0 mid x.lexeme xs (stop_at size rest) (subst (λ (u : Bytes). Blank ts u) f.1 (after_blank-blank ts)) f.2 f.3 (listed-reads size xs mid rest l))

pub items-read : (bytes : Bytes) → Reads (length bytes) bytes (items_of bytes) (stop_of bytes)
items-read bytes =
    let s = scanned-rest bytes in
    subst (λ (o : Option Refusal). Reads (length bytes) bytes (items_of bytes) o) (sym s.1.stop) (listed-reads (length bytes) (items_of bytes) bytes s.0 s.1.listed)

-- ---- and the only one

here : (size : ℕ) (ts bs : Bytes) (r : Scan Lexeme) → after_blank ts ≡ bs → word_at bs ≡ r → item_here size ts ≡ item_by size bs r
unfolding item_here
here size ts bs r e f = ap (λ (u : Bytes). item_by size u (word_at u)) e ∙ ap (item_by size bs) f

cons_nil : (b : ℕ) (bs : Bytes) → b ∷ bs ≡ [] → ⊥
cons_nil b bs e = absurd cc

digits_some : (v : ℕ) (digits rest : Bytes) → AreDigits v digits → digits ++ rest ≢ []
digits_some v digits rest a e = let d = first_digit v digits a in cons_nil d.0 (d.1 ++ rest) (ap (λ (u : Bytes). u ++ rest) (sym d.2) ∙ e)

wrong_some : (k : Kind) (bs : Bytes) → Wrong k bs → bs ≢ []
wrong_some _ _ (long_name b bs rest s g le st) e = cons_nil b (bs ++ rest) e
wrong_some _ _ (too_great digits rest v a st le) e = digits_some v digits rest a e
wrong_some _ _ (letter_behind digits v b rest a s) e = digits_some v digits (b ∷ rest) a e
wrong_some _ _ (no_text bs n) e = cons_nil 34 bs e
wrong_some _ _ (no_token b bs n) e = cons_nil b bs e

stop_wrong : (size : ℕ) (k : Kind) (rest : Bytes) → Wrong k rest → stop_at size rest ≡ Some (record { at = place size rest; kind = k })
unfolding stop_at
stop_wrong size k [] w = absurd (wrong_some k [] w refl)
stop_wrong size k (b ∷ bs) w = ap (refused size (b ∷ bs)) (word_at-wrong k (b ∷ bs) w)

abbrev OneListed : ℕ → Bytes → List Item → Option Refusal → Type 0
OneListed size ts xs stop = (rest : Bytes) × Listed (item_here size) xs ts rest × (stop ≡ stop_at size rest)

item_len : (size : ℕ) (text rest : Bytes) (x : Lexeme) → item_by size (text ++ rest) (scan_of x rest) ≡ scan_of (Some (record { at = place size (text ++ rest); len = length text; lexeme = x })) rest
item_len size text rest x = let e : length (text ++ rest) - length rest ≡ length text = omega (arith, length-append text rest) in rw e refl

reads-listed : (size : ℕ) (ts : Bytes) (xs : List Item) (stop : Option Refusal) → Reads size ts xs stop → OneListed size ts xs stop
unfolding word_at stop_at
reads-listed size _ _ _ (ended bytes b) = ([], none bytes [] (here size bytes [] (word_at []) (blank-after bytes [] b tt) refl), refl)
reads-listed size _ _ _ (stopped bytes rest k b w) = (rest, none bytes rest (here size bytes rest (erred k) (blank-after bytes rest b (wrong-solid k rest w)) (word_at-wrong k rest w)), sym (stop_wrong size k rest w))
reads-listed size _ _ _ (next bytes text rest x items stop b s e r) =
    let h = reads-listed size rest items stop r in
    let i = here size bytes (text ++ rest) (scan_of x rest) (blank-after bytes (text ++ rest) b (spells-solid x text rest s)) (word_at-spells x text rest s e) ∙ item_len size text rest x in
    (h.0, more (record { at = place size (text ++ rest); len = length text; lexeme = x }) items bytes rest h.0 i h.1, h.2)

pub reads-items : (bytes : Bytes) (xs : List Item) (stop : Option Refusal) → Reads (length bytes) bytes xs stop → (xs ≡ items_of bytes) × (stop ≡ stop_of bytes)
unfolding scanned items_of stop_of
reads-items bytes xs stop r =
    let h = reads-listed (length bytes) bytes xs stop r in
    let g : scanned bytes ≡ scan_of xs h.0 = gather-listed (item_here (length bytes)) (item_here-one (length bytes)) xs bytes h.0 h.1 [] in
    (sym (ap items_in g), h.2 ∙ sym (ap (stop_in (length bytes)) g))

-- ---- the same of what was returned

pub read-sound : (bytes : Bytes) (xs : List Item) (stop : Option Refusal) → xs ≡ items_of bytes → stop ≡ stop_of bytes → Reads (length bytes) bytes xs stop
read-sound bytes xs stop e f = subst (λ (o : Option Refusal). Reads (length bytes) bytes xs o) (sym f) (subst (λ (ys : List Item). Reads (length bytes) bytes ys (stop_of bytes)) (sym e) (items-read bytes))

pub read-only : (bytes : Bytes) (xs : List Item) (stop : Option Refusal) → xs ≡ items_of bytes → stop ≡ stop_of bytes → IsOnlyReading bytes xs stop
read-only bytes xs stop e f ys o r = let h = reads-items bytes ys o r in (h.0 ∙ sym e, h.1 ∙ sym f)

pub ruleset read_laws = (read-sound, read-only)
