-- An item's text is its slice of the script.
use Rattle.std.proofs.Common.{◌≡◌, ℕ, List, [], ◌∷◌, ◌++◌, length, take, drop, map, Option, refl, arith, sym, ◌∙◌, ap, subst, length-append, append_assoc}
use Rattle.std.proofs.Math.Seq.{take-append_seam, drop-append_seam}
use Rattle.lara_data.specs.declared.refusal.Refusal.{Refusal}
use Rattle.lara_syntax.specs.declared.item.Item.{Item}
use Rattle.lara_syntax.specs.declared.token.Token.{Token}
use Rattle.lara_syntax.specs.ScanSteps.{Bytes}
use Rattle.lara_syntax.specs.Tokens.{items_of, stop_of}
use Rattle.lara_syntax.specs.Spellings.{Spells}
use Rattle.lara_syntax.specs.Spans.{AreSlices}
use Rattle.lara_syntax.specs.TokenLists.{token_of, Show, ShowAll}
use Rattle.lara_syntax.specs.TokenReadings.{Line, line_end, script_end, in_line, Blank, no_more, space, comment, place, Reads, ended, stopped, next}
use Rattle.lara_syntax.proofs.ItemLaws.{items-in_order}
use Rattle.lara_syntax.proofs.ReadLaws.{items-read, reads-items}

line_front : (bs after : Bytes) → Line bs after → (pre : Bytes) × (bs ≡ pre ++ after)
line_front _ _ (line_end rest) = ([], refl)
line_front _ _ script_end = ([], refl)
line_front _ _ (in_line b bs rest ne l) = let h = line_front bs rest l in (b ∷ h.0, ap (λ (u : Bytes). b ∷ u) h.1)

blank_front : (bs rest : Bytes) → Blank bs rest → (pre : Bytes) × (bs ≡ pre ++ rest)
blank_front _ _ (no_more rest) = ([], refl)
blank_front _ _ (space b bs rest e h) = let k = blank_front bs rest h in (b ∷ k.0, ap (λ (u : Bytes). b ∷ u) k.1)
blank_front _ _ (comment bs after rest l h) =
    let p = line_front bs after l in
    let k = blank_front after rest h in
    (35 ∷ p.0 ++ k.0, ap (λ (u : Bytes). 35 ∷ u) (p.1 ∙ ap (λ (u : Bytes). p.0 ++ u) k.1 ∙ sym (append_assoc p.0 k.0 rest)))

slice_at : (bytes front text rest : Bytes) → bytes ≡ front ++ (text ++ rest) → take (length text) (drop (place (length bytes) (text ++ rest)) bytes) ≡ text
slice_at bytes front text rest e =
    let n : place (length bytes) (text ++ rest) ≡ length front = omega (arith, ap length e, length-append front (text ++ rest)) in
    ap (λ (k : ℕ). take (length text) (drop k bytes)) n ∙ ap (λ (u : Bytes). take (length text) (drop (length front) u)) e ∙ ap (take (length text)) (drop-append_seam front (text ++ rest)) ∙ take-append_seam text rest

reads-slices : (bytes ts : Bytes) (xs : List Item) (stop : Option Refusal) → Reads (length bytes) ts xs stop → (pre : Bytes) → bytes ≡ pre ++ ts → AreSlices bytes xs
reads-slices bytes _ _ _ (ended ts b) pre e = tt
reads-slices bytes _ _ _ (stopped ts rest k b w) pre e = tt
reads-slices bytes _ _ _ (next ts text rest x items stop b s en r) pre e =
    let f = blank_front ts (text ++ rest) b in
    let q : bytes ≡ (pre ++ f.0) ++ (text ++ rest) = e ∙ ap (λ (u : Bytes). pre ++ u) f.1 ∙ sym (append_assoc pre f.0 (text ++ rest)) in
    (subst (λ (u : Bytes). Spells x u) (sym (slice_at bytes (pre ++ f.0) text rest q)) s, reads-slices bytes rest items stop r ((pre ++ f.0) ++ text) (q ∙ sym (append_assoc (pre ++ f.0) text rest)))

items-slices : (bytes : Bytes) → AreSlices bytes (items_of bytes)
items-slices bytes = reads-slices bytes bytes (items_of bytes) (stop_of bytes) (items-read bytes) [] refl

pub read-slices : (bytes : Bytes) (xs : List Item) → xs ≡ items_of bytes → AreSlices bytes xs
read-slices bytes xs e = subst (λ (ys : List Item). AreSlices bytes ys) (sym e) (items-slices bytes)

pub ruleset slice_laws = (read-slices)

-- ---- the same of tokens

pub tokens-show : (bytes : Bytes) (ts : List Token) (stop : Option Refusal) → ts ≡ map token_of (items_of bytes) → stop ≡ stop_of bytes → Show bytes ts stop
tokens-show bytes ts stop e f = subst (λ (o : Option Refusal). Show bytes ts o) (sym f) (record { items = items_of bytes; reading = items-read bytes; order = items-in_order bytes; slices = items-slices bytes; shown = e })

pub tokens-only : (bytes : Bytes) (ts : List Token) (stop : Option Refusal) → ts ≡ map token_of (items_of bytes) → stop ≡ stop_of bytes → ShowAll bytes ts stop
tokens-only bytes ts stop e f xs o r = let h = reads-items bytes xs o r in (ap (map token_of) h.0 ∙ sym e, h.1 ∙ sym f)

pub ruleset token_laws = (tokens-show, tokens-only)
