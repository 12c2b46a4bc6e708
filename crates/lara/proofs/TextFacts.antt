-- The text of a table line by line.
use Rattle.std.proofs.Common.{◌≡◌, ℕ, List, [], ◌∷◌, ◌++◌, length, refl, ap, sym, ◌∙◌, append_assoc, suc}
use Rattle.std.specs.List.{flat_map}
use Rattle.std.proofs.lemmas.List.{append-nil}
use Rattle.lara_data.specs.KeyedTables.{Row}
use Rattle.lara_data.specs.MapTables.{of_pairs}
use Rattle.lara_data.specs.Names.{Tuple}
use Rattle.lara_data.specs.Algebra.{ordered}
use Rattle.lara_data.specs.Tables.{Entry, Entries, Table}
use Rattle.lara_text.specs.TableTexts.{head_text, entry_line, end_text, line, table_text}

-- a turn of a loop over a map, which adds a line, and its end
pub lines_step : (f : Entry → List ℕ) (text new whole : List ℕ) (it next : List (Tuple × Row)) (k : Tuple) (r : Row) → it ≡ (k, r) ∷ next → new ≡ text ++ f (record { key = k; row = r }) → text ++ flat_map f (of_pairs it) ≡ whole → new ++ flat_map f (of_pairs next) ≡ whole
lines_step f text new whole it next k r is after so_far =
    ap (λ t. t ++ flat_map f (of_pairs next)) after ∙ append_assoc text (f (record { key = k; row = r })) (flat_map f (of_pairs next)) ∙ ap (λ (x : List (Tuple × Row)). text ++ flat_map f (of_pairs x)) (sym is) ∙ so_far

pub lines_end : (f : Entry → List ℕ) (text whole : List ℕ) (it : List (Tuple × Row)) → it ≡ [] → text ++ flat_map f (of_pairs it) ≡ whole → text ≡ whole
lines_end f text whole it none so_far = sym (append-nil text) ∙ ap (λ (x : List (Tuple × Row)). text ++ flat_map f (of_pairs x)) (sym none) ∙ so_far

-- there is a line for each key
pub lines_count : (ps : List (Tuple × Row)) → length (of_pairs ps) ≡ length ps
lines_count [] = refl
lines_count (p ∷ ps) = ap suc (lines_count ps)

-- the head, the lines and the end are the text of the table
pub text_whole : (name : List ℕ) (order : List (List ℕ)) (t : Table) (old head lines : List ℕ) (cells : Entries) (n : ℕ) → head ≡ old ++ line (head_text name t.ty order) → lines ≡ head ++ flat_map entry_line cells → cells ≡ ordered t order → n ≡ length cells → lines ++ line (end_text n) ≡ old ++ table_text name order t
unfolding table_text
text_whole name order t old head lines cells n first body whole count =
    (λ i. (body ∙ (λ j. first j ++ flat_map entry_line (whole j))) i ++ line (end_text ((count ∙ ap length whole) i)))
    ∙ ap (λ x. x ++ line (end_text (length (ordered t order)))) (append_assoc old (line (head_text name t.ty order)) (flat_map entry_line (ordered t order)))
    ∙ append_assoc old (line (head_text name t.ty order) ++ flat_map entry_line (ordered t order)) (line (end_text (length (ordered t order))))
