-- What the text of a cell and of a head tells whoever reads it.
use Rattle.std.specs.Prelude.{◌≡◌, ℕ, true, List, [], ◌++◌, codes}
use Rattle.std.proofs.Common.{ap, ◌∙◌}
use Rattle.lara_semiring.specs.Rows.{row_has}
use Rattle.lara_data.specs.TableTypes.{Columns, types, key_types}
use Rattle.lara_data.specs.KeyedTables.{Row}
use Rattle.lara_data.specs.Names.{Name, Tuple}
use Rattle.lara_data.specs.Algebra.{key_cols}
use Rattle.lara_data.specs.TypedTables.{KeyHas}
use Rattle.lara_text.specs.TableTexts.{head_text, cell_text}
use Rattle.lara_text.specs.Columns.{IsName}
use Rattle.lara_text.specs.HeadLaws.{AreNamed, HeadsAgree, head_text-apart}
use Rattle.lara_text.specs.CellLaws.{line_feed, cell_text-apart}

-- a key with a column for each name of the order, of its type, and a row of the types of the value columns
pub record IsCell (ty : Columns) (order : List Name) (key : Tuple) (row : Row) : Type 0 where
  pub key_has : KeyHas (key_cols ty.keys order) key
  pub row_is : row_has (types ty.vals) row ≡ true

-- the text is of no other cell of these columns
abbrev pub CellTold : Columns → List Name → Tuple → Row → List ℕ → Type 0
CellTold ty order key row text = IsCell ty order key row → (k : Tuple) (r : Row) → IsCell ty order k r → cell_text k r ≡ text → (k ≡ key) × (r ≡ row)

-- the text is of no other name, no other key columns in the order, and no other value columns
abbrev pub HeadTold : Name → Columns → List Name → List ℕ → Type 0
HeadTold name ty order text = IsName name → AreNamed ty → (n : Name) (t : Columns) (o : List Name) → IsName n → AreNamed t → head_text n t o ≡ text → HeadsAgree n name t ty o order [] []

pub cell_told : (ty : Columns) (order : List Name) (key : Tuple) (row : Row) (text : List ℕ) → text ≡ cell_text key row → CellTold ty order key row text
cell_told ty order key row text is p k r q e =
    let both = cell_text-apart (key_types (key_cols ty.keys order)) (types ty.vals) k key r row (codes "\n") (codes "\n") q.key_has p.key_has q.row_is p.row_is line_feed line_feed (ap (λ (t : List ℕ). t ++ codes "\n") (e ∙ is)) in
    (both.0, both.1.0)

pub head_told : (name : Name) (ty : Columns) (order : List Name) (text : List ℕ) → text ≡ head_text name ty order → HeadTold name ty order text
head_told name ty order text is p a n t o q b e = head_text-apart n name t ty o order [] [] q p b a (ap (λ (t : List ℕ). t ++ []) (e ∙ is))
