-- What the prints of a script write.
use Rattle.std.specs.Prelude.{ℕ, List, [], ◌∷◌, Option, Some, None, if◌then◌else◌}
use Rattle.std.specs.List.{flat_map}
use Rattle.lara_data.specs.Denotations.{Printed}
use Rattle.lara_data.specs.Tables.{is_in_range}
use Rattle.lara_text.specs.TableTexts.{table_text}

-- the statement of the first print whose table is not in range
unfoldable pub first_over : List Printed → Option ℕ
first_over [] = None
first_over (p ∷ ps) = if is_in_range p.table then first_over ps else Some p.statement

-- the text of a print
abbrev pub print_text : Printed → List ℕ
print_text p = table_text p.name p.order p.table

-- the texts of the prints, one after the other
unfoldable pub texts : List Printed → List ℕ
texts prints = flat_map print_text prints
