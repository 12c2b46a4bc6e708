-- The entries of a literal: whether one is whole, and its values. A literal that breaks a rule has some value too, which is
-- never asked for.
use Rattle.std.specs.Prelude.{Bool, ◌&&◌, ◌==◌, List, [], ◌∷◌, length}
use Rattle.lara_syntax.specs.declared.ast.AstEntry.{AstEntry}
use Rattle.lara_syntax.specs.declared.ast.AstLit.{AstLit}
use Rattle.lara_syntax.specs.Literals.{key_value, row_value}
use Rattle.lara_data.specs.declared.table_type.KeyCol.{KeyCol}
use Rattle.lara_data.specs.declared.table_type.ValCol.{ValCol}
use Rattle.lara_data.specs.KeyedTables.{Row}
use Rattle.lara_data.specs.Names.{Tuple}
use Rattle.lara_data.specs.TableTypes.{Columns}
use Rattle.lara_data.specs.Tables.{Entry}

-- as many literals as columns
abbrev pub is_whole : Columns → AstEntry → Bool
is_whole ty e = length e.key == length ty.keys && length e.row == length ty.vals

-- the key values, column by column
unfoldable pub key_values : List KeyCol → List AstLit → Tuple
key_values [] ls = []
key_values (c ∷ cs) [] = []
key_values (c ∷ cs) (l ∷ ls) = key_value c.ty l.value ∷ key_values cs ls

-- the values in a row, column by column
unfoldable pub row_values : List ValCol → List AstLit → Row
row_values [] ls = []
row_values (c ∷ cs) [] = []
row_values (c ∷ cs) (l ∷ ls) = row_value c.ty l.value ∷ row_values cs ls

-- the key and the row
abbrev pub entry_value : Columns → AstEntry → Entry
entry_value ty e = record { key = key_values ty.keys e.key; row = row_values ty.vals e.row }
