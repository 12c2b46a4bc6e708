-- What a reader of rows answers: the row whose code the bytes are, or where they stop being one.
use Rattle.std.specs.Prelude.{◌≡◌, ℕ, ◌-◌, ◌≤◌, true, List, [], ◌++◌, length, Result, Ok, Err}
use Rattle.std.proofs.Common.{ap, ◌∙◌}
use Rattle.lara_fields.specs.Readers.{are_bytes, whole_found, whole_again, reads_once, no_proper_prefix}
use Rattle.lara_fields.specs.Stopping.{StopsAt, each_stops, each_left}
use Rattle.lara_semiring.specs.declared.value.ValType.{ValType}
use Rattle.lara_semiring.specs.declared.value.Value.{Value}
use Rattle.lara_semiring.specs.declared.row_decoding.RowFault.{RowFault}
use Rattle.lara_semiring.specs.declared.row_decoding.RowFault.TheVariants.{NotInGrammar, Memory}
use Rattle.lara_semiring.specs.RowCodes.{value_code, row_code}
use Rattle.lara_semiring.specs.RowReading.{IsValue, IsRow, value_at, row_in, value_reader, value_field, row_reader}

-- the bytes are the code of a row of the types
pub record IsRowCode (ts : List ValType) (bytes : List ℕ) (row : List Value) : Type 0 where
  pub typed : IsRow ts row
  pub code : bytes ≡ row_code row

-- The bytes are the code of no row of the types, and the first column that is cut short or has no reading begins at this
-- place; or each column is read, and what is left over begins there.
pub record IsNoRowCode (ts : List ValType) (bytes : List ℕ) (at : ℕ) : Type 0 where
  pub none : (row : List Value) → IsRowCode ts bytes row → ⊥
  pub place : StopsAt IsValue value_code ts bytes at

-- the row whose code the bytes are, or that they are none and where, or want of memory
abbrev pub DecodesRow : List ValType → List ℕ → Result (List Value) RowFault → Type 0
DecodesRow ts bytes (Ok row) = IsRowCode ts bytes row
DecodesRow ts bytes (Err (NotInGrammar at)) = IsNoRowCode ts bytes at
DecodesRow ts bytes (Err Memory) = Unit {0}

pub row_read : (ts : List ValType) (bytes : List ℕ) (row : List Value) → are_bytes bytes ≡ true → row_in ts bytes ≡ Ok row → IsRowCode ts bytes row
row_read ts bytes row h e = let g = whole_found (row_reader ts) bytes row h e in record { typed = g.0; code = g.1 }

pub row_again : (ts : List ValType) (bytes : List ℕ) (row : List Value) → IsRowCode ts bytes row → row_in ts bytes ≡ Ok row
row_again ts bytes row c = ap (row_in ts) c.code ∙ whole_again (row_reader ts) row c.typed

none_read : (ts : List ValType) (bytes : List ℕ) (left : ℕ) → row_in ts bytes ≡ Err left → (row : List Value) → IsRowCode ts bytes row → ⊥
none_read ts bytes left e row c = let g = row_again ts bytes row c in cc

pub no_row : (ts : List ValType) (bytes : List ℕ) (left : ℕ) → are_bytes bytes ≡ true → row_in ts bytes ≡ Err left → IsNoRowCode ts bytes (length bytes - left)
no_row ts bytes left h e = record { none = none_read ts bytes left e; place = each_stops IsValue value_code value_at value_reader value_field ts bytes left h e }

pub left_within : (ts : List ValType) (bytes : List ℕ) (left : ℕ) → are_bytes bytes ≡ true → row_in ts bytes ≡ Err left → left ≤ length bytes
left_within ts bytes left h e = each_left IsValue value_code value_at value_reader value_field ts bytes left h e

pub ruleset row_decoding_laws = (row_read, no_row, left_within)

-- ---- two rows of the same types

-- bytes have at most one reading, and neither code is a proper prefix of the other
pub record AreApart (a b : List Value) : Type 0 where
  pub once : (x y : List ℕ) → row_code a ++ x ≡ row_code b ++ y → (a ≡ b) × (x ≡ y)
  pub whole : (rest : List ℕ) → row_code a ++ rest ≡ row_code b → rest ≡ []

pub row_codes_apart : (ts : List ValType) (a b : List Value) → IsRow ts a → IsRow ts b → AreApart a b
row_codes_apart ts a b p q = record {
  once = λ x y e. reads_once (row_reader ts) a b x y p q e;
  whole = λ rest e. no_proper_prefix (row_reader ts) a b rest p q e;
}
