-- What a reader of keys answers: the tuple whose code the bytes are, or where they stop being one.
use Rattle.std.specs.Prelude.{◌≡◌, ℕ, ◌-◌, ◌≤◌, true, List, length, Result, Ok, Err}
use Rattle.std.proofs.Common.{ap, ◌∙◌}
use Rattle.lara_fields.specs.Readers.{are_bytes, whole_found, whole_again}
use Rattle.lara_fields.specs.Stopping.{StopsAt, each_stops, each_left}
use Rattle.lara_key.specs.declared.key.KeyType.{KeyType}
use Rattle.lara_key.specs.declared.key.KeyVal.{KeyVal}
use Rattle.lara_key.specs.declared.decoding.KeyFault.{KeyFault}
use Rattle.lara_key.specs.declared.decoding.KeyFault.TheVariants.{NotInGrammar, Memory}
use Rattle.lara_key.specs.KeyCodes.{key_code, tuple_code}
use Rattle.lara_key.specs.KeyReading.{IsColumn, IsTuple, column_at, tuple_in, column_reader, column_field, columns_reader}

-- the bytes are the code of a tuple of the types
pub record IsTupleCode (ts : List KeyType) (bytes : List ℕ) (t : List KeyVal) : Type 0 where
  pub typed : IsTuple ts t
  pub code : bytes ≡ tuple_code t

-- The bytes are the code of no tuple of the types, and the first column that is cut short or has no reading begins at this
-- place; or each column is read, and what is left over begins there.
pub record IsNoTupleCode (ts : List KeyType) (bytes : List ℕ) (at : ℕ) : Type 0 where
  pub none : (t : List KeyVal) → IsTupleCode ts bytes t → ⊥
  pub place : StopsAt IsColumn key_code ts bytes at

-- the tuple whose code the bytes are, or that they are none and where, or want of memory
abbrev pub Decodes : List KeyType → List ℕ → Result (List KeyVal) KeyFault → Type 0
Decodes ts bytes (Ok t) = IsTupleCode ts bytes t
Decodes ts bytes (Err (NotInGrammar at)) = IsNoTupleCode ts bytes at
Decodes ts bytes (Err Memory) = Unit {0}

pub tuple_read : (ts : List KeyType) (bytes : List ℕ) (t : List KeyVal) → are_bytes bytes ≡ true → tuple_in ts bytes ≡ Ok t → IsTupleCode ts bytes t
tuple_read ts bytes t h e = let g = whole_found (columns_reader ts) bytes t h e in record { typed = g.0; code = g.1 }

pub tuple_again : (ts : List KeyType) (bytes : List ℕ) (t : List KeyVal) → IsTupleCode ts bytes t → tuple_in ts bytes ≡ Ok t
tuple_again ts bytes t c = ap (tuple_in ts) c.code ∙ whole_again (columns_reader ts) t c.typed

none_read : (ts : List KeyType) (bytes : List ℕ) (left : ℕ) → tuple_in ts bytes ≡ Err left → (t : List KeyVal) → IsTupleCode ts bytes t → ⊥
none_read ts bytes left e t c = let g = tuple_again ts bytes t c in cc

pub no_tuple : (ts : List KeyType) (bytes : List ℕ) (left : ℕ) → are_bytes bytes ≡ true → tuple_in ts bytes ≡ Err left → IsNoTupleCode ts bytes (length bytes - left)
no_tuple ts bytes left h e = record { none = none_read ts bytes left e; place = each_stops IsColumn key_code column_at column_reader column_field ts bytes left h e }

pub left_within : (ts : List KeyType) (bytes : List ℕ) (left : ℕ) → are_bytes bytes ≡ true → tuple_in ts bytes ≡ Err left → left ≤ length bytes
left_within ts bytes left h e = each_left IsColumn key_code column_at column_reader column_field ts bytes left h e

pub ruleset decoding_laws = (tuple_read, no_tuple, left_within)
