-- What bytes stand for, by the reader of a start symbol.
use Rattle.std.specs.Prelude.{◌-◌, ℕ, zero, suc, List, length, Option, Some, None, Result, Ok, Err, slice_get}
use Rattle.lara_syntax.specs.declared.ast.Ast.{Ast}
use Rattle.lara_syntax.specs.declared.item.Item.{Item}
use Rattle.lara_syntax.specs.declared.fault.Stop.{Stop}
use Rattle.lara_data.specs.declared.refusal.Refusal.{Refusal}
use Rattle.lara_syntax.specs.Limits.{Limits, most}
use Rattle.lara_syntax.specs.Steps.{Items, Read, Reader}
use Rattle.lara_syntax.specs.Reading.{script}
use Rattle.lara_syntax.specs.Tokens.{items_of, stop_of}

-- the value of a read, without the words after it
abbrev pub read_value : {A : Type 0} → Read A → Result A Stop
read_value (Ok x) = Ok x.0
read_value (Err e) = Err e

-- the place of a word, or that of the end
abbrev pub at_or : ℕ → Option Item → ℕ
at_or size None = size
at_or size (Some item) = item.at

-- the place of the word from which so many are left; size is that of the end
abbrev pub place_of : ℕ → Items → ℕ → ℕ
place_of size ts left = at_or size (slice_get ts (length ts - left))

-- the refusal of a stop, at the place of its word or at the end
abbrev pub refusal_of : ℕ → Items → Stop → Refusal
refusal_of size ts stop = record { at = place_of size ts stop.left; kind = stop.kind }

-- at the end of the words, what is no token comes first
abbrev pub at_end_of : ℕ → Option Refusal → Refusal → Refusal
at_end_of (suc left) token refusal = refusal
at_end_of zero (Some token) refusal = token
at_end_of zero None refusal = refusal

-- what was read, or the refusal of what is no token behind its words
abbrev pub accepted : {A : Type 0} → Option Refusal → A → Result A Refusal
accepted (Some token) x = Err token
accepted None x = Ok x

-- what the words give, where the tokens stop so
abbrev pub answered : {A : Type 0} → ℕ → Items → Option Refusal → Result A Stop → Result A Refusal
answered size ts token (Ok x) = accepted token x
answered size ts token (Err stop) = Err (at_end_of stop.left token (refusal_of size ts stop))

-- what a reader gives of the bytes, or their first refusal
abbrev pub parsed_by : {A : Type 0} → (Limits → Reader A) → List ℕ → Result A Refusal
parsed_by reader bytes = answered (length bytes) (items_of bytes) (stop_of bytes) (read_value (reader most (items_of bytes)))

-- the tree of a script, or its first refusal
unfoldable pub parsed : List ℕ → Result Ast Refusal
parsed bytes = parsed_by script bytes
