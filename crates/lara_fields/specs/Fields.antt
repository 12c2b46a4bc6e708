-- Reading fields from left to right. A reading is a value with the bytes behind it, or it stops at the first field that is
-- cut short or breaks its rule, with the number of bytes from the first byte of that field on.
use Rattle.std.specs.Prelude.{◌≡◌, ℕ, zero, suc, Bool, List, [], ◌∷◌, length, take, drop, Option, Some, None, Result, Ok, Err, nat_lt, if◌then◌else◌}
use Rattle.std.specs.Int.{Width, w16, byte_len, from_be_bytes}
use Rattle.lara_base.specs.Results.{◌>>=◌}
use Rattle.lara_fields.specs.declared.stop.Stop.{Stop}
use Rattle.lara_fields.specs.declared.stop.Stop.TheVariants.{Refused, Memory}

-- What a function answered, seen by view, is what the reading is, unless memory ran out.
abbrev pub Stops : {Y : Type 0} → Stop → Result Y ℕ → Type 0
Stops Memory read = Unit {0}
Stops (Refused left) read = read ≡ Err left

abbrev pub Gives : {X Y : Type 0} → (X → Y) → Result X Stop → Result Y ℕ → Type 0
Gives view (Ok x) read = read ≡ Ok (view x)
Gives view (Err e) read = Stops e read

-- a number of the width, the highest byte first
abbrev pub number_at : Width → List ℕ → Result (ℕ × List ℕ) ℕ
number_at w bytes = if nat_lt (length bytes) (byte_len w) then Err (length bytes) else Ok (from_be_bytes w (take (byte_len w) bytes), drop (byte_len w) bytes)

-- so many bytes
abbrev pub bytes_at : ℕ → List ℕ → Result (List ℕ × List ℕ) ℕ
bytes_at n bytes = if nat_lt (length bytes) n then Err (length bytes) else Ok (take n bytes, drop n bytes)

-- a field with a rule: a value that breaks it is refused at the field's first byte
abbrev pub kept : {X : Type 0} → (X → Bool) → (List ℕ → Result (X × List ℕ) ℕ) → List ℕ → Result (X × List ℕ) ℕ
kept rule read bytes = read bytes >>= λ x. if rule x.0 then Ok x else Err (length bytes)

-- fields, and behind them others, which may depend on what the first are
abbrev pub both : {X Y : Type 0} → (List ℕ → Result (X × List ℕ) ℕ) → (X → List ℕ → Result (Y × List ℕ) ℕ) → List ℕ → Result ((X × Y) × List ℕ) ℕ
both first second bytes = first bytes >>= λ x. second x.0 x.1 >>= λ y. Ok ((x.0, y.0), y.1)

-- fields as one value
abbrev pub made : {X Y : Type 0} → (X → Y) → (List ℕ → Result (X × List ℕ) ℕ) → List ℕ → Result (Y × List ℕ) ℕ
made f read bytes = read bytes >>= λ x. Ok (f x.0, x.1)

-- nothing is left
abbrev pub ended : {X : Type 0} → X × List ℕ → Result X ℕ
ended {X} x = elim x.1 as (λ _. Result X ℕ) [ [] ↦ Ok x.0 | b ∷ bs ↦ Err (length (b ∷ bs)) ]

-- the value that all of the bytes are
abbrev pub whole : {X : Type 0} → (List ℕ → Result (X × List ℕ) ℕ) → List ℕ → Result X ℕ
whole read bytes = read bytes >>= ended

-- a field that stands for another value, or for none: then it is refused at its first byte
abbrev pub told : {Y : Type 0} → ℕ → List ℕ → Option Y → Result (Y × List ℕ) ℕ
told left rest None = Err left
told left rest (Some y) = Ok (y, rest)

abbrev pub picked : {X Y : Type 0} → (X → Option Y) → (List ℕ → Result (X × List ℕ) ℕ) → List ℕ → Result (Y × List ℕ) ℕ
picked f read bytes = read bytes >>= λ x. told (length bytes) x.1 (f x.0)

-- fields that are one: what breaks in them is refused at their first byte
abbrev pub at_first : {X : Type 0} → ℕ → Result (X × List ℕ) ℕ → Result (X × List ℕ) ℕ
at_first left (Ok x) = Ok x
at_first left (Err e) = Err left

abbrev pub joined : {X : Type 0} → (List ℕ → Result (X × List ℕ) ℕ) → List ℕ → Result (X × List ℕ) ℕ
joined read bytes = at_first (length bytes) (read bytes)

-- one after the other, each by what it is of
unfoldable pub each : {T X : Type 0} → (T → List ℕ → Result (X × List ℕ) ℕ) → List T → List ℕ → Result (List X × List ℕ) ℕ
each read [] bytes = Ok ([], bytes)
each read (t ∷ ts) bytes = read t bytes >>= λ x. each read ts x.1 >>= λ xs. Ok (x.0 ∷ xs.0, xs.1)

-- so many, one after the other, each by the one before it
unfoldable pub chain : {X : Type 0} → (Option X → List ℕ → Result (X × List ℕ) ℕ) → Option X → ℕ → List ℕ → Result (List X × List ℕ) ℕ
chain read before zero bytes = Ok ([], bytes)
chain read before (suc n) bytes = read before bytes >>= λ x. chain read (Some x.0) n x.1 >>= λ xs. Ok (x.0 ∷ xs.0, xs.1)

-- a number of two bytes, and a field of so many bytes
abbrev pub sized : {X : Type 0} → (ℕ → List ℕ → Result (X × List ℕ) ℕ) → List ℕ → Result (X × List ℕ) ℕ
sized read bytes = number_at w16 bytes >>= λ n. read n.0 n.1
