-- Steps over the bytes that are left: each takes bytes from the front, or says what is wrong with them.
use Rattle.std.specs.Prelude.{◌≡◌, ℕ, zero, suc, List, [], ◌∷◌, ◌++◌, length, Option, Some, None, Result, Ok, Err}
use Rattle.lara_data.specs.declared.refusal.Kind.{Kind}
use Rattle.lara_syntax.specs.declared.scan_fault.ScanFault.{ScanFault}
use Rattle.lara_syntax.specs.declared.scan_fault.ScanFault.TheVariants as faults

-- the bytes that are left
abbrev pub Bytes : Type 0
Bytes = List ℕ

-- a value and the bytes after it, or what is wrong
abbrev pub Scan : Type 0 → Type 0
Scan A = Result (A × Bytes) Kind

-- a step over the bytes
abbrev pub Scanner : Type 0 → Type 0
Scanner A = Bytes → Scan A

-- more behind xs and what one gave, or xs where it gave none
abbrev pub gather_by : {A : Type 0} → (List A → Scanner (List A)) → List A → Scan (Option A) → Scan (List A)
gather_by more xs (Ok (Some x, rest)) = more (xs ++ x ∷ []) rest
gather_by more xs (Ok (None, rest)) = Ok (xs, rest)
gather_by more xs (Err kind) = Err kind

-- at most so many more behind xs, as far as one gives any
unfoldable pub gather_within : {A : Type 0} → Scanner (Option A) → ℕ → List A → Scanner (List A)
gather_within one zero xs bs = Ok (xs, bs)
gather_within one (suc n) xs bs = gather_by (gather_within one n) xs (one bs)

-- All behind xs, as far as one gives any. Each takes a byte, so there are no more than bytes.
unfoldable pub gather : {A : Type 0} → Scanner (Option A) → List A → Scanner (List A)
gather one xs bs = gather_within one (suc (length bs)) xs bs

-- the fault is what scanning refuses with, unless memory ran out
abbrev pub Fails : {Y : Type 0} → ScanFault → Result Y Kind → Type 0
Fails faults.Memory scan = Unit {0}
Fails (faults.Bad kind) scan = scan ≡ Err kind

-- what a function returned, seen by view, is what scanning gives, unless memory ran out
abbrev pub Gives : {X Y : Type 0} → (X → Y) → Result X ScanFault → Result Y Kind → Type 0
Gives view (Ok x) scan = scan ≡ Ok (view x)
Gives view (Err e) scan = Fails e scan
