-- What a depot holds, where it tells, and what its calls do to its files.
-- What changes is an equation, so where nothing is told before, nothing is told after, and the other way round.
use Rattle.std.specs.Prelude.{◌≡◌, ◌≢◌, ◌⊎◌, ℕ, ◌-◌, ◌==◌, ◌&&◌, Bool, true, false, min, List, [], ◌++◌, length, take, drop, Option, Some, None, option_map, unwrap_or, IfSome}
use Rattle.std.specs.Map.{update}
use Rattle.lara_base.specs.Moves.{IsFront}
use Rattle.lara_base.specs.declared.file_name.FileName.{FileName}
use Rattle.lara_base.specs.declared.file_name.FileName.TheVariants.{Catalog, Cells}

-- what stands under each name: the bytes of a file, or nothing where it is absent
abbrev pub Files : Type 0
Files = FileName → Option (List ℕ)

-- whether two names are one
abbrev pub same_name : FileName → FileName → Bool
same_name Catalog Catalog = true
same_name (Cells g n) (Cells h m) = (g == h) && (n == m)
same_name Catalog (Cells h m) = false
same_name (Cells g n) Catalog = false

-- the bytes of a file; an absent one counts as empty
abbrev pub content : Option (List ℕ) → List ℕ
content file = unwrap_or file []

-- n of the file's bytes from a place on stand in the buffer, as many as it has room for or the file has left
pub record Reads (file : Option (List ℕ)) (at n : ℕ) (buf : List ℕ) : Type 0 where
  pub count : n ≡ min (length buf) (length (content file) - at)
  pub bytes : take n buf ≡ take n (drop at (content file))

-- the file of this name went one such step, and each other file is as it was
abbrev pub Changes : Option Files → Option Files → FileName → (Option (List ℕ) → Option (List ℕ)) → Type 0
Changes old new name step = new ≡ option_map (λ (files : Files). update same_name files name (step (files name))) old

-- the step to an empty file
abbrev pub begun : Option (List ℕ) → Option (List ℕ)
begun file = Some []

-- the step to a file with these bytes behind its own
abbrev pub appended : List ℕ → Option (List ℕ) → Option (List ℕ)
appended bytes file = Some (content file ++ bytes)

-- the step to a file of just these bytes
abbrev pub replaced : List ℕ → Option (List ℕ) → Option (List ℕ)
replaced bytes file = Some bytes

-- the step to no file
abbrev pub removed : Option (List ℕ) → Option (List ℕ)
removed file = None

-- what a removal that failed may leave: the file as it was, or none
abbrev pub MayRemove : Option Files → Option Files → FileName → Type 0
MayRemove old new name = (new ≡ old) ⊎ Changes old new name removed

-- what a failed call to make the file empty may leave: the file as it was, empty, or none
abbrev pub MayBegin : Option Files → Option Files → FileName → Type 0
MayBegin old new name = Changes old new name begun ⊎ MayRemove old new name

-- what an addition that failed may leave: the file as it was, or with a front of the piece behind its bytes
abbrev pub MayAppend : Option Files → Option Files → FileName → List ℕ → Type 0
MayAppend old new name piece = (new ≡ old) ⊎ ((part : List ℕ) × IsFront part piece × Changes old new name (appended part))

-- where the depot tells, this stands under the name
abbrev pub Holds : Option Files → FileName → Option (List ℕ) → Type 0
Holds told name file = IfSome told (λ files. files name ≡ file)

-- where the depot tells, what stands under this name
abbrev pub file_of : Option Files → FileName → Option (Option (List ℕ))
file_of told name = option_map (λ (files : Files). files name) told

-- each file but this one is as it was
abbrev pub Others : Option Files → Option Files → FileName → Type 0
Others old new name = (other : FileName) → other ≢ name → file_of new other ≡ file_of old other
