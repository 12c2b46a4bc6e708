-- What a depot in memory holds, and which of its calls fail.
use Rattle.std.specs.Prelude.{◌≡◌, ℕ, Bool, List, Option, option_map}
use Rattle.std.specs.List.{find, position}
use Rattle.lara_base.specs.Calls.{next_call, calls_made, failing_calls, call_faults}
use Rattle.lara_base.specs.Depots.{Files, same_name}
use Rattle.lara_base.specs.declared.file_name.FileName.{FileName}
use Rattle.lara_base.specs.declared.mem_depot.MemFile.{MemFile}
use Rattle.lara_base.specs.declared.mem_depot.MemDepot.{MemDepot}

-- whether the file has this name
abbrev pub is_named : FileName → MemFile → Bool
is_named name file = same_name file.name name

-- the bytes of the first file of each name
abbrev pub files_in : List MemFile → Files
files_in files name = option_map (λ file. file.bytes) (find (is_named name) files)

-- where that file stands
abbrev pub place_in : List MemFile → FileName → Option ℕ
place_in files name = position (is_named name) files

-- what stands under each name
abbrev pub depot_files : MemDepot → Files
depot_files d = files_in d.files.items

-- the number of its faults so far
abbrev pub depot_faults : MemDepot → ℕ
depot_faults d = call_faults d.calls

-- the number of calls so far
abbrev pub depot_calls : MemDepot → ℕ
depot_calls d = calls_made d.calls

-- the number of the next call, counted from 1
abbrev pub depot_call : MemDepot → ℕ
depot_call d = next_call d.calls

-- the numbers of the calls that fail
abbrev pub depot_fails : MemDepot → List ℕ
depot_fails d = failing_calls d.calls

-- a call takes the next number and leaves what was set at the start
pub record Goes (old new : MemDepot) : Type 0 where
  pub calls : depot_calls new ≡ depot_call old
  pub fails : depot_fails new ≡ depot_fails old
