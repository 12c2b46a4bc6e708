-- How the files of a list change as one is put, added or taken away.
use Rattle.std.proofs.Common.{◌≡◌, ◌≢◌, ℕ, ◌≤◌, Bool, true, false, cond, not, List, [], ◌∷◌, ◌++◌, length, set, get_or, Option, Some, None, refl, sym, ap, ◌∙◌, arith}
use Rattle.std.specs.Prelude.{slice_set, filter, nat_lt}
use Rattle.std.specs.Option.{option_or}
use Rattle.std.specs.List.{find, position, position_or_len}
use Rattle.std.specs.Map.{update}
use Rattle.std.proofs.lemmas.List.Folds.{find_at, find-set, find_past, find-append}
use Rattle.std.proofs.lemmas.List.Sums.{position_or_len_is}
use Rattle.std.proofs.lemmas.List.Quantifiers.{position-Some}
use Rattle.std.proofs.lemmas.Option.{slice_get-get_or, slice_get_past}
use Rattle.lara_base.specs.declared.file_name.FileName.{FileName}
use Rattle.lara_base.specs.declared.mem_depot.MemFile.{MemFile}
use Rattle.lara_base.specs.Depots.{Files, same_name, appended}
use Rattle.lara_base.specs.MemDepots.{is_named, files_in, place_in}
use Rattle.lara_base.proofs.DepotFacts.{one_name, name_itself, other_name}

placed : (p : MemFile → Bool) (files : List MemFile) (at : ℕ) (d : MemFile) → position p files ≡ Some at → at ≡ position_or_len p files
placed p files at d h =
    let k = position-Some p files at d h in
    let within : at ≤ length files = omega (arith, k.0) in
    sym (position_or_len_is p files at d within k.2 (λ _. k.1))

unplaced_by : (n m : ℕ) (t : Bool) → nat_lt n m ≡ t → cond t (Some n) None ≡ None → m ≤ n
unplaced_by n m true e h = cc
unplaced_by n m false e h = grind arith

unplaced : (p : MemFile → Bool) (files : List MemFile) → position p files ≡ None → length files ≤ position_or_len p files
unplaced p files h = unplaced_by (position_or_len p files) (length files) (nat_lt (position_or_len p files) (length files)) refl h

-- no file has the name
none_found : (p : MemFile → Bool) (files : List MemFile) → position p files ≡ None → find p files ≡ None
none_found p files h = find_at p files ∙ slice_get_past files (position_or_len p files) (unplaced p files h)

pub file_at : (files : List MemFile) (name : FileName) (at : ℕ) (d : MemFile) → place_in files name ≡ Some at → files_in files name ≡ Some (get_or files at d).bytes
file_at files name at d h =
    let k = position-Some (is_named name) files at d h in
    let found : find (is_named name) files ≡ Some (get_or files at d) = find_at (is_named name) files ∙ rw (← placed (is_named name) files at d h) (slice_get-get_or files at d k.0) in
    rw found refl

pub no_file : (files : List MemFile) (name : FileName) → place_in files name ≡ None → files_in files name ≡ None
no_file files name h = rw (none_found (is_named name) files h) refl

put_step : (files : List MemFile) (name q : FileName) (at : ℕ) (file d : MemFile) → place_in files name ≡ Some at → file.name ≡ name → (t : Bool) → same_name name q ≡ t → files_in (set files at file) q ≡ cond t (Some file.bytes) (files_in files q)
put_step files name q at file d h n true e =
    let k = position-Some (is_named name) files at d h in
    let itself : is_named name file ≡ true = rw n (name_itself name) in
    let found : find (is_named name) (set files at file) ≡ Some file = find-set (is_named name) files at file (placed (is_named name) files at d h) k.0 itself in
    let here : files_in (set files at file) name ≡ Some file.bytes = rw found refl in
    rw (← one_name name q e) here
put_step files name q at file d h n false e =
    let k = position-Some (is_named name) files at d h in
    let was : is_named q (get_or files at d) ≡ false = rw (one_name (get_or files at d).name name k.1) e in
    let is : is_named q file ≡ false = rw n e in
    rw (find_past (is_named q) files at file d was is) refl

pub put_at : (files : List MemFile) (name : FileName) (at : ℕ) (file : MemFile) → place_in files name ≡ Some at → file.name ≡ name → files_in (set files at file) ≡ update same_name (files_in files) name (Some file.bytes)
put_at files name at file h n = λ i q. put_step files name q at file file h n (same_name name q) refl i

-- the file at the place of a name has the name
pub named : (files : List MemFile) (name : FileName) (at : ℕ) (old : MemFile) → place_in files name ≡ Some at → old ≡ get_or files at old → old.name ≡ name
named files name at old h is =
    let k = position-Some (is_named name) files at old h in
    one_name old.name name (rw (← is) at k.1)

pub put_over : (files : List MemFile) (name : FileName) (at : ℕ) (old : MemFile) (bytes : List ℕ) → place_in files name ≡ Some at → old ≡ get_or files at old → files_in (slice_set files at (record { name = old.name; bytes = bytes })) ≡ update same_name (files_in files) name (Some bytes)
put_over files name at old bytes h is = put_at files name at (record { name = old.name; bytes = bytes }) h (named files name at old h is)

pub add_over : (files : List MemFile) (name : FileName) (at : ℕ) (old : MemFile) (bytes piece : List ℕ) → place_in files name ≡ Some at → old ≡ get_or files at old → bytes ≡ old.bytes ++ piece → files_in (slice_set files at (record { name = old.name; bytes = bytes })) ≡ update same_name (files_in files) name (appended piece (files_in files name))
add_over files name at old bytes piece h is grown =
    let stood : files_in files name ≡ Some old.bytes = rw (file_at files name at old h, ← is) refl in
    rw (stood, ← grown) (put_over files name at old bytes h is)

or_none : (f : Option MemFile) → option_or f None ≡ f
or_none None = refl
or_none (Some x) = refl

push_step : (files : List MemFile) (name q : FileName) (file : MemFile) → place_in files name ≡ None → file.name ≡ name → (t : Bool) → same_name name q ≡ t → files_in (files ++ file ∷ []) q ≡ cond t (Some file.bytes) (files_in files q)
push_step files name q file h n true e =
    let itself : is_named name file ≡ true = rw n (name_itself name) in
    let here : files_in (files ++ file ∷ []) name ≡ Some file.bytes = rw (find-append (is_named name) files (file ∷ []), none_found (is_named name) files h, itself) refl in
    rw (← one_name name q e) here
push_step files name q file h n false e =
    let is : is_named q file ≡ false = rw n e in
    rw (find-append (is_named q) files (file ∷ []), is, or_none (find (is_named q) files)) refl

pub put_behind : (files : List MemFile) (name : FileName) (file : MemFile) → place_in files name ≡ None → file.name ≡ name → files_in (files ++ file ∷ []) ≡ update same_name (files_in files) name (Some file.bytes)
put_behind files name file h n = λ i q. push_step files name q file h n (same_name name q) refl i

pub add_behind : (files : List MemFile) (name : FileName) (file : MemFile) → place_in files name ≡ None → file.name ≡ name → files_in (files ++ file ∷ []) ≡ update same_name (files_in files) name (appended file.bytes (files_in files name))
add_behind files name file h n = rw (no_file files name h) (put_behind files name file h n)

away_at : (file : MemFile) (files rest : List MemFile) (name q : FileName) (t u w : Bool) → same_name file.name name ≡ t → same_name name q ≡ u → same_name file.name q ≡ w → files_in rest q ≡ cond u None (files_in files q) → files_in (cond (not t) (file ∷ rest) rest) q ≡ cond u None (files_in (file ∷ files) q)
away_at file files rest name q true true w e f g ih = ih
away_at file files rest name q true false w e f g ih =
    let other : same_name file.name q ≡ false = rw (one_name file.name name e) f in
    rw other ih
away_at file files rest name q false true true e f g ih =
    let x = one_name file.name q g in
    let y = one_name name q f in
    let z : same_name file.name name ≡ true = rw (x, y) (name_itself q) in
    cc
away_at file files rest name q false true false e f g ih = rw g ih
away_at file files rest name q false false true e f g ih = rw g refl
away_at file files rest name q false false false e f g ih = rw g ih

away_step : (files : List MemFile) (name q : FileName) → files_in (filter (λ file. not (same_name file.name name)) files) q ≡ cond (same_name name q) None (files_in files q)
away_step [] name q = elim (same_name name q) as (λ (t : Bool). ◌≡◌ {A = Option (List ℕ)} None (cond t None None)) [ true ↦ refl | false ↦ refl ]
away_step (file ∷ files) name q = away_at file files (filter (λ file. not (same_name file.name name)) files) name q (same_name file.name name) (same_name name q) (same_name file.name q) refl refl refl (away_step files name q)

pub put_away : (files : List MemFile) (name : FileName) → files_in (filter (λ file. not (same_name file.name name)) files) ≡ update same_name (files_in files) name None
put_away files name = λ i q. away_step files name q i

pub others_stay : (old new : List MemFile) (name other : FileName) (file : Option (List ℕ)) → files_in new ≡ update same_name (files_in old) name file → other ≢ name → Some (files_in new other) ≡ Some (files_in old other)
others_stay old new name other file h apart = ap (λ (f : Files). Some (f other)) h ∙ rw (other_name name other apart) refl
