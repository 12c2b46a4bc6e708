-- What the calls of a depot do to its files, worked out by hand.
use Rattle.std.specs.Prelude.{◌≡◌, ℕ, List, [], ◌∷◌, ◌++◌, Option, Some, None, option_map, true, false}
use Rattle.std.specs.Map.{update}
use Rattle.std.proofs.Common.{refl, inl, inr, ap}
use Rattle.lara_base.specs.declared.file_name.FileName.{FileName}
use Rattle.lara_base.specs.declared.file_name.FileName.TheVariants.{Catalog, Cells}
use Rattle.lara_base.specs.Depots.{Files, same_name, Reads, Changes, begun, appended, removed, MayAppend}
use Rattle.lara_base.specs.MemDepots.{files_in}

-- a name is told from others by its kind and by each of its numbers
one : same_name (Cells 1 2) (Cells 1 2) ≡ true
one = refl

other_number : same_name (Cells 1 2) (Cells 1 3) ≡ false
other_number = refl

other_generation : same_name (Cells 1 2) (Cells 2 2) ≡ false
other_generation = refl

other_kind : same_name Catalog (Cells 0 0) ≡ false
other_kind = refl

-- the files of a depot with this catalog, and with a file of cells where that is said
abbrev with : Option (List ℕ) → Option (List ℕ) → Files
with catalog cells Catalog = catalog
with catalog cells (Cells g n) = cells

-- the catalog after a change
catalog_of : (old new : Files) (step : Option (List ℕ) → Option (List ℕ)) → Changes (Some old) (Some new) Catalog step → new Catalog ≡ step (old Catalog)
catalog_of old new step h = let e : Some (new Catalog) ≡ Some (step (old Catalog)) = ap (λ (told : Option Files). at told) h in cc where
  at : Option Files → Option (Option (List ℕ))
  at None = None
  at (Some files) = Some (files Catalog)

adds_behind : (new : Files) → Changes (Some (with (Some (1 ∷ [])) None)) (Some new) Catalog (appended (2 ∷ [])) → new Catalog ≡ Some (1 ∷ 2 ∷ [])
adds_behind new h = catalog_of (with (Some (1 ∷ [])) None) new (appended (2 ∷ [])) h

adds_to_no_file : (new : Files) → Changes (Some (with None None)) (Some new) Catalog (appended (2 ∷ [])) → new Catalog ≡ Some (2 ∷ [])
adds_to_no_file new h = catalog_of (with None None) new (appended (2 ∷ [])) h

no_overwriting : Changes (Some (with (Some (1 ∷ [])) None)) (Some (with (Some (2 ∷ [])) None)) Catalog (appended (2 ∷ [])) → ⊥
no_overwriting h = let e = catalog_of (with (Some (1 ∷ [])) None) (with (Some (2 ∷ [])) None) (appended (2 ∷ [])) h in cc

leaves_no_removed : Changes (Some (with (Some []) None)) (Some (with (Some []) None)) Catalog removed → ⊥
leaves_no_removed h = let e = catalog_of (with (Some []) None) (with (Some []) None) removed h in cc

removes_the_catalog_alone : Changes (Some (with (Some []) (Some (7 ∷ [])))) (Some (with None (Some (7 ∷ [])))) Catalog removed
removes_the_catalog_alone = ap (λ (files : Files). Some files) (λ i name. each name i) where
  each : (name : FileName) → with None (Some (7 ∷ [])) name ≡ update same_name (with (Some []) (Some (7 ∷ []))) Catalog None name
  each Catalog = refl
  each (Cells g n) = refl

stays : (old new : Files) → Some new ≡ Some old → new Catalog ≡ old Catalog
stays old new h = let e : Some (new Catalog) ≡ Some (old Catalog) = ap (λ (told : Option Files). option_map (λ (files : Files). files Catalog) told) h in cc

removes_no_other : (new : Files) → Changes (Some (with (Some []) (Some (7 ∷ [])))) (Some new) Catalog removed → new (Cells 1 0) ≡ Some (7 ∷ [])
removes_no_other new h = let e : Some (new (Cells 1 0)) ≡ Some (Some (7 ∷ [])) = ap (λ (told : Option Files). option_map (λ (files : Files). files (Cells 1 0)) told) h in cc

-- where nothing is told before, nothing is told after
tells_as_before : (new : Files) → Changes None (Some new) Catalog begun → ⊥
tells_as_before new h = cc

-- after a fault no byte stands behind the file's own but those of the piece
adds_no_other_byte : MayAppend (Some (with (Some (1 ∷ [])) None)) (Some (with (Some (1 ∷ 3 ∷ [])) None)) Catalog (2 ∷ []) → ⊥
adds_no_other_byte (inl h) = let e = stays (with (Some (1 ∷ [])) None) (with (Some (1 ∷ 3 ∷ [])) None) h in cc
adds_no_other_byte (inr (part, (rest, is), h)) = let e = catalog_of (with (Some (1 ∷ [])) None) (with (Some (1 ∷ 3 ∷ [])) None) (appended part) h in other part rest is e where
  other : (part rest : List ℕ) → part ++ rest ≡ 2 ∷ [] → Some (1 ∷ 3 ∷ []) ≡ Some (1 ∷ part) → ⊥
  other [] rest is e = cc
  other (b ∷ part) rest is e = cc

-- two bytes from the second one on, into a buffer of three
reads_two : Reads (Some (1 ∷ 2 ∷ 3 ∷ [])) 1 2 (2 ∷ 3 ∷ 0 ∷ [])
reads_two = record { count = refl; bytes = refl }

reads_no_less : Reads (Some (1 ∷ 2 ∷ 3 ∷ [])) 1 1 (2 ∷ 0 ∷ 0 ∷ []) → ⊥
reads_no_less h = let e : ◌≡◌ {A = ℕ} 1 2 = h.count in cc

reads_nothing_past_the_end : Reads (Some (1 ∷ 2 ∷ 3 ∷ [])) 7 0 (0 ∷ 0 ∷ [])
reads_nothing_past_the_end = record { count = refl; bytes = refl }

reads_no_file_as_an_empty_one : Reads None 0 0 (0 ∷ 0 ∷ [])
reads_no_file_as_an_empty_one = record { count = refl; bytes = refl }

-- the first file of a name counts
first_of_a_name : files_in (record { name = Catalog; bytes = 1 ∷ [] } ∷ record { name = Catalog; bytes = 2 ∷ [] } ∷ []) Catalog ≡ Some (1 ∷ [])
first_of_a_name = refl

none_of_a_name : files_in (record { name = Cells 1 0; bytes = 1 ∷ [] } ∷ []) Catalog ≡ None
none_of_a_name = refl
