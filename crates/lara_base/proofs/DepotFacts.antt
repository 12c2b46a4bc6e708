-- What follows for the files of a depot from what its calls say.
use Rattle.std.proofs.Common.{◌≡◌, ◌≢◌, ℕ, Bool, true, false, List, Option, Some, None, refl, sym}
use Rattle.std.specs.Prelude.{◌&&◌, ◌==◌}
use borrow.Author.Tests.{eqb-true, eq-eqb}
use Rattle.lara_base.specs.declared.file_name.FileName.{FileName}
use Rattle.lara_base.specs.declared.file_name.FileName.TheVariants.{Catalog, Cells}
use Rattle.lara_base.specs.Depots.{Files, same_name, Changes, Holds, Others}

both : (s t : Bool) → (s && t) ≡ true → (s ≡ true) × (t ≡ true)
both true t h = (refl, h)
both false t h = cc

pub one_name : (a b : FileName) → same_name a b ≡ true → a ≡ b
one_name Catalog Catalog h = refl
one_name (Cells g n) (Cells k m) h = let p = both (g == k) (n == m) h in let x : g ≡ k = eqb-true g k p.0 in let y : n ≡ m = eqb-true n m p.1 in cc
one_name Catalog (Cells k m) h = cc
one_name (Cells g n) Catalog h = cc

pub name_itself : (name : FileName) → same_name name name ≡ true
name_itself Catalog = refl
name_itself (Cells g n) = rw (eq-eqb g g refl, eq-eqb n n refl) refl

pub other_name : (name other : FileName) → other ≢ name → same_name name other ≡ false
other_name name other apart = by (same_name name other) refl where
  by : (t : Bool) → same_name name other ≡ t → same_name name other ≡ false
  by true e = absurd (apart (sym (one_name name other e)))
  by false e = e

-- the file that a call changed is what the step makes of it
pub changes_here : (old new : Option Files) (name : FileName) (step : Option (List ℕ) → Option (List ℕ)) (file : Option (List ℕ)) → Changes old new name step → Holds old name file → Holds new name (step file)
changes_here None new name step file h was = rw h tt
changes_here (Some files) new name step file h was = rw h (rw (name_itself name, was) refl)

-- what stood under another name stands there still
pub others_hold : (old new : Option Files) (name other : FileName) (file : Option (List ℕ)) → Others old new name → other ≢ name → Holds old other file → Holds new other file
others_hold old None name other file h apart was = tt
others_hold None (Some files) name other file h apart was = let e = h other apart in cc
others_hold (Some before) (Some files) name other file h apart was = let e : Some (files other) ≡ Some (before other) = h other apart in cc
