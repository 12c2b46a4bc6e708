-- Runs of bytes that pass a test.
use Rattle.std.proofs.Common.{◌≡◌, ℕ, ◌+◌, List, [], ◌∷◌, ◌++◌, length, take, drop, refl, ap, ◌∙◌, arith, add-one, Bool, true, false, cond}
use Rattle.std.specs.List.{list_all}
use Rattle.std.proofs.Math.Seq.{take-append_seam, drop-append_seam}
use Rattle.lara_syntax.specs.ByteClasses.{run_len}
use Rattle.lara_syntax.specs.Spellings.{StartsNot}
use Rattle.lara_syntax.proofs.WordTextLaws.{both}

pub run_len-append : (p : ℕ → Bool) (text rest : List ℕ) → list_all p text ≡ true → StartsNot p rest → run_len p (text ++ rest) ≡ length text
run_len-append p [] [] e s = refl
run_len-append p [] (b ∷ rest) e s = rw s refl
run_len-append p (b ∷ text) rest e s = let h = both (p b) (list_all p text) e in let k = run_len-append p text rest h.1 s in rw h.0 (omega (arith, k))

stops_by : (p : ℕ → Bool) (b : ℕ) (bs : List ℕ) (t : Bool) → p b ≡ t → StartsNot p (drop (run_len p bs) bs) → StartsNot p (drop (cond t (run_len p bs + 1) 0) (b ∷ bs))
stops_by p b bs true e h = rw add-one h
stops_by p b bs false e h = e

pub run-stops : (p : ℕ → Bool) (bs : List ℕ) → StartsNot p (drop (run_len p bs) bs)
run-stops p [] = tt
run-stops p (b ∷ bs) = stops_by p b bs (p b) refl (run-stops p bs)

-- at most the bytes that there are
pub take-run : (p : ℕ → Bool) (text rest : List ℕ) → list_all p text ≡ true → StartsNot p rest → take (run_len p (text ++ rest)) (text ++ rest) ≡ text
take-run p text rest e s = ap (λ (n : ℕ). take n (text ++ rest)) (run_len-append p text rest e s) ∙ take-append_seam text rest

pub drop-run : (p : ℕ → Bool) (text rest : List ℕ) → list_all p text ≡ true → StartsNot p rest → drop (run_len p (text ++ rest)) (text ++ rest) ≡ rest
drop-run p text rest e s = ap (λ (n : ℕ). drop n (text ++ rest)) (run_len-append p text rest e s) ∙ drop-append_seam text rest
