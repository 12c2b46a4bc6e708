-- What reads and writes do, and what their counts of faults do, worked out by hand.
use Rattle.std.specs.Prelude.{ℕ, [], ◌∷◌, Some, None, Ok, Err}
use Rattle.std.proofs.Common.{refl, arith}
use Rattle.lara_base.specs.Causes.{Rose, Counts}
use Rattle.lara_base.specs.Moves.{Adds, ReadTakes, EndsAtZero, WriteAdds}

-- two bytes of three were taken into a buffer of three
takes_two : ReadTakes {E = ℕ} (Some (1 ∷ 2 ∷ 3 ∷ [])) (Some (3 ∷ [])) (Ok 2) (1 ∷ 2 ∷ 0 ∷ [])
takes_two = refl

takes_no_third : ReadTakes {E = ℕ} (Some (1 ∷ 2 ∷ 3 ∷ [])) (Some []) (Ok 2) (1 ∷ 2 ∷ 0 ∷ []) → ⊥
takes_no_third h = cc

takes_nothing_at_a_fault : ReadTakes {E = ℕ} (Some (1 ∷ [])) (Some []) (Err 0) (1 ∷ []) → ⊥
takes_nothing_at_a_fault h = cc

adds_two : WriteAdds {E = ℕ} (Some (1 ∷ [])) (Some (1 ∷ 2 ∷ 3 ∷ [])) (Ok 2) (2 ∷ 3 ∷ 4 ∷ [])
adds_two = refl

adds_nothing_at_a_fault : WriteAdds {E = ℕ} (Some []) (Some (1 ∷ [])) (Err 0) (1 ∷ []) → ⊥
adds_nothing_at_a_fault h = cc

-- where nothing is told before, nothing is told after
tells_as_before : Adds None (Some []) [] → ⊥
tells_as_before h = cc

no_end_before_the_end : EndsAtZero {E = ℕ} (Some (1 ∷ [])) (Ok 0) (0 ∷ []) → ⊥
no_end_before_the_end h = let e = h refl (omega arith) in cc

-- a fault is counted once, and else the count stays
counts_a_fault : Counts {T = ℕ} {E = ℕ} 4 5 (Err 0)
counts_a_fault = refl

counts_it_once : Counts {T = ℕ} {E = ℕ} 4 6 (Err 0) → ⊥
counts_it_once h = cc

counts_no_answer : Counts {T = ℕ} {E = ℕ} 4 5 (Ok 0) → ⊥
counts_no_answer h = cc

-- the count stands at the last value of its type
counts_to_the_last : Counts {T = ℕ} {E = ℕ} 18446744073709551615 18446744073709551615 (Err 0)
counts_to_the_last = refl

rose : Rose 4 5
rose = omega arith

stayed : Rose 4 4 → ⊥
stayed h = omega arith

stands_at_the_last : Rose 18446744073709551615 18446744073709551615
stands_at_the_last = omega arith
