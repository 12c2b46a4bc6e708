-- The code of a flag, one byte: 00 for false, 01 for true.
use Rattle.std.specs.Prelude.{◌≡◌, ℕ, zero, suc, Bool, true, false, List, [], ◌∷◌, ◌++◌, length, Result, Ok, Err}
use Rattle.std.specs.Ordering.{bool_cmp, ordering_then}
use Rattle.std.proofs.Common.{refl, subst}
use Rattle.lara_base.specs.Texts.{bytes_cmp}
use Rattle.lara_fields.specs.OrderedCodes.{IsOrderedCode}
use Rattle.lara_fields.specs.Places.{IsField}
use Rattle.lara_fields.specs.Readers.{IsReader}
use Rattle.lara_fields.specs.Steps.{ok_is, read}

-- the code of the flag
abbrev pub flag_code : Bool → List ℕ
flag_code false = 0 ∷ []
flag_code true = 1 ∷ []

-- a flag and what is behind it
unfoldable pub flag_at : List ℕ → Result (Bool × List ℕ) ℕ
flag_at [] = Err 0
flag_at (zero ∷ bs) = Ok (false, bs)
flag_at (suc zero ∷ bs) = Ok (true, bs)
flag_at (suc (suc b) ∷ bs) = Err (length (suc (suc b) ∷ bs))

flag_found : (bytes : List ℕ) (v : Bool) (rest : List ℕ) → flag_at bytes ≡ read v rest → bytes ≡ flag_code v ++ rest
unfolding flag_at
flag_found [] v rest e = absurd cc
flag_found (zero ∷ bs) v rest e = subst (λ (z : Bool × List ℕ). 0 ∷ bs ≡ flag_code z.0 ++ z.1) (ok_is (false, bs) (v, rest) e) refl
flag_found (suc zero ∷ bs) v rest e = subst (λ (z : Bool × List ℕ). 1 ∷ bs ≡ flag_code z.0 ++ z.1) (ok_is (true, bs) (v, rest) e) refl
flag_found (suc (suc b) ∷ bs) v rest e = absurd cc

flag_again : (v : Bool) (rest : List ℕ) → flag_at (flag_code v ++ rest) ≡ Ok (v, rest)
unfolding flag_at
flag_again false rest = refl
flag_again true rest = refl

pub flag_reader : IsReader (λ v. Unit {0}) flag_code flag_at
flag_reader = record { found = λ bytes v rest h e. (tt, flag_found bytes v rest e); again = λ v rest h. flag_again v rest }

flag_stops : (bytes : List ℕ) (left : ℕ) → flag_at bytes ≡ Err left → left ≡ length bytes
unfolding flag_at
flag_stops [] left e = cc
flag_stops (zero ∷ bs) left e = absurd cc
flag_stops (suc zero ∷ bs) left e = absurd cc
flag_stops (suc (suc b) ∷ bs) left e = cc

pub flag_field : IsField flag_at
flag_field = record { stops = flag_stops }

flag_compares : (x y : Bool) (a b : List ℕ) → bytes_cmp (flag_code x ++ a) (flag_code y ++ b) ≡ ordering_then (bool_cmp x y) (bytes_cmp a b)
flag_compares false false a b = refl
flag_compares false true a b = refl
flag_compares true false a b = refl
flag_compares true true a b = refl

pub flag_ordered : IsOrderedCode (λ v. true) bool_cmp flag_code
flag_ordered = record { compares = λ x y a b p q. flag_compares x y a b }
