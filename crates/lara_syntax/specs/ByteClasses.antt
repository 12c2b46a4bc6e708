-- What bytes begin with.
use Rattle.std.specs.Prelude.{ℕ, ◌+◌, ◌-◌, ◌*◌, Bool, true, false, ◌||◌, not, nat_lt, ◌==◌, if◌then◌else◌, List, [], ◌∷◌, Option, Some, None}

-- space, tab, CR or LF
abbrev pub is_space : ℕ → Bool
is_space b = b == 32 || b == 9 || b == 13 || b == 10

-- how many bytes in front pass the test
abbrev pub run_len : (ℕ → Bool) → List ℕ → ℕ
run_len p [] = 0
run_len p (b ∷ bs) = if p b then run_len p bs + 1 else 0

-- the bytes behind white space and comments, from within a comment or not; a comment goes from # to an LF or the end
abbrev pub blank_in : Bool → List ℕ → List ℕ
blank_in comment [] = []
blank_in true (b ∷ bs) = blank_in (not (b == 10)) bs
blank_in false (b ∷ bs) = if b == 35 then blank_in true bs else (if is_space b then blank_in false bs else b ∷ bs)

-- the bytes behind white space and comments
abbrev pub after_blank : List ℕ → List ℕ
after_blank bs = blank_in false bs

-- the value of decimal digits behind others
abbrev pub number_from : ℕ → List ℕ → ℕ
number_from v [] = v
number_from v (b ∷ bs) = number_from (v * 10 + (b - 48)) bs

-- a number that has a word of 64 bits
abbrev pub within_64 : ℕ → Option ℕ
within_64 v = if nat_lt v 18446744073709551616 then Some v else None

-- the value of decimal digits, or none from 2 ^ 64 on
abbrev pub number_value : List ℕ → Option ℕ
number_value bs = within_64 (number_from 0 bs)
