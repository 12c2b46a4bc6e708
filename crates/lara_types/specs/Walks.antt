-- Steps over the items of a list, each of which may refuse.
use Rattle.std.specs.Prelude.{List, [], ◌∷◌, Result, Ok}
use Rattle.lara_base.specs.Results.{◌>>=◌}

-- a step for each item in turn, from a state on, up to the first refusal
unfoldable pub walk : {S A E : Type 0} → (S → A → Result S E) → S → List A → Result S E
walk step s [] = Ok s
walk step s (x ∷ xs) = step s x >>= λ t. walk step t xs
