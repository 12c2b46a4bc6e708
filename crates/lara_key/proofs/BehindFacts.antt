-- What is behind a field is behind what it is made into.
use Rattle.std.proofs.Common.{◌≡◌, ℕ, List, Result, Ok, Err, refl}
use Rattle.lara_base.specs.Results.{◌>>=◌}
use Rattle.lara_fields.specs.Fields.{made}
use Rattle.lara_fields.specs.Skipping.{behind}

by : {X Y : Type 0} (f : X → Y) (q : Result (X × List ℕ) ℕ) → behind (q >>= λ x. Ok (f x.0, x.1)) ≡ behind q
by f (Ok x) = refl
by f (Err e) = refl

pub behind_made : {X Y : Type 0} (f : X → Y) (r : List ℕ → Result (X × List ℕ) ℕ) (bytes : List ℕ) → behind (made f r bytes) ≡ behind (r bytes)
behind_made f r bytes = by f (r bytes)
