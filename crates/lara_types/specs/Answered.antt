-- Rules that answer.
use Rattle.std.specs.Prelude.{◌≡◌, Result, Ok, Err}
use Rattle.std.proofs.Common.{refl}
use Rattle.lara_data.specs.Judgements.{Judged}
use Rattle.lara_base.specs.Results.{◌>>=◌}

-- the rules answer this
abbrev pub answered : {A : Type 0} → A → Judged A
answered x = Ok x

-- rules that answer this and that answer one thing
pub ok_is : {A : Type 0} (x y : A) → answered x ≡ Ok y → x ≡ y
ok_is x y e = cc

-- the value of a step that did not refuse
pub bind_ok_parts : {A B E : Type 0} (r : Result A E) (f : A → Result B E) (y : B) → (r >>= f) ≡ Ok y → (x : A) × (r ≡ Ok x) × (f x ≡ Ok y)
bind_ok_parts (Ok x) f y e = (x, refl, e)
bind_ok_parts (Err d) f y e = cc
