-- Rules in their order: each has the refusal that it would be, and whether it is met.
use Rattle.std.specs.Prelude.{◌≡◌, ℕ, Bool, true, false, if◌then◌else◌, List, [], ◌∷◌, ◌++◌, Option, Some, None, Ok, Err}
use Rattle.lara_data.specs.declared.refusal.Kind.{Kind}
use Rattle.lara_data.specs.declared.refusal.Refusal.{Refusal}
use Rattle.lara_data.specs.Judgements.{Judged}

-- a rule: the refusal where it is broken, and whether it is met
pub record Rule : Type 0 where
  pub refusal : Refusal
  pub met : Bool

-- the rule that is broken at this place with this kind, and whether it is met
abbrev pub rule : ℕ → Kind → Bool → Rule
rule at kind met = record { refusal = record { at = at; kind = kind }; met = met }

-- each rule is met
unfoldable pub AllMet : List Rule → Type 0
AllMet [] = Unit {0}
AllMet (r ∷ rs) = (r.met ≡ true) × AllMet rs

-- all rules before are met, and this one is not
pub data FirstBroken : List Rule → Refusal → Type 0 where
  broken : (before : List Rule) (r : Rule) (after : List Rule) → AllMet before → r.met ≡ false → FirstBroken (before ++ r ∷ after) r.refusal

-- the refusal of the first rule that is broken, where there is one
unfoldable pub first_broken : List Rule → Option Refusal
first_broken [] = None
first_broken (r ∷ rs) = if r.met then first_broken rs else Some r.refusal

-- the answer, unless there is a refusal
abbrev pub unless : {A : Type 0} → Option Refusal → A → Judged A
unless None x = Ok x
unless (Some r) x = Err r

-- the answer where each rule is met, else the refusal of the first that is broken
abbrev pub by_rules : {A : Type 0} → List Rule → A → Judged A
by_rules rs x = unless (first_broken rs) x
