-- What a rule answers, or the refusal that comes first, and what the code gives of it.
use Rattle.std.specs.Prelude.{◌≡◌, ℕ, Result, Ok, Err}
use Rattle.lara_data.specs.declared.refusal.Kind.{Kind}
use Rattle.lara_data.specs.declared.refusal.Refusal.{Refusal}
use Rattle.lara_data.specs.declared.refusal.ReadFault.{ReadFault}
use Rattle.lara_data.specs.declared.refusal.ReadFault.TheVariants.{Refused, Memory}

-- what a rule answers, or the refusal that comes first
abbrev pub Judged : Type 0 → Type 0
Judged A = Result A Refusal

-- the refusal of this kind at this byte
abbrev pub refused : {A : Type 0} → ℕ → Kind → Judged A
refused at kind = Err (record { at = at; kind = kind })

-- the fault is the refusal that the rules judge, unless memory ran out
abbrev pub FaultJudges : {A : Type 0} → Judged A → ReadFault → Type 0
FaultJudges judged (Refused refusal) = judged ≡ Err refusal
FaultJudges judged Memory = Unit {0}

-- the fault is a refusal; steps that take no memory have no other
abbrev pub NotMemory : ReadFault → Type 0
NotMemory (Refused refusal) = Unit {0}
NotMemory Memory = ⊥

-- what was returned is what the rules judge, unless memory ran out
abbrev pub Judges : {A B : Type 0} → (A → B) → Judged B → Result A ReadFault → Type 0
Judges view judged (Ok x) = judged ≡ Ok (view x)
Judges view judged (Err fault) = FaultJudges judged fault
