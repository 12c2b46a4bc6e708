-- What a read of one byte past the limit says of the whole input.
use Rattle.std.proofs.Common.{◌≡◌, ◌≤◌, ◌<◌, ◌+◌, ℕ, List, length, take, length-take, true, false, min, arith, Ok, refl, ap, sym, ◌∙◌, nat_lt}
use Rattle.std.proofs.lemmas.List.{take_all}
use Rattle.std.proofs.lemmas.Bool.Decides.{nat_tests}
use Rattle.lara_data.specs.declared.refusal.Kind.TheVariants.{TooLong}
use Rattle.lara.specs.declared.words.Command.TheVariants.{Run}
use Rattle.lara.specs.declared.outcome.Outcome.TheVariants.{Script}
use Rattle.lara.specs.OutcomeTable.{Cause}
use Rattle.lara.specs.Endings.{Stopped}
use Rattle.lara.specs.Commands.{script_limit, within}

pub within_long : (shown : Cause → Type 0) (bytes v : List ℕ) → v ≡ take (script_limit + 1) bytes → script_limit < length v → Stopped shown (within Run bytes) (Script script_limit TooLong)
within_long shown bytes v e long =
    let len : length v ≡ min (script_limit + 1) (length bytes) = ap length e ∙ length-take (script_limit + 1) bytes in
    let past : nat_lt script_limit (length bytes) ≡ true = grind (arith, nat_tests) in
    rw past refl

pub within_short : (bytes v : List ℕ) → v ≡ take (script_limit + 1) bytes → length v ≤ script_limit → within Run bytes ≡ Ok v
within_short bytes v e short =
    let len : length v ≡ min (script_limit + 1) (length bytes) = ap length e ∙ length-take (script_limit + 1) bytes in
    let fits : length bytes ≤ script_limit + 1 = omega arith in
    let past : nat_lt script_limit (length bytes) ≡ false = grind (arith, nat_tests) in
    rw past (ap (λ (l : List ℕ). Ok l) (sym (e ∙ take_all (script_limit + 1) bytes fits)))
