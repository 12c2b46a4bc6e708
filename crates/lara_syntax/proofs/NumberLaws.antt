-- Numbers.
use Rattle.std.proofs.Common.{◌≡◌, ◌≢◌, ◌≤◌, ◌<◌, ℕ, [], ◌∷◌, ◌++◌, take, drop, Option, Some, None, Ok, Err, refl, sym, ap, subst, ◌∙◌, arith, Bool, true, false, cond}
use Rattle.std.specs.Prelude.{◌||◌, ◌==◌, nat_lt}
use Rattle.std.specs.List.{list_all, list_any}
use Rattle.std.specs.Int.{is_in_range}
use Rattle.std.specs.Char.{is_ascii_digit}
use Rattle.std.proofs.lemmas.List.{take-append-drop}
use Rattle.lara_base.specs.Names.{starts_name, goes_on}
use Rattle.lara_data.specs.declared.refusal.Kind.TheVariants.{BadNumber}
use Rattle.lara_syntax.specs.declared.item.Lexeme.{Lexeme}
use Rattle.lara_syntax.specs.declared.item.Lexeme.TheVariants as lexeme
use Rattle.lara_syntax.specs.ScanSteps.{Bytes, Scan}
use Rattle.lara_syntax.specs.ByteClasses.{run_len, number_from, number_value, within_64}
use Rattle.lara_syntax.specs.TokenWords.{number_word, number_by}
use Rattle.lara_syntax.specs.Spellings.{StartsNot, AreDigits, too_great, letter_behind}
use Rattle.lara_syntax.proofs.Gather.{scan_of, erred}
use Rattle.lara_syntax.proofs.Numbers.{run-passes, within_some, past, none_past}
use Rattle.lara_syntax.proofs.Runs.{run-stops, take-run, drop-run}
use Rattle.lara_syntax.proofs.SoundTokens.{Sound}

-- ---- letters and digits

pub digit_starts : (b : ℕ) → is_ascii_digit b ≡ true → starts_name b ≡ false
unfolding starts_name
digit_starts b e = grind arith

pub starts_digit : (b : ℕ) → starts_name b ≡ true → is_ascii_digit b ≡ false
unfolding starts_name
starts_digit b e = grind arith

or_parts : (d u l e : Bool) → (((d || u) || l) || e) ≡ false → (d ≡ false) × (((u || l) || e) ≡ false)
or_parts false false false false h = (refl, refl)
or_parts true u l e h = absurd cc
or_parts false true l e h = absurd cc
or_parts false false true e h = absurd cc
or_parts false false false true h = absurd cc

or_whole : (d u l e : Bool) → d ≡ false → ((u || l) || e) ≡ false → (((d || u) || l) || e) ≡ false
or_whole false u l e d h = h
or_whole true u l e d h = absurd cc

pub goes_on-parts : (b : ℕ) → goes_on b ≡ false → (is_ascii_digit b ≡ false) × (starts_name b ≡ false)
unfolding starts_name goes_on
goes_on-parts b e = or_parts (is_in_range 48 57 b) (is_in_range 65 90 b) (is_in_range 97 122 b) (b == 95) e

pub parts-goes_on : (b : ℕ) → is_ascii_digit b ≡ false → starts_name b ≡ false → goes_on b ≡ false
unfolding starts_name goes_on
parts-goes_on b d e = or_whole (is_in_range 48 57 b) (is_in_range 65 90 b) (is_in_range 97 122 b) (b == 95) d e

no_digit : (rest : Bytes) → StartsNot goes_on rest → StartsNot is_ascii_digit rest
no_digit [] s = tt
no_digit (b ∷ rest) s = (goes_on-parts b s).0

or_false : (b : Bool) → b ≡ false → (b || false) ≡ false
or_false false e = refl
or_false true e = absurd cc

or_true : (b : Bool) → b ≡ true → (b || false) ≡ true
or_true true e = refl
or_true false e = absurd cc

no_letter : (rest : Bytes) → StartsNot goes_on rest → list_any starts_name (take 1 rest) ≡ false
no_letter [] s = refl
no_letter (b ∷ rest) s = or_false (starts_name b) (goes_on-parts b s).1

-- ---- the digits in front

number_word-run : (digits rest : Bytes) → list_all is_ascii_digit digits ≡ true → StartsNot is_ascii_digit rest → number_word (digits ++ rest) ≡ number_by (number_value digits) rest
unfolding number_word
number_word-run digits rest e s = let t = take-run is_ascii_digit digits rest e s in let d = drop-run is_ascii_digit digits rest e s in rw (t, d) refl

value_some : (digits : Bytes) (v : ℕ) → AreDigits v digits → v < 18446744073709551616 → number_value digits ≡ Some v
value_some digits v a lt = ap within_64 a.value ∙ within_some v lt

value_none : (digits : Bytes) (v : ℕ) → AreDigits v digits → 18446744073709551616 ≤ v → number_value digits ≡ None
value_none digits v a le = ap within_64 a.value ∙ none_past v le

pub number_word-number : (digits rest : Bytes) (v : ℕ) → AreDigits v digits → v < 18446744073709551616 → StartsNot goes_on rest → number_word (digits ++ rest) ≡ scan_of (lexeme.Number v) rest
number_word-number digits rest v a lt s =
    let q = value_some digits v a lt in
    let l = no_letter rest s in
    number_word-run digits rest a.digits (no_digit rest s) ∙ rw (q, l) refl

pub number_word-great : (digits rest : Bytes) (v : ℕ) → AreDigits v digits → 18446744073709551616 ≤ v → StartsNot is_ascii_digit rest → number_word (digits ++ rest) ≡ erred BadNumber
number_word-great digits rest v a le s = let q = value_none digits v a le in number_word-run digits rest a.digits s ∙ rw q refl

letter_by : (o : Option ℕ) (b : ℕ) (rest : Bytes) → starts_name b ≡ true → number_by o (b ∷ rest) ≡ erred BadNumber
letter_by None b rest e = refl
letter_by (Some n) b rest e = let t = or_true (starts_name b) e in rw t refl

pub number_word-letter : (digits : Bytes) (v b : ℕ) (rest : Bytes) → AreDigits v digits → starts_name b ≡ true → number_word (digits ++ b ∷ rest) ≡ erred BadNumber
number_word-letter digits v b rest a e = number_word-run digits (b ∷ rest) a.digits (starts_digit b e) ∙ letter_by (number_value digits) b rest e

-- ---- what is found is so

within_by : (v w : ℕ) (b : Bool) → nat_lt v 18446744073709551616 ≡ b → cond b (Some v) None ≡ Some w → (v ≡ w) × (w < 18446744073709551616)
within_by v w true e f = let q : v ≡ w = cc in (q, subst (λ (x : ℕ). x < 18446744073709551616) q (grind arith))
within_by v w false e f = absurd cc

within_is : (v w : ℕ) → within_64 v ≡ Some w → (v ≡ w) × (w < 18446744073709551616)
within_is v w e = within_by v w (nat_lt v 18446744073709551616) refl e

letter_next : (digits rest : Bytes) (v : ℕ) → AreDigits v digits → StartsNot is_ascii_digit rest → v < 18446744073709551616 → (b : Bool) → list_any starts_name (take 1 rest) ≡ b → Sound (digits ++ rest) (cond b (Err BadNumber) (Ok (lexeme.Number v, rest)))
letter_next digits [] v a s lt true e = absurd cc
letter_next digits [] v a s lt false e = (digits, refl, (a, lt), tt)
letter_next digits (c ∷ rest) v a s lt true e = letter_behind digits v c rest a (letter_true (starts_name c) e)
  where
    letter_true : (b : Bool) → (b || false) ≡ true → b ≡ true
    letter_true true e = refl
    letter_true false e = absurd cc
letter_next digits (c ∷ rest) v a s lt false e = (digits, refl, (a, lt), parts-goes_on c s (letter_false (starts_name c) e))
  where
    letter_false : (b : Bool) → (b || false) ≡ false → b ≡ false
    letter_false false e = refl
    letter_false true e = absurd cc

number_by-sound : (digits rest : Bytes) → digits ≢ [] → list_all is_ascii_digit digits ≡ true → StartsNot is_ascii_digit rest → (o : Option ℕ) → number_value digits ≡ o → Sound (digits ++ rest) (number_by o rest)
number_by-sound digits rest n d s None e = too_great digits rest (number_from 0 digits) (record { some = n; digits = d; value = refl }) s (past (number_from 0 digits) e)
number_by-sound digits rest n d s (Some v) e = let w = within_is (number_from 0 digits) v e in letter_next digits rest v (record { some = n; digits = d; value = w.0 }) s w.1 (list_any starts_name (take 1 rest)) refl

pub number_word-sound : (b : ℕ) (bs : Bytes) → is_ascii_digit b ≡ true → Sound (b ∷ bs) (number_word (b ∷ bs))
number_word-sound b bs f =
    let text = take (run_len is_ascii_digit bs) bs in
    let rest = drop (run_len is_ascii_digit bs) bs in
    let g = run-passes is_ascii_digit bs in
    let st = run-stops is_ascii_digit bs in
    let whole : b ∷ text ++ rest ≡ b ∷ bs = ap (λ (u : Bytes). b ∷ u) (take-append-drop (run_len is_ascii_digit bs) bs) in
    let all : list_all is_ascii_digit (b ∷ text) ≡ true = rw (f, g) refl in
    let e = number_word-run (b ∷ text) rest all st in
    subst (λ (u : Bytes). Sound u (number_word u)) whole (subst (λ (r : Scan Lexeme). Sound (b ∷ text ++ rest) r) (sym e) (number_by-sound (b ∷ text) rest (λ q. absurd cc) all st (number_value (b ∷ text)) refl))
