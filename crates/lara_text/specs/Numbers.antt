-- Numbers as texts, one or another by a word: each is told from what stands behind it.
use Rattle.std.specs.Prelude.{◌≡◌, ℕ, ◌+◌, ◌-◌, ◌^◌, ◌==◌, ◌<◌, ◌≤◌, ◌%◌, Bool, true, false, List, [], ◌∷◌, ◌++◌, length, codes, decimal, if◌then◌else◌}
use Rattle.std.proofs.Common.{refl, sym, ap, ◌∙◌, arith}
use Rattle.std.specs.List.{list_all}
use Rattle.std.specs.Char.{is_ascii_digit}
use Rattle.std.proofs.lemmas.Bool.{and_parts, and_from, eqb-true, agree_below_at, false≢true}
use Rattle.std.proofs.lemmas.Fmt.{decimal_by_steps, decimal_nonempty, decimal_injective}
use Rattle.lara_base.specs.Names.{goes_on}
use Rattle.lara_text.specs.TableTexts.{number_text}
use Rattle.lara_text.specs.Delimited.{IsRun, IsDelimited, IsDelimited-run, run_begun, first_is}

-- a number of a word
abbrev pub IsWord : ℕ → Type 0
IsWord n = n ≤ 2 ^ 64 - 1

all_append : (p : ℕ → Bool) (a b : List ℕ) → list_all p a ≡ true → list_all p b ≡ true → list_all p (a ++ b) ≡ true
all_append p [] b h k = k
all_append p (x ∷ a) b h k = and_from (p x) (list_all p (a ++ b)) (and_parts (p x) (list_all p a) h).0 (all_append p a b (and_parts (p x) (list_all p a) h).1 k)

-- a test that the ten digits pass is passed by each byte of a number
decimal_all : (p : ℕ → Bool) → ((d : ℕ) → d < 10 → p (48 + d) ≡ true) → (n : ℕ) → IsWord n → list_all p (decimal n) ≡ true
decimal_all p digit n h =
    decimal_by_steps (λ n ds. list_all p ds ≡ true)
    (λ d l. and_from (p (48 + d)) true (digit d l) refl)
    (λ m ds l so_far. all_append p ds ((48 + m % 10) ∷ []) so_far (and_from (p (48 + m % 10)) true (digit (m % 10) (omega arith)) refl))
    n (omega (arith, h))

digit_is_digit : (d : ℕ) → d < 10 → is_ascii_digit (48 + d) ≡ true
digit_is_digit d l = agree_below_at (λ d. is_ascii_digit (48 + d)) (λ d. true) 10 d refl l

digit_goes_on : (d : ℕ) → d < 10 → goes_on (48 + d) ≡ true
unfolding goes_on
digit_goes_on d l = agree_below_at (λ d. goes_on (48 + d)) (λ d. true) 10 d refl l

decimal_some : (n : ℕ) → IsWord n → decimal n ≡ [] → ⊥
decimal_some n h e = let l : 0 < length (decimal n) = decimal_nonempty n (omega (arith, h)) in absurd (omega (arith, l, ap length e))

pub decimal_run : IsRun IsWord goes_on decimal
decimal_run = record {
  all = decimal_all goes_on digit_goes_on;
  some = decimal_some;
  told = λ m n p q e. decimal_injective m n (omega (arith, p)) (omega (arith, q)) e;
}

-- a word with another byte than digits is the text of no number
pub no_decimal : (word : List ℕ) → list_all is_ascii_digit word ≡ false → (n : ℕ) → IsWord n → word ≡ decimal n → ⊥
no_decimal word other n h e = false≢true (sym other ∙ ap (list_all is_ascii_digit) e ∙ decimal_all is_ascii_digit digit_is_digit n h)

-- ---- where one number goes by a word

-- a word for one number, and a text for each other
abbrev pub named : ℕ → List ℕ → (ℕ → List ℕ) → ℕ → List ℕ
named w word f n = if n == w then word else f n

-- what holds of the word and of the number's other text
pub named_by : (Q : List ℕ → Type 0) (w : ℕ) (word : List ℕ) (f : ℕ → List ℕ) (n : ℕ) → Q word → Q (f n) → Q (named w word f n)
named_by Q w word f n p q = elim (n == w) as (λ b. Q (if b then word else f n)) [ true ↦ p | false ↦ q ]

named_told : (w : ℕ) (word : List ℕ) (f : ℕ → List ℕ) → IsRun IsWord goes_on f → ((n : ℕ) → IsWord n → word ≡ f n → ⊥) → (m n : ℕ) → IsWord m → IsWord n → named w word f m ≡ named w word f n → m ≡ n
named_told w word f run other m n p q =
    elim (m == w) as (λ b. (m == w) ≡ b → (if b then word else f m) ≡ (if n == w then word else f n) → m ≡ n) [
      | true ↦ λ s. elim (n == w) as (λ b. (n == w) ≡ b → word ≡ (if b then word else f n) → m ≡ n) [
        | true ↦ λ t e. eqb-true m w s ∙ sym (eqb-true n w t)
        | false ↦ λ t e. absurd (other n q e)
      ] refl
      | false ↦ λ s. elim (n == w) as (λ b. (n == w) ≡ b → f m ≡ (if b then word else f n) → m ≡ n) [
        | true ↦ λ t e. absurd (other m p (sym e))
        | false ↦ λ t e. run.told m n p q e
      ] refl
    ] refl

-- a word that is none of the other texts leaves them runs
pub IsRun-named : (w : ℕ) (word : List ℕ) (f : ℕ → List ℕ) → list_all goes_on word ≡ true → (word ≡ [] → ⊥) → ((n : ℕ) → IsWord n → word ≡ f n → ⊥) → IsRun IsWord goes_on f → IsRun IsWord goes_on (named w word f)
IsRun-named w word f all some other run = record {
  all = λ n h. named_by (λ t. list_all goes_on t ≡ true) w word f n all (run.all n h);
  some = λ n h. named_by (λ t. t ≡ [] → ⊥) w word f n some (run.some n h);
  told = named_told w word f run other;
}

pub over_run : (w : ℕ) → IsRun IsWord goes_on (named w (codes "over") decimal)
unfolding goes_on
over_run w = IsRun-named w (codes "over") decimal refl (λ e. cc) (no_decimal (codes "over") refl) decimal_run

-- ---- numbers with `over`

pub IsDelimited-number : IsDelimited IsWord goes_on number_text
unfolding number_text
IsDelimited-number = IsDelimited-run IsWord goes_on number_text (over_run (2 ^ 64 - 1))

-- no number begins as the end of a table does
pub number_not_end : (n : ℕ) (r s : List ℕ) → IsWord n → number_text n ++ r ≡ 101 ∷ s → ⊥
unfolding number_text
number_not_end n r s h =
    named_by (λ t. t ++ r ≡ 101 ∷ s → ⊥) (2 ^ 64 - 1) (codes "over") decimal n
    (λ e. let x : 111 ≡ 101 = first_is e in absurd (omega (arith, x)))
    (λ e. run_begun is_ascii_digit (decimal n) r (101 ∷ s) (decimal_all is_ascii_digit digit_is_digit n h) (decimal_some n h) refl e)
