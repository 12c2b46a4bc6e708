-- Turns, and what follows a comma, with wider limits.
use Rattle.std.proofs.Common.{inl, inr, ◌≡◌, ◌<◌, ℕ, zero, suc, length, Option, Some, None, Ok, Err, refl, sym, arith}
use Rattle.lara_syntax.specs.declared.item.Lexeme.{Lexeme}
use Rattle.lara_syntax.specs.declared.item.Lexeme.TheVariants as lex
use Rattle.lara_syntax.specs.declared.item.Sign.TheVariants.{Comma}
use Rattle.lara_syntax.specs.declared.fault.Fault.TheVariants as faults
use Rattle.lara_syntax.specs.Steps.{Items, Read, Reader, ◌>>=◌, give, skip, turn, turns, head_word}
use Rattle.lara_syntax.specs.WordReading.{comma_by, comma_then}
use Rattle.lara_syntax.proofs.Turns.{Shortens, read_of, erred, turns-step, turns-some, turns-none, turns-fail}
use Rattle.lara_syntax.proofs.Readers.{IsReader, reads_bind, reads_give, reads_turns}
use Rattle.lara_syntax.proofs.PlainRules.{plain_skip}
use Rattle.lara_syntax.proofs.Wider.{Fits, Past, Wider, Widens, always, past_onward, widens_bind, widens_give, widens_plain, wider_of}

-- what is given is of P
abbrev pub some_of : {A : Type 0} → (A → Type 0) → Option A → Type 0
some_of P None = Unit {0}
some_of P (Some x) = P x

-- ---- what follows a comma

comma_by_widens : {A : Type 0} (P : A → Type 0) (p q : Reader A) → IsReader q → Widens P p q → (w : Option Lexeme) → Widens (some_of P) (comma_by p w) (comma_by q w)
comma_by_widens P p q iq w (Some (lex.Sign Comma)) =
    widens_bind always (some_of P) skip skip (λ at. p >>= λ x. give (Some x)) (λ at. q >>= λ x. give (Some x)) (widens_plain skip plain_skip)
    (λ at h. widens_bind P (some_of P) p q (λ x. give (Some x)) (λ x. give (Some x)) w (λ x h. widens_give (some_of P) (Some x) h) (λ x. reads_give (Some x)))
    (λ at. reads_bind q (λ x. give (Some x)) iq (λ x. reads_give (Some x)))
comma_by_widens P p q iq w o = widens_give (some_of P) None tt

pub comma_widens : {A : Type 0} (P : A → Type 0) (p q : Reader A) → IsReader q → Widens P p q → Widens (some_of P) (comma_then p) (comma_then q)
comma_widens P p q iq w ts = comma_by_widens P p q iq w (head_word ts) ts

-- ---- turns

-- what a turn is followed by is a reader
turn-reads : {S : Type 0} (step : S → Reader (Option S)) → Shortens step → ((s : S) → IsReader (step s)) → (s : S) (o : Option S) → IsReader (turn (give s) (turns step) o)
turn-reads step sh is s None = reads_give s
turn-reads step sh is s (Some t) = reads_turns step sh is t

abbrev TurnsWiden : {S : Type 0} → (S → Type 0) → (S → Reader (Option S)) → (S → Reader (Option S)) → ℕ → Type 0
TurnsWiden {S = S} P step wide n = (s : S) → P s → (ts : Items) → length ts < n → Wider P (turns step s ts) (turns wide s ts)

same_turn : {S : Type 0} (P : S → Type 0) (step wide : S → Reader (Option S)) → Shortens step → Shortens wide → (n : ℕ) → TurnsWiden P step wide n → (s : S) → P s → (ts : Items) → length ts < suc n → (r : Read (Option S)) → step s ts ≡ r → wide s ts ≡ r → Fits (some_of P) r → Wider P (turns step s ts) (turns wide s ts)
same_turn P step wide sh wh n next s hs ts lt (Ok (None, m)) e f fits = wider_of P (turns step s ts) (read_of s m) (turns wide s ts) (read_of s m) (turns-none step sh s ts m e) (turns-none wide wh s ts m f) (inl (refl, hs))
same_turn P step wide sh wh n next s hs ts lt (Ok (Some t, m)) e f fits = wider_of P (turns step s ts) (turns step t m) (turns wide s ts) (turns wide t m) (turns-some step sh s ts t m e) (turns-some wide wh s ts t m f) (next t fits m (omega (arith, lt, sh.shorter s ts t m e)))
same_turn P step wide sh wh n next s hs ts lt (Err d) e f fits = wider_of P (turns step s ts) (erred d) (turns wide s ts) (erred d) (turns-fail step sh s ts (faults.Stopped d) e) (turns-fail wide wh s ts (faults.Stopped d) f) (inl (refl, fits))

past_turns : {S : Type 0} (wide : S → Reader (Option S)) → Shortens wide → ((s : S) → IsReader (wide s)) → (n : ℕ) (s : S) (ts : Items) → Past n (wide s ts) → Past n (turns wide s ts)
past_turns wide wh iw n s ts past = rw (turns-step wide wh s ts) (past_onward n (wide s ts) (turn (give s) (turns wide)) (turn-reads wide wh iw s) past)

one_turn : {S : Type 0} (P : S → Type 0) (step wide : S → Reader (Option S)) → Shortens step → Shortens wide → ((s : S) → IsReader (wide s)) → (n : ℕ) → TurnsWiden P step wide n → (s : S) → P s → (ts : Items) → length ts < suc n → Wider (some_of P) (step s ts) (wide s ts) → Wider P (turns step s ts) (turns wide s ts)
one_turn P step wide sh wh iw n next s hs ts lt (inl h) = same_turn P step wide sh wh n next s hs ts lt (step s ts) refl (sym h.0) h.1
one_turn P step wide sh wh iw n next s hs ts lt (inr h) = inr (h.0, turns-fail step sh s ts (faults.Stopped h.0) h.1, h.2, past_turns wide wh iw h.0.left s ts h.3)

turns_within_widen : {S : Type 0} (P : S → Type 0) (step wide : S → Reader (Option S)) → Shortens step → Shortens wide → ((s : S) → IsReader (wide s)) → ((s : S) → P s → Widens (some_of P) (step s) (wide s)) → (n : ℕ) → TurnsWiden P step wide n
turns_within_widen P step wide sh wh iw w zero s hs ts lt = absurd (omega (arith, lt))
turns_within_widen P step wide sh wh iw w (suc n) s hs ts lt = one_turn P step wide sh wh iw n (turns_within_widen P step wide sh wh iw w n) s hs ts lt (w s hs ts)

-- turns that keep P
pub turns_widen : {S : Type 0} (P : S → Type 0) (step wide : S → Reader (Option S)) → Shortens step → Shortens wide → ((s : S) → IsReader (wide s)) → ((s : S) → P s → Widens (some_of P) (step s) (wide s)) → (s : S) → P s → Widens P (turns step s) (turns wide s)
turns_widen P step wide sh wh iw w s hs ts = turns_within_widen P step wide sh wh iw w (suc (length ts)) s hs ts (omega arith)
