-- What stands before the word at which a loop of turns stops can go on to what it makes.
use Rattle.std.proofs.Common.{◌≡◌, ◌<◌, ℕ, zero, suc, [], ◌++◌, length, Option, Some, None, Ok, Err, refl, sym, ap, subst, ◌∙◌, arith}
use Rattle.lara_syntax.specs.declared.item.Lexeme.{Lexeme}
use Rattle.lara_syntax.specs.declared.fault.Stop.{Stop}
use Rattle.lara_syntax.specs.declared.fault.Fault.TheVariants as faults
use Rattle.lara_syntax.specs.Steps.{Items, Read, Reader, turns, head_word}
use Rattle.lara_syntax.proofs.Turns.{Shortens, read_of, erred, rest_is, value_is, err_ok, turns-some, turns-none, turns-fail}
use Rattle.lara_syntax.proofs.Readers.{IsReader, split, longer, regroup, ok_err, reads_turns, stop_is}
use Rattle.lara_syntax.proofs.Viable.{Goes, goes_behind, IsViable}

-- what gives a value gives it whatever of G is next
abbrev pub Keeps : {A : Type 0} → (Option Lexeme → Type 0) → Reader (Option A) → Type 0
Keeps {A = A} G item = (before u v : Items) (x : A) → item (before ++ u) ≡ read_of (Some x) u → G (head_word v) → item (before ++ v) ≡ read_of (Some x) v

-- F: what may follow the turns; G: what may follow one
pub record IsTurn {S : Type 0} (F G : Option Lexeme → Type 0) (step : S → Reader (Option S)) : Type 0 where
  pub shortens : Shortens step
  pub reader : (s : S) → IsReader (step s)
  pub ends : (s : S) (v : Items) → F (head_word v) → step s v ≡ read_of None v
  pub rests : (s : S) (ts u : Items) → step s ts ≡ read_of None u → F (head_word u) → G (head_word ts)
  pub begins : (s : S) (ts : Items) (x : S) (u : Items) → step s ts ≡ read_of (Some x) u → G (head_word ts)
  pub keeps : (s : S) → Keeps G (step s)
  pub viable : (s : S) → IsViable F (step s)

-- ---- the loop

module _ {S : Type 0} (F G : Option Lexeme → Type 0) (step : S → Reader (Option S)) (is : IsTurn F G step) where
  starts_by : (r : Read (Option S)) (s y : S) (ts v : Items) → step s ts ≡ r → turns step s ts ≡ read_of y v → F (head_word v) → G (head_word ts)
  starts_by (Ok (None, m)) s y ts v h e after =
      let same : m ≡ v = rest_is s m y v (sym (turns-none step is.shortens s ts m h) ∙ e) in
      is.rests s ts m h (subst (λ q. F (head_word q)) (sym same) after)
  starts_by (Ok (Some x, m)) s y ts v h e after = is.begins s ts x m h
  starts_by (Err d) s y ts v h e after = absurd (err_ok {A = S} d (y, v) (sym (turns-fail step is.shortens s ts (faults.Stopped d) h) ∙ e))

  pub turns_starts : (s y : S) (ts v : Items) → turns step s ts ≡ read_of y v → F (head_word v) → G (head_word ts)
  turns_starts s y ts v e after = starts_by (step s ts) s y ts v refl e after

  stays_by : (n : ℕ) → ((s y : S) (before u v : Items) → length (before ++ u) < n → turns step s (before ++ u) ≡ read_of y u → F (head_word v) → turns step s (before ++ v) ≡ read_of y v)
      → (r : Read (Option S)) (s y : S) (before u v : Items) → step s (before ++ u) ≡ r → length (before ++ u) < suc n → turns step s (before ++ u) ≡ read_of y u → F (head_word v) → turns step s (before ++ v) ≡ read_of y v
  stays_by n next (Ok (None, m)) s y before u v h lt e after =
      let done = sym (turns-none step is.shortens s (before ++ u) m h) ∙ e in
      let same : m ≡ u = rest_is s m y u done in
      let there : step s (before ++ v) ≡ read_of None v = (is.viable s).stays before u v None (h ∙ ap (λ (q : Items). read_of None q) same) after in
      turns-none step is.shortens s (before ++ v) v there ∙ ap (λ (q : S). read_of q v) (value_is s m y u done)
  stays_by n next (Ok (Some x, m)) s y before u v h lt e after =
      let a = (is.reader s).front (before ++ u) (Some x) m h in
      let e2 : turns step x m ≡ read_of y u = sym (turns-some step is.shortens s (before ++ u) x m h) ∙ e in
      let b = (reads_turns step is.shortens is.reader x).front m y u e2 in
      let p = split a.0 m before u (sym a.1) (longer m b.0 u b.1) in
      let shorter = is.shortens.shorter s (before ++ u) x m h in
      let k : turns step x (p.0 ++ v) ≡ read_of y v = next x y p.0 u v (omega (arith, shorter, ap length p.1)) (ap (turns step x) (sym p.1) ∙ e2) after in
      let g = turns_starts x y (p.0 ++ v) v k after in
      let first : step s (a.0 ++ (p.0 ++ v)) ≡ read_of (Some x) (p.0 ++ v) = is.keeps s a.0 m (p.0 ++ v) x (ap (step s) (sym a.1) ∙ h) g in
      ap (turns step s) (regroup before a.0 p.0 v p.2) ∙ turns-some step is.shortens s (a.0 ++ (p.0 ++ v)) x (p.0 ++ v) first ∙ k
  stays_by n next (Err d) s y before u v h lt e after = absurd (err_ok {A = S} d (y, u) (sym (turns-fail step is.shortens s (before ++ u) (faults.Stopped d) h) ∙ e))

  turns_stay : (n : ℕ) (s y : S) (before u v : Items) → length (before ++ u) < n → turns step s (before ++ u) ≡ read_of y u → F (head_word v) → turns step s (before ++ v) ≡ read_of y v
  turns_stay zero s y before u v lt e after = absurd (omega arith)
  turns_stay (suc n) s y before u v lt e after = stays_by n (turns_stay n) (step s (before ++ u)) s y before u v refl lt e after

  -- what a last turn makes
  abbrev last_of : S → Option S → S
  last_of s None = s
  last_of s (Some x) = x

  last_turn : (o : Option S) (s : S) (ts v : Items) → step s ts ≡ read_of o v → F (head_word v) → turns step s ts ≡ read_of (last_of s o) v
  last_turn None s ts v e after = turns-none step is.shortens s ts v e
  last_turn (Some x) s ts v e after = turns-some step is.shortens s ts x v e ∙ turns-none step is.shortens x v v (is.ends x v after)

  goes_by : (n : ℕ) → ((s : S) (ts : Items) (d : Stop) → length ts < n → turns step s ts ≡ erred d → Goes F (turns step s) ts d)
      → (r : Read (Option S)) (s : S) (ts : Items) (d : Stop) → step s ts ≡ r → length ts < suc n → turns step s ts ≡ erred d → Goes F (turns step s) ts d
  goes_by n next (Ok (None, m)) s ts d h lt e = absurd (ok_err s m d (sym (turns-none step is.shortens s ts m h) ∙ e))
  goes_by n next (Ok (Some x, m)) s ts d h lt e =
      let a = (is.reader s).front ts (Some x) m h in
      let shorter = is.shortens.shorter s ts x m h in
      let g = next x m d (omega (arith, shorter)) (sym (turns-some step is.shortens s ts x m h) ∙ e) in
      goes_behind F (turns step s) (turns step x) a.0 ts m d a.1 g (λ v after.
      let rest = g.before ++ (g.more ++ v) in
      let k : turns step x rest ≡ read_of g.x v = g.on v after in
      let w = turns_starts x g.x rest v k after in
      let first : step s (a.0 ++ rest) ≡ read_of (Some x) rest = is.keeps s a.0 m rest x (ap (step s) (sym a.1) ∙ h) w in
      turns-some step is.shortens s (a.0 ++ rest) x rest first ∙ k)
  goes_by n next (Err c) s ts d h lt e =
      let same : c ≡ d = stop_is {A = S} c d (sym (turns-fail step is.shortens s ts (faults.Stopped c) h) ∙ e) in
      let g = (is.viable s).goes ts d (h ∙ ap (λ (t : Stop). erred t) same) in
      record {
        before = g.before;
        bad = g.bad;
        parts = g.parts;
        place = g.place;
        more = g.more;
        spelled = g.spelled;
        x = last_of s g.x;
        on = λ v after. last_turn g.x s (g.before ++ (g.more ++ v)) v (g.on v after) after;
      }

  turns_go : (n : ℕ) (s : S) (ts : Items) (d : Stop) → length ts < n → turns step s ts ≡ erred d → Goes F (turns step s) ts d
  turns_go zero s ts d lt e = absurd (omega arith)
  turns_go (suc n) s ts d lt e = goes_by n (turns_go n) (step s ts) s ts d refl lt e

  pub viable_turns : (s : S) → IsViable F (turns step s)
  viable_turns s = record {
    stays = λ before u v y e after. turns_stay (suc (length (before ++ u))) s y before u v (omega arith) e after;
    word = [];
    spelled = tt;
    value = s;
    says = λ v after. turns-none step is.shortens s v v (is.ends s v after);
    goes = λ ts d e. turns_go (suc (length ts)) s ts d (omega arith) e;
  }
