-- Steps in a row. All by cases on a row of the table, none on an outcome.
use Rattle.std.proofs.Common.{◌≡◌, ◌≤◌, ◌⊎◌, ℕ, inl, inr, refl, sym, subst, ap, arith, ◌∙◌}
use Rattle.std.specs.Prelude.{Result, Ok, Err}
use Rattle.lara_base.specs.Results.{◌>>=◌}
use Rattle.lara.specs.declared.outcome.Outcome.{Outcome}
use Rattle.lara.specs.Stops.{Stop}
use Rattle.lara.specs.OutcomeTable.{Matter, Cause, depot, source, sink, wrong, met, Half, done, exact, only, free, row}
use Rattle.lara.specs.Endings.{by_half, at_stop, StopsWith, Allows, Answers, Reaches, Astray, Comes, no_fault, Ended, Stopped, Gives, Excused, Exactly, IsExact}

-- ---- how far the rules go

allows_then : {A B : Type 0} (r : Result A Stop) (f : A → Result B Stop) (o : Outcome) → Allows r o → Allows (r >>= f) o
allows_then (Ok x) f o s = absurd s
allows_then (Err e) f o s = s

earlier_by : (h : Half) (j k s : ℕ) → j ≤ k → by_half h (k ≤ s) (λ m. k ≤ s) (k ≤ s) (λ c. Unit {0}) → by_half h (j ≤ s) (λ m. j ≤ s) (j ≤ s) (λ c. Unit {0})
earlier_by done j k s l r = omega (arith, l, r)
earlier_by (exact m) j k s l r = omega (arith, l, r)
earlier_by (only c) j k s l r = tt
earlier_by free j k s l r = omega (arith, l, r)

-- what reaches a step reaches each before
pub earlier : {A : Type 0} (r : Result A Stop) (j k : ℕ) → j ≤ k → Reaches k r → Reaches j r
earlier (Ok x) j k l r = tt
earlier (Err e) j k l r = earlier_by (row e.outcome).half j k e.step l r

-- steps in a row reach a step where each does
pub reaches_then : {A B : Type 0} (r : Result A Stop) (f : A → Result B Stop) (j k : ℕ) → j ≤ k → Reaches j r → ((x : A) → Reaches k (f x)) → Reaches j (r >>= f)
reaches_then (Ok x) f j k l here there = earlier (f x) j k l (there x)
reaches_then (Err e) f j k l here there = here

zero_by : (h : Half) (s : ℕ) → by_half h (0 ≤ s) (λ m. 0 ≤ s) (0 ≤ s) (λ c. Unit {0})
zero_by done s = omega arith
zero_by (exact m) s = omega arith
zero_by (only c) s = tt
zero_by free s = omega arith

reaches_zero : {A : Type 0} (r : Result A Stop) → Reaches 0 r
reaches_zero (Ok x) = tt
reaches_zero (Err e) = zero_by (row e.outcome).half e.step

astray_then : {A B : Type 0} (r : Result A Stop) (f : A → Result B Stop) → Astray r → Astray (r >>= f)
astray_then (Ok x) f s = absurd s
astray_then (Err e) f s = s

comes_then : {A B : Type 0} (r : Result A Stop) (f : A → Result B Stop) (c : Cause) (k : ℕ) → met c ≤ k → ((x : A) → Reaches k (f x)) → Comes c r → Comes c (r >>= f)
comes_then r f source k l there here = reaches_then r f (met source) k l here there
comes_then r f depot k l there here = reaches_then r f (met depot) k l here there
comes_then r f sink k l there here = reaches_then r f (met sink) k l here there
comes_then r f (wrong file place) k l there here = astray_then r f here

-- ---- stops

-- what these causes can stop is met by this step
abbrev pub MetBy : (Cause → Type 0) → ℕ → Type 0
MetBy shown k = (c : Cause) → shown c → met c ≤ k

-- what few show, many show
abbrev pub More : (Cause → Type 0) → (Cause → Type 0) → Type 0
More few many = (c : Cause) → few c → many c

stops_by : {A B : Type 0} (few many : Cause → Type 0) (r : Result A Stop) (f : A → Result B Stop) (o : Outcome) (k : ℕ) (h : Half) → More few many → MetBy few k → ((x : A) → Reaches k (f x)) → by_half h ⊥ (λ m. Allows r o) (Unit {0}) (λ c. few c × Comes c r) → by_half h ⊥ (λ m. Allows (r >>= f) o) (Unit {0}) (λ c. many c × Comes c (r >>= f))
stops_by few many r f o k done more by there s = s
stops_by few many r f o k (exact m) more by there s = allows_then r f o s
stops_by few many r f o k (only c) more by there s = (more c s.0, comes_then r f c k (by c s.0) there s.1)
stops_by few many r f o k free more by there s = s

-- a stop of a step is a stop of what begins with it, where what follows begins at step k
pub stopped_then : {A B : Type 0} (few many : Cause → Type 0) (r : Result A Stop) (f : A → Result B Stop) (o : Outcome) (k : ℕ) → More few many → MetBy few k → ((x : A) → Reaches k (f x)) → Stopped few r o → Stopped many (r >>= f) o
stopped_then few many r f o k more by there s = stops_by few many r f o k (row o).half more by there s

-- the same of a step that meets no device
pub refused_then : {A B : Type 0} (many : Cause → Type 0) (r : Result A Stop) (f : A → Result B Stop) (o : Outcome) → Stopped no_fault r o → Stopped many (r >>= f) o
refused_then many r f o s = stopped_then no_fault many r f o 0 (λ c n. absurd n) (λ c n. absurd n) (λ x. reaches_zero (f x)) s

more_by : (few many : Cause → Type 0) (h : Half) (refusal : Matter → Type 0) (reach : Cause → Type 0) → More few many → by_half h ⊥ refusal (Unit {0}) (λ c. few c × reach c) → by_half h ⊥ refusal (Unit {0}) (λ c. many c × reach c)
more_by few many done refusal reach more s = s
more_by few many (exact m) refusal reach more s = s
more_by few many (only c) refusal reach more s = (more c s.0, s.1)
more_by few many free refusal reach more s = s

-- more may have been shown
pub stopped_more : {A : Type 0} (few many : Cause → Type 0) (r : Result A Stop) (o : Outcome) → More few many → Stopped few r o → Stopped many r o
stopped_more few many r o more s = more_by few many (row o).half (λ m. Allows r o) (λ c. Comes c r) more s

pub gives_more : {A B : Type 0} (view : A → B) (few many : Cause → Type 0) (r : Result B Stop) (x : Result A Outcome) → More few many → Gives view few r x → Gives view many r x
gives_more view few many r (Ok x) more g = g
gives_more view few many r (Err o) more g = stopped_more few many r o more g

-- what a step gives behind one that answered
pub gives_then : {A B C : Type 0} (view : A → B) (few many : Cause → Type 0) (r : Result C Stop) (x : C) (f : C → Result B Stop) (result : Result A Outcome) → r ≡ Ok x → More few many → Gives view few (f x) result → Gives view many (r >>= f) result
gives_then view few many r x f result e more g = rw e (gives_more view few many (f x) result more g)

-- what a step gives, seen otherwise
pub gives_seen : {A B C : Type 0} (view : A → B) (seen : B → C) (r : Result B Stop) (result : Result A Outcome) → Gives view no_fault r result → Gives (λ x. seen (view x)) no_fault (r >>= λ x. Ok (seen x)) result
gives_seen view seen r (Ok x) g = rw g refl
gives_seen view seen r (Err o) g = refused_then no_fault r (λ x. Ok (seen x)) o g

-- ---- endings

ended_by : (h : Half) (answer : Type 0) (refusal : Matter → Type 0) (cause : Cause → Type 0) → by_half h ⊥ refusal (Unit {0}) cause → by_half h answer refusal (Unit {0}) cause
ended_by done answer refusal cause s = absurd s
ended_by (exact m) answer refusal cause s = s
ended_by (only c) answer refusal cause s = s
ended_by free answer refusal cause s = s

pub ended : {A : Type 0} (shown : Cause → Type 0) (r : Result A Stop) (o : Outcome) → Stopped shown r o → Ended shown r o
ended shown r o s = ended_by (row o).half (Answers r) (λ m. Allows r o) (λ c. shown c × Comes c r) s

-- both halves of 'exactly', from how a call ends
comes_by : (h g : Half) (e : Stop) (refusal result : Outcome) (shown reach : Cause → Type 0) → (row e.outcome).half ≡ g → by_half g ⊥ (λ m. Unit {0}) ⊥ (λ c. ⊥) → e.outcome ≡ refusal → by_half h (at_stop e (Unit {0}) ⊥) (λ m. at_stop e (e.step ≤ (row result).last) (e.outcome ≡ result)) (Unit {0}) (λ c. shown c × reach c) → (result ≡ refusal) ⊎ by_half h ⊥ (λ m. ⊥) (Unit {0}) reach
comes_by done done e refusal result shown reach is k same s = absurd k
comes_by done (exact m) e refusal result shown reach is k same s = absurd (rw is at s)
comes_by done (only c) e refusal result shown reach is k same s = absurd k
comes_by done free e refusal result shown reach is k same s = absurd k
comes_by (exact n) done e refusal result shown reach is k same s = absurd k
comes_by (exact n) (exact m) e refusal result shown reach is k same s = inl (sym (rw is at s) ∙ same)
comes_by (exact n) (only c) e refusal result shown reach is k same s = absurd k
comes_by (exact n) free e refusal result shown reach is k same s = absurd k
comes_by (only c) g e refusal result shown reach is k same s = inr s.1
comes_by free g e refusal result shown reach is k same s = inr tt

comes_from : {A : Type 0} (shown : Cause → Type 0) (r : Result A Stop) (refusal result : Outcome) → IsExact refusal → Ended shown r result → StopsWith r refusal → (result ≡ refusal) ⊎ Excused r result
comes_from shown (Ok x) refusal result is s t = absurd t
comes_from {A} shown (Err e) refusal result is s t = comes_by (row result).half (row e.outcome).half e refusal result shown (λ c. Comes {A = A} c (Err e)) refl (subst (λ (o : Outcome). IsExact o) (sym t) is) t s

only_by : (h : Half) (answer refusal memory : Type 0) (cause : Cause → Type 0) → by_half h ⊥ (λ m. Unit {0}) ⊥ (λ c. ⊥) → by_half h answer (λ m. refusal) memory cause → refusal
only_by done answer refusal memory cause is s = absurd is
only_by (exact m) answer refusal memory cause is s = s
only_by (only c) answer refusal memory cause is s = absurd is
only_by free answer refusal memory cause is s = absurd is

pub exactly : {A : Type 0} (shown : Cause → Type 0) (r : Result A Stop) (refusal result : Outcome) → IsExact refusal → Ended shown r result → Exactly r refusal result
exactly shown r refusal result is s = record {
  only = λ same. only_by (row refusal).half (Answers r) (Allows r refusal) (Unit {0}) (λ c. shown c × Comes c r) is (subst (λ (o : Outcome). Ended shown r o) same s);
  comes = comes_from shown r refusal result is s;
}
