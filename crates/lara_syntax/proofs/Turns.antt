-- A loop of steps, as code runs it.
use Rattle.std.proofs.Common.{◌≡◌, ℕ, zero, suc, ◌<◌, List, [], ◌∷◌, ◌++◌, length, Option, Some, None, Ok, Err, refl, ap, ◌∙◌, arith}
use Rattle.lara_syntax.specs.declared.fault.Fault.{Fault}
use Rattle.lara_syntax.specs.declared.fault.Fault.TheVariants as faults
use Rattle.lara_syntax.specs.declared.fault.Stop.{Stop}
use Rattle.lara_syntax.specs.Steps.{Items, Read, Reader, onward, ◌>>=◌, give, turn, turns_within, turns, behind, list_from, items_from, Fails}

-- each turn takes a word
pub record Shortens {S : Type 0} (step : S → Reader (Option S)) : Type 0 where
  pub shorter : (s : S) (ts : Items) (s' : S) (u : Items) → step s ts ≡ Ok (Some s', u) → length u < length ts

same_after : {S : Type 0} (r : Read (Option S)) (ended : Reader S) (f g : S → Reader S) → ((s : S) (u : Items) → r ≡ Ok (Some s, u) → f s u ≡ g s u) → onward r (turn ended f) ≡ onward r (turn ended g)
same_after (Ok (None, u)) ended f g h = refl
same_after (Ok (Some s, u)) ended f g h = h s u refl
same_after (Err e) ended f g h = refl

pub within_any : {S : Type 0} (step : S → Reader (Option S)) → Shortens step → (n m : ℕ) (s : S) (ts : Items) → length ts < n → length ts < m → turns_within step n s ts ≡ turns_within step m s ts
unfolding turns_within
within_any step sh zero m s ts a b = absurd (omega arith)
within_any step sh (suc n) zero s ts a b = absurd (omega arith)
within_any step sh (suc n) (suc m) s ts a b =
    same_after (step s ts) (give s) (turns_within step n) (turns_within step m) (λ s' u e. let lt = sh.shorter s ts s' u e in within_any step sh n m s' u (omega arith) (omega arith))

-- one turn, and the rest
pub turns-step : {S : Type 0} (step : S → Reader (Option S)) → Shortens step → (s : S) (ts : Items) → turns step s ts ≡ onward (step s ts) (turn (give s) (turns step))
unfolding turns turns_within
turns-step step sh s ts =
    same_after (step s ts) (give s) (turns_within step (length ts)) (turns step) (λ s' u e. let lt = sh.shorter s ts s' u e in within_any step sh (length ts) (suc (length u)) s' u lt (omega arith))

pub turns-some : {S : Type 0} (step : S → Reader (Option S)) → Shortens step → (s : S) (ts : Items) (s' : S) (u : Items) → step s ts ≡ Ok (Some s', u) → turns step s ts ≡ turns step s' u
turns-some step sh s ts s' u e = turns-step step sh s ts ∙ rw e refl

pub turns-none : {S : Type 0} (step : S → Reader (Option S)) → Shortens step → (s : S) (ts u : Items) → step s ts ≡ Ok (None, u) → turns step s ts ≡ Ok (s, u)
turns-none step sh s ts u e = turns-step step sh s ts ∙ rw e refl

pub turns-fail : {S : Type 0} (step : S → Reader (Option S)) → Shortens step → (s : S) (ts : Items) (e : Fault) → Fails e (step s ts) → Fails e (turns step s ts)
turns-fail step sh s ts faults.Memory h = tt
turns-fail step sh s ts (faults.Stopped d) h = turns-step step sh s ts ∙ rw h refl

-- ---- lists

-- what an item takes, where it gives one
pub record TakesOne {A : Type 0} (item : Reader (Option A)) : Type 0 where
  pub shorter : (ts : Items) (x : A) (u : Items) → item ts ≡ Ok (Some x, u) → length u < length ts

abbrev pub list_step : {A : Type 0} → (List A → Reader (Option A)) → List A → Reader (Option (List A))
list_step item ys = item ys >>= λ x. give (behind ys x)

abbrev pub read_of : {A : Type 0} → A → Items → Read A
read_of x ts = Ok (x, ts)

abbrev pub erred : {A : Type 0} → Stop → Read A
erred d = Err d

-- what two reads that are one have in common
pub pair_is : {A : Type 0} (x : A × Items) (y : A × Items) → (let r : Read A = Ok x in r) ≡ Ok y → x ≡ y
pair_is x y e = cc

pub value_is : {A : Type 0} (x : A) (ts : Items) (y : A) (us : Items) → read_of x ts ≡ read_of y us → x ≡ y
value_is {A = A} x ts y us e = ap (λ (p : A × Items). p.0) (pair_is (x, ts) (y, us) e)

pub rest_is : {A : Type 0} (x : A) (ts : Items) (y : A) (us : Items) → read_of x ts ≡ read_of y us → ts ≡ us
rest_is {A = A} x ts y us e = ap (λ (p : A × Items). p.1) (pair_is (x, ts) (y, us) e)

pub err_ok : {A : Type 0} (d : Stop) (y : A × Items) → (let r : Read A = Err d in r) ≡ Ok y → ⊥
err_ok d y e = absurd cc

pub none_some : {A : Type 0} (w u : Items) (x : A) → read_of None w ≡ read_of (Some x) u → ⊥
none_some w u x e = let n = value_is None w (Some x) u e in absurd cc

shorter_by : {A : Type 0} (r : Read (Option A)) (ys ys' : List A) (ts u : Items) → ((x : A) → r ≡ Ok (Some x, u) → length u < length ts) → onward r (λ x. give (behind ys x)) ≡ Ok (Some ys', u) → length u < length ts
shorter_by (Ok (None, w)) ys ys' ts u h e = absurd (none_some w u ys' e)
shorter_by (Ok (Some x, w)) ys ys' ts u h e = h x (ap (λ (t : Items). read_of (Some x) t) (rest_is _ w _ u e))
shorter_by (Err d) ys ys' ts u h e = absurd (err_ok d _ e)

pub list_shortens : {A : Type 0} (item : List A → Reader (Option A)) → ((ys : List A) → TakesOne (item ys)) → Shortens (list_step item)
list_shortens item one = record { shorter = λ ys ts ys' u e. shorter_by (item ys ts) ys ys' ts u (λ x. (one ys).shorter ts x u) e }

pub list-some : {A : Type 0} (item : List A → Reader (Option A)) → ((ys : List A) → TakesOne (item ys)) → (xs : List A) (ts : Items) (x : A) (u : Items) → item xs ts ≡ Ok (Some x, u) → list_from item xs ts ≡ list_from item (xs ++ x ∷ []) u
list-some item one xs ts x u e = turns-step (list_step item) (list_shortens item one) xs ts ∙ rw e refl

pub list-none : {A : Type 0} (item : List A → Reader (Option A)) → ((ys : List A) → TakesOne (item ys)) → (xs : List A) (ts : Items) (o : Option A) (u : Items) → item xs ts ≡ Ok (o, u) → o ≡ None → list_from item xs ts ≡ Ok (xs, u)
list-none item one xs ts o u e n = turns-step (list_step item) (list_shortens item one) xs ts ∙ rw (e, n) refl

pub list-fail : {A : Type 0} (item : List A → Reader (Option A)) → ((ys : List A) → TakesOne (item ys)) → (xs : List A) (ts : Items) (e : Fault) → Fails e (item xs ts) → Fails e (list_from item xs ts)
list-fail item one xs ts faults.Memory h = tt
list-fail item one xs ts (faults.Stopped s) h = turns-step (list_step item) (list_shortens item one) xs ts ∙ rw h refl

-- ---- the same of an item that does not look at the others

pub items-some : {A : Type 0} (item : Reader (Option A)) → TakesOne item → (xs : List A) (ts : Items) (x : A) (u : Items) → item ts ≡ Ok (Some x, u) → items_from item xs ts ≡ items_from item (xs ++ x ∷ []) u
items-some item one = list-some (λ ys. item) (λ ys. one)

pub items-none : {A : Type 0} (item : Reader (Option A)) → TakesOne item → (xs : List A) (ts : Items) (o : Option A) (u : Items) → item ts ≡ Ok (o, u) → o ≡ None → items_from item xs ts ≡ Ok (xs, u)
items-none item one = list-none (λ ys. item) (λ ys. one)

pub items-fail : {A : Type 0} (item : Reader (Option A)) → TakesOne item → (xs : List A) (ts : Items) (e : Fault) → Fails e (item ts) → Fails e (items_from item xs ts)
items-fail item one = list-fail (λ ys. item) (λ ys. one)

pub ruleset items_laws = (items-some, items-none, items-fail)
