-- What holds of every reader: it takes a front, and what it says depends on no word behind the one that is next.
use Rattle.std.proofs.Common.{inl, inr, ◌⊎◌, ◌≡◌, ℕ, zero, suc, ◌+◌, ◌<◌, ◌≤◌, List, [], ◌∷◌, ◌++◌, length, Option, Some, None, Ok, Err, refl, sym, ap, ◌∙◌, append_assoc, arith}
use Rattle.std.proofs.lemmas.List.{length-append}
use Rattle.lara_syntax.specs.declared.item.Item.{Item}
use Rattle.lara_syntax.specs.declared.item.Lexeme.{Lexeme}
use Rattle.lara_data.specs.declared.refusal.Kind.{Kind}
use Rattle.lara_data.specs.declared.refusal.Kind.TheVariants.{Unexpected}
use Rattle.lara_syntax.specs.declared.fault.Stop.{Stop}
use Rattle.lara_syntax.specs.Steps.{Items, Read, Reader, onward, ◌>>=◌, give, refuse, peek, skip, head_word, turn, turns, turns_within, behind, list_from, items_from}
use Rattle.lara_syntax.proofs.Turns.{read_of, erred, value_is, rest_is, err_ok, Shortens, within_any, TakesOne, list_step, list_shortens}

-- the value of a step that did not stop
pub bind_ok : {A B : Type 0} (r : Read A) (f : A → Reader B) (y : B × Items) → onward r f ≡ Ok y → (x : A) × (m : Items) × (r ≡ read_of x m) × (f x m ≡ Ok y)
bind_ok (Ok (x, m)) f y e = (x, m, refl, e)
bind_ok (Err d) f y e = absurd (err_ok d y e)

pub stop_is : {A : Type 0} (c d : Stop) → erred {A = A} c ≡ erred d → c ≡ d
stop_is c d e = cc

-- where two steps stop: the first, or the second after it
pub bind_err : {A B : Type 0} (r : Read A) (f : A → Reader B) (d : Stop) → onward r f ≡ erred d → ((r ≡ erred d) ⊎ ((x : A) × (m : Items) × (r ≡ read_of x m) × (f x m ≡ erred d)))
bind_err (Ok (x, m)) f d e = inr (x, m, refl, e)
bind_err {A = A} {B = B} (Err c) f d e = let same : c ≡ d = stop_is {A = B} c d e in inl (ap (λ (s : Stop). erred {A = A} s) same)

-- the same word is next, or both are at the end
abbrev pub first : Items → Option Item
first [] = None
first (t ∷ ts) = Some t

-- a rest that is longer than another's
pub split : (a m pre w : Items) → a ++ m ≡ pre ++ w → length w ≤ length m → (b : Items) × (m ≡ b ++ w) × (pre ≡ a ++ b)
split [] m pre w e le = (pre, e, refl)
split (t ∷ a) m [] w e le = absurd (omega (arith, ap length e, length-append a m))
split (t ∷ a) m (s ∷ pre) w e le =
    let tl : a ++ m ≡ pre ++ w = cc in
    let hd : t ≡ s = cc in
    let h = split a m pre w tl le in
    let q : pre ≡ a ++ h.0 = h.2 in (h.0, h.1, cc)

pub ok_err : {A : Type 0} (x : A) (ts : Items) (d : Stop) → read_of x ts ≡ erred d → ⊥
ok_err x ts d e = absurd cc

pub record IsReader {A : Type 0} (p : Reader A) : Type 0 where
  pub front : (ts : Items) (x : A) (u : Items) → p ts ≡ read_of x u → (pre : Items) × (ts ≡ pre ++ u)
  pub ok : (pre u v : Items) (x : A) → first u ≡ first v → p (pre ++ u) ≡ read_of x u → p (pre ++ v) ≡ read_of x v
  pub left : (ts : Items) (d : Stop) → p ts ≡ erred d → d.left ≤ length ts
  pub err : (pre : Items) (t : Item) (u v : Items) (kind : Kind) → p (pre ++ t ∷ u) ≡ erred (record { left = suc (length u); kind = kind }) → p (pre ++ t ∷ v) ≡ erred (record { left = suc (length v); kind = kind })

first_behind : (b u v : Items) → first u ≡ first v → first (b ++ u) ≡ first (b ++ v)
first_behind [] u v e = e
first_behind (t ∷ b) u v e = refl

pub longer : (m b u : Items) → m ≡ b ++ u → length u ≤ length m
longer m b u e = omega (arith, ap length e, length-append b u)

pub regroup : (pre a b u : Items) → pre ≡ a ++ b → pre ++ u ≡ a ++ (b ++ u)
regroup pre a b u e = ap (λ (q : Items). q ++ u) e ∙ append_assoc a b u

-- ---- one step after the other

through : {A B : Type 0} (p : Reader A) (f : A → Reader B) → IsReader p → ((x : A) → IsReader (f x)) → (a b u v : Items) (x : A) (y : B) → first u ≡ first v → p (a ++ (b ++ u)) ≡ read_of x (b ++ u) → f x (b ++ u) ≡ read_of y u → (p >>= f) (a ++ (b ++ v)) ≡ read_of y v
through p f ip if a b u v x y same e e2 =
    rw (ip.ok a (b ++ u) (b ++ v) x (first_behind b u v same) e) ((if x).ok b u v y same e2)

through_parts : {A B : Type 0} (p : Reader A) (f : A → Reader B) → IsReader p → ((x : A) → IsReader (f x)) → (pre a b m u v : Items) (x : A) (y : B) → first u ≡ first v → pre ≡ a ++ b → m ≡ b ++ u → p (pre ++ u) ≡ read_of x m → f x m ≡ read_of y u → (p >>= f) (pre ++ v) ≡ read_of y v
through_parts p f ip if pre a b m u v x y same ep em e e2 =
    ap (p >>= f) (regroup pre a b v ep) ∙ through p f ip if a b u v x y same (ap p (sym (regroup pre a b u ep)) ∙ e ∙ ap (λ (q : Items). read_of x q) em) (ap (f x) (sym em) ∙ e2)

bind_reads_ok : {A B : Type 0} (p : Reader A) (f : A → Reader B) → IsReader p → ((x : A) → IsReader (f x)) → (pre u v : Items) (y : B) → first u ≡ first v → (p >>= f) (pre ++ u) ≡ read_of y u → (p >>= f) (pre ++ v) ≡ read_of y v
bind_reads_ok p f ip if pre u v y same e =
    let h = bind_ok (p (pre ++ u)) f (y, u) e in
    let a = ip.front (pre ++ u) h.0 h.1 h.2 in
    let b = (if h.0).front h.1 y u h.3 in
    let s = split a.0 h.1 pre u (sym a.1) (longer h.1 b.0 u b.1) in
    through_parts p f ip if pre a.0 s.0 h.1 u v h.0 y same s.2 s.1 h.2 h.3

err_through : {A B : Type 0} (p : Reader A) (f : A → Reader B) → IsReader p → ((x : A) → IsReader (f x)) → (a b : Items) (t : Item) (u v : Items) (x : A) (kind : Kind) → p (a ++ (b ++ t ∷ u)) ≡ read_of x (b ++ t ∷ u) → f x (b ++ t ∷ u) ≡ erred (record { left = suc (length u); kind = kind }) → (p >>= f) (a ++ (b ++ t ∷ v)) ≡ erred (record { left = suc (length v); kind = kind })
err_through p f ip if a b t u v x kind e e2 =
    rw (ip.ok a (b ++ t ∷ u) (b ++ t ∷ v) x (first_behind b (t ∷ u) (t ∷ v) refl) e) ((if x).err b t u v kind e2)

err_parts : {A B : Type 0} (p : Reader A) (f : A → Reader B) → IsReader p → ((x : A) → IsReader (f x)) → (pre a b m : Items) (t : Item) (u v : Items) (x : A) (kind : Kind) → pre ≡ a ++ b → m ≡ b ++ t ∷ u → p (pre ++ t ∷ u) ≡ read_of x m → f x m ≡ erred (record { left = suc (length u); kind = kind }) → (p >>= f) (pre ++ t ∷ v) ≡ erred (record { left = suc (length v); kind = kind })
err_parts p f ip if pre a b m t u v x kind ep em e e2 =
    ap (p >>= f) (regroup pre a b (t ∷ v) ep) ∙ err_through p f ip if a b t u v x kind (ap p (sym (regroup pre a b (t ∷ u) ep)) ∙ e ∙ ap (λ (q : Items). read_of x q) em) (ap (f x) (sym em) ∙ e2)

bind_reads_err : {A B : Type 0} (p : Reader A) (f : A → Reader B) → IsReader p → ((x : A) → IsReader (f x)) → (pre : Items) (t : Item) (u v : Items) (kind : Kind) → (p >>= f) (pre ++ t ∷ u) ≡ erred (record { left = suc (length u); kind = kind }) → (p >>= f) (pre ++ t ∷ v) ≡ erred (record { left = suc (length v); kind = kind })
bind_reads_err p f ip if pre t u v kind e =
    elim (bind_err (p (pre ++ t ∷ u)) f (record { left = suc (length u); kind = kind }) e) [
      | inl e1 ↦ rw (ip.err pre t u v kind e1) refl
      | inr h ↦
          let a = ip.front (pre ++ t ∷ u) h.0 h.1 h.2 in
          let le : suc (length u) ≤ length h.1 = (if h.0).left h.1 _ h.3 in
          let s = split a.0 h.1 pre (t ∷ u) (sym a.1) le in
          err_parts p f ip if pre a.0 s.0 h.1 t u v h.0 kind s.2 s.1 h.2 h.3
    ]

bind_reads_left : {A B : Type 0} (p : Reader A) (f : A → Reader B) → IsReader p → ((x : A) → IsReader (f x)) → (ts : Items) (d : Stop) → (p >>= f) ts ≡ erred d → d.left ≤ length ts
bind_reads_left p f ip if ts d e =
    elim (bind_err (p ts) f d e) [
      | inl e1 ↦ ip.left ts d e1
      | inr h ↦
          let a = ip.front ts h.0 h.1 h.2 in
          let le = (if h.0).left h.1 d h.3 in
          let len = longer ts a.0 h.1 a.1 in
          omega (arith, le, len)
    ]

pub reads_bind : {A B : Type 0} (p : Reader A) (f : A → Reader B) → IsReader p → ((x : A) → IsReader (f x)) → IsReader (p >>= f)
reads_bind p f ip if = record {
  front = λ ts y u e.
      let h = bind_ok (p ts) f (y, u) e in
      let a = ip.front ts h.0 h.1 h.2 in
      let b = (if h.0).front h.1 y u h.3 in
      (a.0 ++ b.0, a.1 ∙ ap (λ (m : Items). a.0 ++ m) b.1 ∙ sym (append_assoc a.0 b.0 u));
  ok = bind_reads_ok p f ip if;
  left = bind_reads_left p f ip if;
  err = bind_reads_err p f ip if;
}

-- ---- single steps

pub nil_of : (pre : Items) → length pre ≡ 0 → pre ≡ []
nil_of [] e = refl
nil_of (t ∷ pre) e = absurd (omega arith)

pub nothing_before : (pre u : Items) → pre ++ u ≡ u → pre ≡ []
nothing_before [] u e = refl
nothing_before (t ∷ pre) u e = absurd (omega (arith, ap length e, length-append pre u))

pub reads_give : {A : Type 0} (x : A) → IsReader (give x)
reads_give x = record {
  front = λ ts y u e. ([], rest_is x ts y u e);
  ok = λ pre u v y same e. let n = nothing_before pre u (rest_is x (pre ++ u) y u e) in let z = value_is x (pre ++ u) y u e in rw (n, z) refl;
  left = λ ts d e. absurd (ok_err x ts d e);
  err = λ pre t u v kind e. absurd (ok_err x (pre ++ t ∷ u) _ e);
}

pub reads_refuse : {A : Type 0} (kind : Kind) → IsReader (refuse {A = A} kind)
reads_refuse {A = A} kind = record {
  front = λ ts y u e. absurd (err_ok {A = A} _ (y, u) e);
  ok = λ pre u v y same e. absurd (err_ok {A = A} _ (y, u) e);
  left = λ ts d e. let s : record { left = length ts; kind = kind } ≡ d = stop_is {A = A} _ d e in let n = ap (λ (x : Stop). x.left) s in omega (arith, n);
  err = λ pre t u v k e.
      let s = stop_is {A = A} (record { left = length (pre ++ t ∷ u); kind = kind }) (record { left = suc (length u); kind = k }) e in
      let n = ap (λ (x : Stop). x.left) s in
      let same : kind ≡ k = ap (λ (x : Stop). x.kind) s in
      let none : pre ≡ [] = nil_of pre (omega (arith, n, length-append pre (t ∷ u))) in
      rw (none, same) refl;
}

head_word-same : (u v : Items) → first u ≡ first v → head_word u ≡ head_word v
head_word-same [] [] e = refl
head_word-same [] (t ∷ v) e = absurd cc
head_word-same (s ∷ u) [] e = absurd cc
head_word-same (s ∷ u) (t ∷ v) e = let q : s ≡ t = cc in ap (λ (x : Item). head_word (x ∷ [])) q

pub reads_peek : IsReader peek
reads_peek = record {
  front = λ ts y u e. ([], rest_is (head_word ts) ts y u e);
  ok = λ pre u v y same e.
      let n = nothing_before pre u (rest_is (head_word (pre ++ u)) (pre ++ u) y u e) in
      let z = value_is (head_word (pre ++ u)) (pre ++ u) y u e in
      rw n (ap (λ (w : Option Lexeme). read_of w v) (sym (head_word-same u v same) ∙ ap (λ (q : Items). head_word (q ++ u)) (sym n) ∙ z));
  left = λ ts d e. absurd (ok_err (head_word ts) ts d e);
  err = λ pre t u v kind e. absurd (ok_err (head_word (pre ++ t ∷ u)) (pre ++ t ∷ u) _ e);
}

-- one word is taken
pub skip_front : (ts : Items) (x : ℕ) (u : Items) → skip ts ≡ read_of x u → (t : Item) × (ts ≡ t ∷ u) × (x ≡ t.at)
skip_front [] x u e = absurd (err_ok {A = ℕ} _ (x, u) e)
skip_front (t ∷ ts) x u e = let r = rest_is t.at ts x u e in (t, ap (λ (q : Items). t ∷ q) r, sym (value_is t.at ts x u e))

pub skip_ok : (pre u v : Items) (x : ℕ) → skip (pre ++ u) ≡ read_of x u → skip (pre ++ v) ≡ read_of x v
skip_ok [] u v x e = let h = skip_front u x u e in absurd (omega (arith, ap length h.1))
skip_ok (t ∷ []) u v x e = let z = value_is t.at u x u e in rw z refl
skip_ok (t ∷ s ∷ pre) u v x e = let r = rest_is t.at (s ∷ pre ++ u) x u e in absurd (omega (arith, ap length r, length-append (s ∷ pre) u))

skip_err : (pre : Items) (t : Item) (u : Items) (d : Stop) → skip (pre ++ t ∷ u) ≡ erred d → ⊥
skip_err [] t u d e = absurd (ok_err t.at u d e)
skip_err (s ∷ pre) t u d e = absurd (ok_err s.at (pre ++ t ∷ u) d e)

skip_left : (ts : Items) (d : Stop) → skip ts ≡ erred d → d.left ≤ length ts
skip_left [] d e = let s : record { left = 0; kind = Unexpected } ≡ d = stop_is {A = ℕ} _ d e in let n = ap (λ (x : Stop). x.left) s in omega (arith, n)
skip_left (t ∷ ts) d e = absurd (ok_err t.at ts d e)

pub reads_skip : IsReader skip
reads_skip = record {
  front = λ ts x u e. let h = skip_front ts x u e in (h.0 ∷ [], h.1);
  ok = λ pre u v x same e. skip_ok pre u v x e;
  left = skip_left;
  err = λ pre t u v kind e. absurd (skip_err pre t u _ e);
}

-- what takes a word first
pub skip_shortens : {B : Type 0} (f : ℕ → Reader B) → ((x : ℕ) → IsReader (f x)) → (ts : Items) (y : B) (u : Items) → (skip >>= f) ts ≡ read_of y u → length u < length ts
skip_shortens f if ts y u e =
    let h = bind_ok (skip ts) f (y, u) e in
    let a = skip_front ts h.0 h.1 h.2 in
    let b = (if h.0).front h.1 y u h.3 in
    let l = longer h.1 b.0 u b.1 in
    omega (arith, l, ap length a.1)

-- ---- a reader that is each of many, where these have turns enough

pub reads_any : {A : Type 0} (p : Reader A) (q : ℕ → Reader A) → ((n : ℕ) → IsReader (q n)) → ((n : ℕ) (ts : Items) → length ts < n → p ts ≡ q n ts) → IsReader p
reads_any p q iq same = record {
  front = λ ts x u e. (iq (suc (length ts))).front ts x u (sym (same (suc (length ts)) ts (omega arith)) ∙ e);
  ok = λ pre u v x h e. let n = suc (length (pre ++ u) + length (pre ++ v)) in
      same n (pre ++ v) (omega arith) ∙ (iq n).ok pre u v x h (sym (same n (pre ++ u) (omega arith)) ∙ e);
  left = λ ts d e. (iq (suc (length ts))).left ts d (sym (same (suc (length ts)) ts (omega arith)) ∙ e);
  err = λ pre t u v kind e. let n = suc (length (pre ++ t ∷ u) + length (pre ++ t ∷ v)) in
      same n (pre ++ t ∷ v) (omega arith) ∙ (iq n).err pre t u v kind (sym (same n (pre ++ t ∷ u) (omega arith)) ∙ e);
}

reads_turn : {S : Type 0} (ended : Reader S) (more : S → Reader S) → IsReader ended → ((s : S) → IsReader (more s)) → (o : Option S) → IsReader (turn ended more o)
reads_turn ended more ie im None = ie
reads_turn ended more ie im (Some s) = im s

reads_within : {S : Type 0} (step : S → Reader (Option S)) → ((s : S) → IsReader (step s)) → (n : ℕ) (s : S) → IsReader (turns_within step n s)
unfolding turns_within
reads_within step is zero s = reads_give s
reads_within step is (suc n) s = reads_bind (step s) (turn (give s) (turns_within step n)) (is s) (reads_turn (give s) (turns_within step n) (reads_give s) (reads_within step is n))

turns_are : {S : Type 0} (step : S → Reader (Option S)) → Shortens step → (s : S) (n : ℕ) (ts : Items) → length ts < n → turns step s ts ≡ turns_within step n s ts
unfolding turns
turns_are step sh s n ts lt = within_any step sh (suc (length ts)) n s ts (omega arith) lt

pub reads_turns : {S : Type 0} (step : S → Reader (Option S)) → Shortens step → ((s : S) → IsReader (step s)) → (s : S) → IsReader (turns step s)
reads_turns step sh is s = reads_any (turns step s) (λ n. turns_within step n s) (λ n. reads_within step is n s) (turns_are step sh s)

pub reads_list : {A : Type 0} (item : List A → Reader (Option A)) → ((ys : List A) → TakesOne (item ys)) → ((ys : List A) → IsReader (item ys)) → (xs : List A) → IsReader (list_from item xs)
reads_list item one ii xs = reads_turns (list_step item) (list_shortens item one) (λ ys. reads_bind (item ys) (λ x. give (behind ys x)) (ii ys) (λ x. reads_give (behind ys x))) xs

pub reads_items : {A : Type 0} (item : Reader (Option A)) → TakesOne item → IsReader item → (xs : List A) → IsReader (items_from item xs)
reads_items item one ii xs = reads_list (λ ys. item) (λ ys. one) (λ ys. ii) xs
