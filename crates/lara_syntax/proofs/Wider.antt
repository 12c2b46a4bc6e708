-- What a reader with wider limits gives: the same, or it goes past the word of which this one has too many.
use Rattle.std.proofs.Common.{inl, inr, ◌⊎◌, ◌≡◌, ℕ, ◌<◌, length, Ok, Err, refl, sym, ap, subst, arith}
use Rattle.lara_data.specs.declared.refusal.Kind.TheVariants.{Unexpected, TooMany}
use Rattle.lara_syntax.specs.declared.fault.Stop.{Stop}
use Rattle.lara_syntax.specs.declared.count.Count.{Count}
use Rattle.lara_syntax.specs.Limits.{Limits}
use Rattle.lara_syntax.specs.Steps.{Items, Read, Reader, onward, ◌>>=◌, give}
use Rattle.lara_syntax.proofs.Turns.{erred}
use Rattle.lara_syntax.proofs.Readers.{IsReader, longer}
use Rattle.lara_syntax.proofs.PlainRules.{Plain}

-- less of each that is counted
abbrev pub LessCount : Count → Count → Type 0
LessCount m n = (m.operators < n.operators) × (m.signs < n.signs)

-- less of each
abbrev pub Less : Limits → Limits → Type 0
Less a b = (a.statements < b.statements) × (a.levels < b.levels) × LessCount a.counted b.counted

-- a value of P, or a word that is not expected
abbrev pub Fits : {A : Type 0} → (A → Type 0) → Read A → Type 0
Fits P (Ok x) = P x.0
Fits P (Err d) = d.kind ≡ Unexpected

-- it goes past the word from which so many are left
abbrev pub Past : {A : Type 0} → ℕ → Read A → Type 0
Past n (Ok x) = length x.1 < n
Past n (Err d) = d.left < n

abbrev pub Wider : {A : Type 0} → (A → Type 0) → Read A → Read A → Type 0
Wider P r s = ((r ≡ s) × Fits P r) ⊎ ((d : Stop) × (r ≡ erred d) × (d.kind ≡ TooMany) × Past d.left s)

abbrev pub Widens : {A : Type 0} → (A → Type 0) → Reader A → Reader A → Type 0
Widens P p q = (ts : Items) → Wider P (p ts) (q ts)

-- of any value
abbrev pub always : {A : Type 0} → A → Type 0
always x = Unit {0}

-- a reader goes past a word that is not among those it is given
pub past_read : {A : Type 0} (q : Reader A) → IsReader q → (n : ℕ) (ts : Items) → length ts < n → (r : Read A) → q ts ≡ r → Past n r
past_read q iq n ts lt (Ok (x, u)) e = let f = iq.front ts x u e in omega (arith, lt, longer ts f.0 u f.1)
past_read q iq n ts lt (Err d) e = omega (arith, lt, iq.left ts d e)

pub past_onward : {A B : Type 0} (n : ℕ) (s : Read A) (g : A → Reader B) → ((x : A) → IsReader (g x)) → Past n s → Past n (onward s g)
past_onward n (Ok (x, m)) g ig lt = past_read (g x) (ig x) n m lt (g x m) refl
past_onward n (Err d) g ig lt = lt

-- there is such a word
pub past_some : {A : Type 0} (n : ℕ) (s : Read A) → Past n s → 0 < n
past_some n (Ok x) lt = omega (arith, lt)
past_some n (Err d) lt = omega (arith, lt)

wider_same : {A B : Type 0} (P : A → Type 0) (Q : B → Type 0) (f g : A → Reader B) → ((x : A) → P x → Widens Q (f x) (g x)) → (r s : Read A) → r ≡ s → Fits P r → Wider Q (onward r f) (onward s g)
wider_same P Q f g w (Ok (x, m)) s e fits = subst (λ (t : Read _). Wider Q (f x m) (onward t g)) e (w x fits m)
wider_same P Q f g w (Err d) s e fits = inl (ap (λ (t : Read _). onward t g) e, fits)

pub wider_onward : {A B : Type 0} (P : A → Type 0) (Q : B → Type 0) (f g : A → Reader B) → ((x : A) → P x → Widens Q (f x) (g x)) → ((x : A) → IsReader (g x)) → (r s : Read A) → Wider P r s → Wider Q (onward r f) (onward s g)
wider_onward P Q f g w ig r s (inl h) = wider_same P Q f g w r s h.0 h.1
wider_onward P Q f g w ig r s (inr h) = inr (h.0, ap (λ (t : Read _). onward t f) h.1, h.2, past_onward h.0.left s g ig h.3)

pub widens_bind : {A B : Type 0} (P : A → Type 0) (Q : B → Type 0) (p q : Reader A) (f g : A → Reader B) → Widens P p q → ((x : A) → P x → Widens Q (f x) (g x)) → ((x : A) → IsReader (g x)) → Widens Q (p >>= f) (q >>= g)
widens_bind P Q p q f g wp wf ig ts = wider_onward P Q f g wf ig (p ts) (q ts) (wp ts)

pub widens_give : {A : Type 0} (P : A → Type 0) (x : A) → P x → Widens P (give x) (give x)
widens_give P x h ts = inl (refl, h)

fits_plain : {A : Type 0} (r : Read A) → ((d : Stop) → r ≡ erred d → d.kind ≡ Unexpected) → Fits always r
fits_plain (Ok x) h = tt
fits_plain (Err d) h = h d refl

-- a rule without limits
pub widens_plain : {A : Type 0} (p : Reader A) → Plain p → Widens always p p
widens_plain p plain ts = inl (refl, fits_plain (p ts) (plain ts))

pub wider_of : {A : Type 0} (P : A → Type 0) (r r' s s' : Read A) → r ≡ r' → s ≡ s' → Wider P r' s' → Wider P r s
wider_of P r r' s s' e f h = subst (λ (t : Read _). Wider P t s) (sym e) (subst (λ (t : Read _). Wider P r' t) (sym f) h)
