-- What a reader of a start symbol keeps, and what follows of the words at which it stops.
use Rattle.std.proofs.Common.{◌≡◌, ◌<◌, ◌+◌, ◌⊎◌, ℕ, suc, [], ◌∷◌, ◌++◌, length, Ok, Err, inl, inr, refl, sym, ap, subst, ◌∙◌, append_assoc, arith}
use Rattle.std.proofs.lemmas.List.{append-nil}
use Rattle.lara_syntax.specs.declared.item.Item.{Item}
use Rattle.lara_data.specs.declared.refusal.Kind.{Kind}
use Rattle.lara_data.specs.declared.refusal.Kind.TheVariants.{Unexpected, TooMany}
use Rattle.lara_syntax.specs.declared.fault.Stop.{Stop}
use Rattle.lara_syntax.specs.Limits.{Limits}
use Rattle.lara_syntax.specs.Steps.{Items, Read, Reader}
use Rattle.lara_syntax.specs.Refusals.{KindOf, too_many, unexpected}
use Rattle.lara_syntax.specs.StartSymbols.{AreSpelled, BeginsWithin, NoneWithin, LongBegins, NoLongBegins}
use Rattle.lara_syntax.proofs.Turns.{read_of, erred}
use Rattle.lara_syntax.proofs.Readers.{IsReader, ok_err, stop_is, nil_of}
use Rattle.lara_syntax.proofs.Viable.{IsViable, spelled_append}
use Rattle.lara_syntax.proofs.ViableWords.{at_end}
use Rattle.lara_syntax.proofs.Wider.{Less, Fits, Past, Wider, Widens, always, past_some}

-- The reader p reads X: it looks at no word behind the next one, it reads what X is and nothing else, where it stops the words
-- before can go on, and with wider limits it reads the same or goes past the word of which there are too many.
pub record IsParser {A : Type 0} (X : Limits → A → Items → Type 0) (p : Limits → Reader A) : Type 0 where
  pub reader : (limits : Limits) → IsReader (p limits)
  pub complete : (limits : Limits) (x : A) (ts : Items) → X limits x ts → p limits ts ≡ read_of x []
  pub sound : (limits : Limits) (ts : Items) (x : A) (u : Items) → p limits ts ≡ read_of x u → X limits x ts
  pub viable : (limits : Limits) → IsViable at_end (p limits)
  pub widens : (a b : Limits) → Less a b → Widens always (p a) (p b)

-- where a reader of X stops: the words before can go on
pub record StopsAt {A : Type 0} (X : Limits → A → Items → Type 0) (limits : Limits) (ts : Items) (d : Stop) : Type 0 where
  pub before : Items
  pub bad : Items
  pub parts : ts ≡ before ++ bad
  pub place : d.left ≡ length bad
  pub after : Items
  pub spelled : AreSpelled after
  pub x : A
  pub whole : X limits x (before ++ after)

regrouped : (before : Items) (bad : Item) (after : Items) → (before ++ bad ∷ []) ++ after ≡ before ++ bad ∷ after
regrouped before bad after = append_assoc before (bad ∷ []) after

-- limits wider than two others
abbrev above : Limits → Limits → Limits
above a b = record { statements = suc (a.statements + b.statements); levels = suc (a.levels + b.levels); counted = record { operators = suc (a.counted.operators + b.counted.operators); signs = suc (a.counted.signs + b.counted.signs) } }

above_first : (a b : Limits) → Less a (above a b)
above_first a b = (omega arith, omega arith, (omega arith, omega arith))

above_second : (a b : Limits) → Less b (above a b)
above_second a b = (omega arith, omega arith, (omega arith, omega arith))

not_both : (k : Kind) → k ≡ TooMany → k ≡ Unexpected → ⊥
not_both k e f = let q : TooMany ≡ Unexpected = sym e ∙ f in absurd cc

-- two kinds, of which one is at a word alone
abbrev pub OfTwoKinds : Stop → Type 0
OfTwoKinds d = (d.kind ≡ Unexpected) ⊎ ((d.kind ≡ TooMany) × (0 < d.left))

module _ {A : Type 0} (X : Limits → A → Items → Type 0) (p : Limits → Reader A) (laws : IsParser X p) where
  -- ---- nothing of X begins with the words up to the refused one

  -- whatever is behind the refused word
  moved : (limits : Limits) (before : Items) (bad : Item) (after on : Items) (d : Stop) → p limits (before ++ bad ∷ after) ≡ erred d → d.left ≡ suc (length after) → p limits (before ++ bad ∷ on) ≡ erred (record { left = suc (length on); kind = d.kind })
  moved limits before bad after on d e len =
      let same : d ≡ record { left = suc (length after); kind = d.kind } = ap (λ (n : ℕ). record { left = n; kind = d.kind }) len in
      (laws.reader limits).err before bad after on d.kind (e ∙ ap (λ (s : Stop). erred s) same)

  pub none_begins : (limits : Limits) (before : Items) (bad : Item) (after : Items) (d : Stop) → p limits (before ++ bad ∷ after) ≡ erred d → d.left ≡ suc (length after) → NoneWithin X limits (before ++ bad ∷ [])
  none_begins limits before bad after d e len on x h =
      let read : p limits (before ++ bad ∷ on) ≡ read_of x [] = ap (p limits) (sym (regrouped before bad on)) ∙ laws.complete limits x ((before ++ bad ∷ []) ++ on) h in
      ok_err x [] _ (sym read ∙ moved limits before bad after on d e len)

  -- ---- the words before it can go on

  pub stops_at : (limits : Limits) (ts : Items) (d : Stop) → p limits ts ≡ erred d → StopsAt X limits ts d
  stops_at limits ts d e =
      let g = (laws.viable limits).goes ts d e in
      record {
        before = g.before;
        bad = g.bad;
        parts = g.parts;
        place = g.place;
        after = g.more ++ [];
        spelled = spelled_append g.more [] g.spelled tt;
        x = g.x;
        whole = laws.sound limits (g.before ++ (g.more ++ [])) g.x [] (g.on [] tt);
      }

  pub stopped_whole : (limits : Limits) (ts : Items) (d : Stop) → d.left ≡ 0 → (s : StopsAt X limits ts d) → BeginsWithin X limits ts
  stopped_whole limits ts d e s =
      let none : s.bad ≡ [] = nil_of s.bad (sym s.place ∙ e) in
      let same : s.before ≡ ts = sym (s.parts ∙ ap (λ (q : Items). s.before ++ q) none ∙ append-nil s.before) in
      (s.after, s.spelled, s.x, subst (λ (q : Items). X limits s.x (q ++ s.after)) same s.whole)

  pub begins_whole : (limits : Limits) (ts : Items) (x : A) → X limits x ts → BeginsWithin X limits ts
  begins_whole limits ts x h = ([], tt, x, subst (λ (q : Items). X limits x q) (sym (append-nil ts)) h)

  -- ---- wider limits

  still_read : (a b : Limits) (ts : Items) (x : A) → Wider always (p a ts) (p b ts) → p a ts ≡ read_of x [] → p b ts ≡ read_of x []
  still_read a b ts x (inl h) e = sym h.0 ∙ e
  still_read a b ts x (inr h) e = absurd (ok_err x [] h.0 (sym e ∙ h.1))

  -- what is within limits is within wider ones
  still_within : (a b : Limits) → Less a b → (x : A) (ts : Items) → X a x ts → X b x ts
  still_within a b less x ts h = laws.sound b ts x [] (still_read a b ts x (laws.widens a b less ts) (laws.complete a x ts h))

  -- what a stop is of wider limits
  same_stop : (a : Limits) (ts : Items) (c d : Stop) → p a ts ≡ erred c → p a ts ≡ erred d → c ≡ d
  same_stop a ts c d e f = stop_is {A = A} c d (sym e ∙ f)

  still_stops : (a b : Limits) (ts : Items) (d : Stop) → Wider always (p a ts) (p b ts) → p a ts ≡ erred d → d.kind ≡ Unexpected → p b ts ≡ erred d
  still_stops a b ts d (inl h) e k = sym h.0 ∙ e
  still_stops a b ts d (inr h) e k = absurd (not_both d.kind (sym (ap (λ (s : Stop). s.kind) (same_stop a ts h.0 d h.1 e)) ∙ h.2) k)

  goes_past : (a b : Limits) (ts : Items) (d : Stop) → Wider always (p a ts) (p b ts) → p a ts ≡ erred d → d.kind ≡ TooMany → Past d.left (p b ts)
  goes_past a b ts d (inl h) e k = absurd (not_both d.kind k (subst (λ (q : Read A). Fits always q) e h.1))
  goes_past a b ts d (inr h) e k = subst (λ (s : Stop). Past s.left (p b ts)) (same_stop a ts h.0 d h.1 e) h.3

  -- ---- the kind

  kinds_by : (a b : Limits) (ts : Items) (d : Stop) → Wider always (p a ts) (p b ts) → p a ts ≡ erred d → OfTwoKinds d
  kinds_by a b ts d (inl h) e = inl (subst (λ (q : Read A). Fits always q) e h.1)
  kinds_by a b ts d (inr h) e =
      let same = same_stop a ts h.0 d h.1 e in
      inr (sym (ap (λ (s : Stop). s.kind) same) ∙ h.2, subst (λ (s : Stop). 0 < s.left) same (past_some h.0.left (p b ts) h.3))

  pub two_kinds : (limits : Limits) (ts : Items) (d : Stop) → p limits ts ≡ erred d → OfTwoKinds d
  two_kinds limits ts d e = let wide = above limits limits in kinds_by limits wide ts d (laws.widens limits wide (above_first limits limits) ts) e

  none_long : (a : Limits) (before : Items) (bad : Item) (after : Items) (d : Stop) → p a (before ++ bad ∷ after) ≡ erred d → d.left ≡ suc (length after) → d.kind ≡ Unexpected → NoLongBegins X (before ++ bad ∷ [])
  none_long a before bad after d e len k limits on x h =
      let wide = above a limits in
      let ts = before ++ bad ∷ after in
      let there : p wide ts ≡ erred d = still_stops a wide ts d (laws.widens a wide (above_first a limits) ts) e k in
      none_begins wide before bad after d there len on x (still_within limits wide (above_second a limits) x ((before ++ bad ∷ []) ++ on) h)

  past_all : (limits : Limits) (ts : Items) (o : Read A) → p limits ts ≡ o → Past 1 o → BeginsWithin X limits ts
  past_all limits ts (Ok (x, u)) e lt = begins_whole limits ts x (laws.sound limits ts x u e)
  past_all limits ts (Err d) e lt = stopped_whole limits ts d (omega (arith, lt)) (stops_at limits ts d e)

  long_begins : (a : Limits) (before : Items) (bad : Item) (after : Items) (d : Stop) → p a (before ++ bad ∷ after) ≡ erred d → d.left ≡ suc (length after) → d.kind ≡ TooMany → LongBegins X (before ++ bad ∷ [])
  long_begins a before bad after d e len k =
      let wide = above a a in
      let ts = before ++ bad ∷ [] in
      let past : Past 1 (p wide ts) = goes_past a wide ts (record { left = 1; kind = d.kind }) (laws.widens a wide (above_first a a) ts) (moved a before bad after [] d e len) k in
      (wide, past_all wide ts (p wide ts) refl past)

  kind_by : (a : Limits) (before : Items) (bad : Item) (after : Items) (d : Stop) → p a (before ++ bad ∷ after) ≡ erred d → d.left ≡ suc (length after) → OfTwoKinds d → KindOf X d.kind (before ++ bad ∷ [])
  kind_by a before bad after d e len (inl k) = subst (λ (j : Kind). KindOf X j (before ++ bad ∷ [])) (sym k) (unexpected (before ++ bad ∷ []) (none_long a before bad after d e len k))
  kind_by a before bad after d e len (inr m) = subst (λ (j : Kind). KindOf X j (before ++ bad ∷ [])) (sym m.0) (too_many (before ++ bad ∷ []) (long_begins a before bad after d e len m.0))

  -- the kind of a refused word
  pub kind_of : (a : Limits) (before : Items) (bad : Item) (after : Items) (d : Stop) → p a (before ++ bad ∷ after) ≡ erred d → d.left ≡ suc (length after) → KindOf X d.kind (before ++ bad ∷ [])
  kind_of a before bad after d e len = kind_by a before bad after d e len (two_kinds a (before ++ bad ∷ after) d e)
