-- Bytes have one wrong place by words, so that a reader of a start symbol decides it.
use Rattle.std.proofs.Common.{◌≡◌, ◌≤◌, ℕ, List, [], ◌∷◌, ◌++◌, length, Option, Some, None, Result, Ok, Err, ◌⊎◌, inl, inr, refl, sym, ap, subst, ◌∙◌, append_assoc, arith}
use Rattle.lara_syntax.specs.declared.item.Item.{Item}
use Rattle.lara_data.specs.declared.refusal.Kind.{Kind}
use Rattle.lara_data.specs.declared.refusal.Refusal.{Refusal}
use Rattle.lara_syntax.specs.Limits.{Limits, most}
use Rattle.lara_syntax.specs.Steps.{Items, Reader}
use Rattle.lara_syntax.specs.TokenReadings.{Reads}
use Rattle.lara_syntax.specs.Decided.{Decides}
use Rattle.lara_syntax.specs.Parsed.{parsed_by}
use Rattle.lara_syntax.specs.StartSymbols.{Stands, SomeBegins, NoneBegins}
use Rattle.lara_syntax.specs.Refusals.{KindOf, too_many, unexpected, WrongWord, at_word, at_end, at_token, WrongPlace, by_words, FirstWrong}
use Rattle.lara_syntax.proofs.Parsers.{IsParser}
use Rattle.lara_syntax.proofs.ParsedLaws.{items_are, stop_are, parsed_found, parsed_only, parsed_wrong}

-- two cuts of the same words: at one word, or one before the other
abbrev Cuts : Items → Item → Items → Item → Type 0
Cuts a x c y = ((a ≡ c) × (x ≡ y)) ⊎ (((more : Items) × (c ≡ (a ++ x ∷ []) ++ more)) ⊎ ((more : Items) × (a ≡ (c ++ y ∷ []) ++ more)))

deeper : (s t : Item) (a : Items) (x : Item) (c : Items) (y : Item) → s ≡ t → Cuts a x c y → Cuts (s ∷ a) x (t ∷ c) y
deeper s t a x c y e (inl p) = inl (ap (λ (q : Item). q ∷ a) e ∙ ap (λ (q : Items). t ∷ q) p.0, p.1)
deeper s t a x c y e (inr (inl p)) = inr (inl (p.0, ap (λ (q : Item). q ∷ c) (sym e) ∙ ap (λ (q : Items). s ∷ q) p.1))
deeper s t a x c y e (inr (inr p)) = inr (inr (p.0, ap (λ (q : Item). q ∷ a) e ∙ ap (λ (q : Items). t ∷ q) p.1))

cuts : (a : Items) (x : Item) (b c : Items) (y : Item) (d : Items) → a ++ x ∷ b ≡ c ++ y ∷ d → Cuts a x c y
cuts [] x b [] y d e = let q : x ≡ y = cc in inl (refl, q)
cuts [] x b (t ∷ c) y d e = let q : t ≡ x = cc in inr (inl (c, ap (λ (z : Item). z ∷ c) q))
cuts (s ∷ a) x b [] y d e = let q : s ≡ y = cc in inr (inr (a, ap (λ (z : Item). z ∷ a) q))
cuts (s ∷ a) x b (t ∷ c) y d e =
    let hd : s ≡ t = cc in
    let tl : a ++ x ∷ b ≡ c ++ y ∷ d = cc in
    deeper s t a x c y hd (cuts a x b c y d tl)

-- the bytes have one reading
one_reading : (bytes : List ℕ) (xs ys : Items) (s t : Option Refusal) → Reads (length bytes) bytes xs s → Reads (length bytes) bytes ys t → (xs ≡ ys) × (s ≡ t)
one_reading bytes xs ys s t f g = (sym (items_are bytes xs s f) ∙ items_are bytes ys t g, sym (stop_are bytes xs s f) ∙ stop_are bytes ys t g)

some_is : (r s : Refusal) → (let o : Option Refusal = Some r in o) ≡ Some s → r ≡ s
some_is r s e = cc

none_some : (r : Refusal) → (let o : Option Refusal = None in o) ≡ Some r → ⊥
none_some r e = absurd cc

module _ {A : Type 0} (X : Limits → A → Items → Type 0) where
  -- what goes on after words goes on after each front of them
  no_front : (front more whole : Items) → whole ≡ front ++ more → SomeBegins X whole → NoneBegins X front → ⊥
  no_front front more whole e s n = n (more ++ s.0) s.2 (subst (λ (q : Items). X most s.2 q) (ap (λ (q : Items). q ++ s.0) e ∙ append_assoc front more s.0) s.3)

  one_kind : (j k : Kind) (ts : Items) → KindOf X j ts → KindOf X k ts → j ≡ k
  one_kind j k ts (too_many us l) (too_many vs m) = refl
  one_kind j k ts (too_many us l) (unexpected vs n) = let h = l.1 in absurd (n l.0 h.0 h.2 h.3)
  one_kind j k ts (unexpected us n) (too_many vs l) = let h = l.1 in absurd (n l.0 h.0 h.2 h.3)
  one_kind j k ts (unexpected us n) (unexpected vs m) = refl

  -- two refused words
  two_words : (a c : Items) (x y : Item) (j k : Kind) → SomeBegins X a → NoneBegins X (a ++ x ∷ []) → KindOf X j (a ++ x ∷ []) → SomeBegins X c → NoneBegins X (c ++ y ∷ []) → KindOf X k (c ++ y ∷ [])
      → Cuts a x c y → (let r : Refusal = record { at = x.at; kind = j } in r) ≡ record { at = y.at; kind = k }
  two_words a c x y j k sa na ka sc nc kc (inl p) =
      let same : a ++ x ∷ [] ≡ c ++ y ∷ [] = ap (λ (q : Items). q ++ x ∷ []) p.0 ∙ ap (λ (z : Item). c ++ z ∷ []) p.1 in
      let kinds : j ≡ k = one_kind j k (c ++ y ∷ []) (subst (λ (q : Items). KindOf X j q) same ka) kc in
      ap (λ (z : Item). record { at = z.at; kind = j }) p.1 ∙ ap (λ (q : Kind). record { at = y.at; kind = q }) kinds
  two_words a c x y j k sa na ka sc nc kc (inr (inl p)) = absurd (no_front (a ++ x ∷ []) p.0 c p.1 sc na)
  two_words a c x y j k sa na ka sc nc kc (inr (inr p)) = absurd (no_front (c ++ y ∷ []) p.0 a p.1 sa nc)

  -- something goes on behind all words, so it does behind the refused one
  past_word : (a : Items) (x : Item) (b whole : Items) → whole ≡ a ++ x ∷ b → NoneBegins X (a ++ x ∷ []) → SomeBegins X whole → ⊥
  past_word a x b whole e n s = no_front (a ++ x ∷ []) b whole (e ∙ sym (append_assoc a (x ∷ []) b)) s n

  one_wrong_word : (bytes : List ℕ) (r s : Refusal) → WrongWord X bytes r → WrongWord X bytes s → r ≡ s
  one_wrong_word bytes r s (at_word a x b p j e sa na ka) (at_word c y d q k f sc nc kc) = two_words a c x y j k sa na ka sc nc kc (cuts a x b c y d (one_reading bytes _ _ p q e f).0)
  one_wrong_word bytes r s (at_word a x b p j e sa na ka) (at_end whole t some none) = absurd (past_word a x b whole (one_reading bytes _ _ None p t e).0 na some)
  one_wrong_word bytes r s (at_word a x b p j e sa na ka) (at_token whole q t some) = absurd (past_word a x b whole (one_reading bytes _ _ (Some q) p t e).0 na some)
  one_wrong_word bytes r s (at_end whole t some none) (at_word a x b p j e sa na ka) = absurd (past_word a x b whole (one_reading bytes _ _ None p t e).0 na some)
  one_wrong_word bytes r s (at_end xs t some none) (at_end ys u some2 none2) = refl
  one_wrong_word bytes r s (at_end xs t some none) (at_token ys q u some2) = absurd (none_some q (one_reading bytes xs ys None (Some q) t u).1)
  one_wrong_word bytes r s (at_token whole q t some) (at_word a x b p j e sa na ka) = absurd (past_word a x b whole (one_reading bytes _ _ (Some q) p t e).0 na some)
  one_wrong_word bytes r s (at_token xs q t some) (at_end ys u some2 none) = absurd (none_some q (one_reading bytes ys xs None (Some q) u t).1)
  one_wrong_word bytes r s (at_token xs q t some) (at_token ys p u some2) = some_is q p (one_reading bytes xs ys (Some q) (Some p) t u).1

  -- a wrong place by words comes no later than any wrong place
  none_before : (bytes : List ℕ) (r other : Refusal) → WrongWord X bytes r → WrongPlace X bytes other → r.at ≤ other.at
  none_before bytes r other w (by_words s v) = let same : r.at ≡ s.at = ap (λ (q : Refusal). q.at) (one_wrong_word bytes r s w v) in omega (arith, same)

  -- so it is the first
  first_of : (bytes : List ℕ) (r : Refusal) → WrongWord X bytes r → FirstWrong X bytes r
  first_of bytes r w = record { wrong = by_words r w; least = λ other place. none_before bytes r other w place }

  -- what stands in the grammar is not refused
  stands_not : (bytes : List ℕ) (z : A) (r : Refusal) → Stands X bytes z → WrongWord X bytes r → ⊥
  stands_not bytes z r h (at_word a x b p j e sa na ka) = na b z (subst (λ (q : Items). X most z q) ((one_reading bytes _ _ None p h.reading e).0 ∙ sym (append_assoc a (x ∷ []) b)) h.whole)
  stands_not bytes z r h (at_end xs t some none) = none z (subst (λ (q : Items). X most z q) (one_reading bytes _ _ None None h.reading t).0 h.whole)
  stands_not bytes z r h (at_token xs q t some) = none_some q (one_reading bytes _ _ None (Some q) h.reading t).1

module _ {A : Type 0} (X : Limits → A → Items → Type 0) (p : Limits → Reader A) (laws : IsParser X p) where
  answered_refusal : (bytes : List ℕ) (q : Result A Refusal) (r : Refusal) → parsed_by p bytes ≡ q → WrongPlace X bytes r → q ≡ Err r
  answered_refusal bytes (Ok x) r e (by_words s v) = absurd (stands_not X bytes x r (parsed_found X p laws bytes x e) v)
  answered_refusal bytes (Err s) r e (by_words t v) = ap (λ (q : Refusal). Err q) (one_wrong_word X bytes s r (parsed_wrong X p laws bytes s e) v)

  -- by the laws between a start symbol and its reader, what this gives of bytes decides it
  pub parsed_decides : Decides X (parsed_by p)
  parsed_decides = record {
    found = parsed_found X p laws;
    only = parsed_only X p laws;
    refused = λ bytes r e. first_of X bytes r (parsed_wrong X p laws bytes r e);
    only_refusal = λ bytes r h. answered_refusal bytes (parsed_by p bytes) r refl h.wrong;
  }
