-- What the reader of a start symbol gives of bytes stands in the grammar, and what it refuses is wrong by a word.
use Rattle.std.proofs.Common.{◌≡◌, ◌-◌, ℕ, zero, suc, List, [], ◌∷◌, ◌++◌, length, Option, Some, None, Result, Ok, Err, inl, inr, refl, sym, ap, subst, ◌∙◌, arith}
use Rattle.std.specs.Prelude.{slice_get}
use Rattle.std.proofs.lemmas.List.{length-append}
use Rattle.std.proofs.lemmas.Option.{slice_get_past}
use Rattle.lara_syntax.specs.declared.item.Item.{Item}
use Rattle.lara_data.specs.declared.refusal.Kind.{Kind}
use Rattle.lara_data.specs.declared.refusal.Kind.TheVariants.{Unexpected}
use Rattle.lara_data.specs.declared.refusal.Refusal.{Refusal}
use Rattle.lara_syntax.specs.declared.fault.Stop.{Stop}
use Rattle.lara_syntax.specs.Limits.{Limits, most}
use Rattle.lara_syntax.specs.Steps.{Items, Read, Reader}
use Rattle.lara_syntax.specs.Tokens.{items_of, stop_of}
use Rattle.lara_syntax.specs.Parsed.{read_value, at_or, place_of, refusal_of, at_end_of, answered, parsed_by}
use Rattle.lara_syntax.specs.Refusals.{WrongWord, at_word, at_end, at_token}
use Rattle.lara_syntax.specs.StartSymbols.{Stands, SomeBegins}
use Rattle.lara_syntax.proofs.Turns.{erred}
use Rattle.lara_syntax.proofs.Readers.{ok_err}
use Rattle.lara_syntax.specs.TokenReadings.{Reads}
use Rattle.lara_syntax.proofs.ReadLaws.{items-read, reads-items}
use Rattle.lara_syntax.proofs.Parsers.{IsParser, StopsAt, OfTwoKinds, stops_at, stopped_whole, begins_whole, none_begins, two_kinds, kind_of}

ok_not_err : {A B : Type 0} (x : A) (e : B) → (let q : Result A B = Ok x in q) ≡ Err e → ⊥
ok_not_err x e h = absurd cc

ok_is : {A B : Type 0} (x y : A) → (let q : Result A B = Ok x in q) ≡ Ok y → x ≡ y
ok_is x y h = cc

err_is : {A B : Type 0} (x y : B) → (let q : Result A B = Err x in q) ≡ Err y → x ≡ y
err_is x y h = cc

-- ---- how the bytes are read

pub items_are : (bytes : List ℕ) (xs : Items) (stop : Option Refusal) → Reads (length bytes) bytes xs stop → items_of bytes ≡ xs
items_are bytes xs stop reads = sym (reads-items bytes xs stop reads).0

pub stop_are : (bytes : List ℕ) (xs : Items) (stop : Option Refusal) → Reads (length bytes) bytes xs stop → stop_of bytes ≡ stop
stop_are bytes xs stop reads = sym (reads-items bytes xs stop reads).1

read_so : (bytes : List ℕ) (xs : Items) (stop : Option Refusal) → items_of bytes ≡ xs → stop_of bytes ≡ stop → Reads (length bytes) bytes xs stop
read_so bytes xs stop e h = subst (λ (q : Items). Reads (length bytes) bytes q stop) e (subst (λ (s : Option Refusal). Reads (length bytes) bytes (items_of bytes) s) h (items-read bytes))

-- ---- places

get_behind : (before : Items) (bad : Item) (after : Items) → slice_get (before ++ bad ∷ after) (length before) ≡ Some bad
get_behind [] bad after = refl
get_behind (t ∷ before) bad after = get_behind before bad after

word_place : (size : ℕ) (ts before : Items) (bad : Item) (after : Items) (left : ℕ) → ts ≡ before ++ bad ∷ after → left ≡ suc (length after) → place_of size ts left ≡ bad.at
word_place size ts before bad after left e len =
    let n : length ts - left ≡ length before = omega (arith, ap length e, len, length-append before (bad ∷ after)) in
    ap (λ (i : ℕ). at_or size (slice_get ts i)) n ∙ ap (λ (q : Items). at_or size (slice_get q (length before))) e ∙ ap (at_or size) (get_behind before bad after)

end_place : (size : ℕ) (ts : Items) (left : ℕ) → left ≡ 0 → place_of size ts left ≡ size
end_place size ts left e = ap (at_or size) (slice_get_past ts (length ts - left) (omega (arith, e)))

end_kind : (d : Stop) → d.left ≡ 0 → OfTwoKinds d → d.kind ≡ Unexpected
end_kind d e (inl k) = k
end_kind d e (inr m) = absurd (omega (arith, e, m.1))

module _ {A : Type 0} (X : Limits → A → Items → Type 0) (p : Limits → Reader A) (laws : IsParser X p) where
  -- ---- what is answered stands in the grammar

  found_by : (bytes : List ℕ) (rd : Read A) (token : Option Refusal) (x : A) → p most (items_of bytes) ≡ rd → stop_of bytes ≡ token → answered (length bytes) (items_of bytes) token (read_value rd) ≡ Ok x → Stands X bytes x
  found_by bytes (Ok (y, u)) (Some token) x e t h = absurd (ok_not_err {A = A} {B = Refusal} x token (sym h))
  found_by bytes (Ok (y, u)) None x e t h =
      subst (λ (z : A). Stands X bytes z) (ok_is {A = A} {B = Refusal} y x h)
      (record { items = items_of bytes; reading = read_so bytes (items_of bytes) None refl t; whole = laws.sound most (items_of bytes) y u e })
  found_by bytes (Err d) token x e t h = absurd (ok_not_err {A = A} {B = Refusal} x _ (sym h))

  pub parsed_found : (bytes : List ℕ) (x : A) → parsed_by p bytes ≡ Ok x → Stands X bytes x
  parsed_found bytes x h = found_by bytes (p most (items_of bytes)) (stop_of bytes) x refl refl h

  pub parsed_only : (bytes : List ℕ) (x : A) → Stands X bytes x → parsed_by p bytes ≡ Ok x
  parsed_only bytes x h =
      let whole = subst (λ (q : Items). X most x q) (sym (items_are bytes h.items None h.reading)) h.whole in
      rw (laws.complete most x (items_of bytes) whole, stop_are bytes h.items None h.reading) refl

  -- ---- what is refused is wrong by a word

  -- at a word
  refused_word : (bytes : List ℕ) (d : Stop) (before : Items) (bad : Item) (after : Items) → p most (items_of bytes) ≡ erred d → items_of bytes ≡ before ++ bad ∷ after → d.left ≡ suc (length after) → SomeBegins X before → WrongWord X bytes (refusal_of (length bytes) (items_of bytes) d)
  refused_word bytes d before bad after e parts len front =
      let there : p most (before ++ bad ∷ after) ≡ erred d = ap (p most) (sym parts) ∙ e in
      let place = word_place (length bytes) (items_of bytes) before bad after d.left parts len in
      subst (λ (at : ℕ). WrongWord X bytes (record { at = at; kind = d.kind })) (sym place)
      (at_word before bad after (stop_of bytes) d.kind (read_so bytes (before ++ bad ∷ after) (stop_of bytes) parts refl) front (none_begins X p laws most before bad after d there len) (kind_of X p laws most before bad after d there len))

  -- at the end of the words
  refused_end : (bytes : List ℕ) (d : Stop) (token : Option Refusal) (refusal : Refusal) → p most (items_of bytes) ≡ erred d → stop_of bytes ≡ token → d.left ≡ 0 → at_end_of 0 token (refusal_of (length bytes) (items_of bytes) d) ≡ refusal → WrongWord X bytes refusal
  refused_end bytes d (Some t) refusal e h zero_left q =
      at_token (items_of bytes) refusal (read_so bytes (items_of bytes) (Some refusal) refl (h ∙ ap (λ (x : Refusal). Some x) q)) (stopped_whole X p laws most (items_of bytes) d zero_left (stops_at X p laws most (items_of bytes) d e))
  refused_end bytes d None refusal e h zero_left q =
      let kind : d.kind ≡ Unexpected = end_kind d zero_left (two_kinds X p laws most (items_of bytes) d e) in
      let place = end_place (length bytes) (items_of bytes) d.left zero_left in
      let same : record { at = length bytes; kind = Unexpected } ≡ refusal = ap (λ (at : ℕ). record { at = at; kind = Unexpected }) (sym place) ∙ ap (λ (k : Kind). record { at = place_of (length bytes) (items_of bytes) d.left; kind = k }) (sym kind) ∙ q in
      subst (λ (x : Refusal). WrongWord X bytes x) same
      (at_end (items_of bytes) (read_so bytes (items_of bytes) None refl h) (stopped_whole X p laws most (items_of bytes) d zero_left (stops_at X p laws most (items_of bytes) d e)) (λ x s. ok_err x [] d (sym (laws.complete most x (items_of bytes) s) ∙ e)))

  refused_at : (bytes : List ℕ) (d : Stop) (bad : Items) → p most (items_of bytes) ≡ erred d → (s : StopsAt X most (items_of bytes) d) → s.bad ≡ bad → (left : ℕ) → d.left ≡ suc left → WrongWord X bytes (refusal_of (length bytes) (items_of bytes) d)
  refused_at bytes d [] e s b left n = absurd (omega (arith, n, s.place, ap length b))
  refused_at bytes d (t ∷ after) e s b left n = refused_word bytes d s.before t after e (s.parts ∙ ap (λ (q : Items). s.before ++ q) b) (s.place ∙ ap length b) (s.after, s.spelled, s.x, s.whole)

  refused_stop : (bytes : List ℕ) (d : Stop) (token : Option Refusal) (refusal : Refusal) (left : ℕ) → p most (items_of bytes) ≡ erred d → stop_of bytes ≡ token → d.left ≡ left → at_end_of left token (refusal_of (length bytes) (items_of bytes) d) ≡ refusal → WrongWord X bytes refusal
  refused_stop bytes d token refusal zero e h n q = refused_end bytes d token refusal e h n q
  refused_stop bytes d token refusal (suc left) e h n q =
      let s = stops_at X p laws most (items_of bytes) d e in
      subst (λ (x : Refusal). WrongWord X bytes x) q (refused_at bytes d s.bad e s refl left n)

  refused_by : (bytes : List ℕ) (rd : Read A) (token : Option Refusal) (refusal : Refusal) → p most (items_of bytes) ≡ rd → stop_of bytes ≡ token → answered (length bytes) (items_of bytes) token (read_value rd) ≡ Err refusal → WrongWord X bytes refusal
  refused_by bytes (Ok (x, u)) (Some t) refusal e h q =
      let same : t ≡ refusal = err_is {A = A} {B = Refusal} t refusal q in
      at_token (items_of bytes) refusal (read_so bytes (items_of bytes) (Some refusal) refl (h ∙ ap (λ (x : Refusal). Some x) same)) (begins_whole X p laws most (items_of bytes) x (laws.sound most (items_of bytes) x u e))
  refused_by bytes (Ok (x, u)) None refusal e h q = absurd (ok_not_err {A = A} {B = Refusal} _ refusal q)
  refused_by bytes (Err d) token refusal e h q = refused_stop bytes d token refusal d.left e h refl (err_is {A = A} {B = Refusal} _ refusal q)

  pub parsed_wrong : (bytes : List ℕ) (refusal : Refusal) → parsed_by p bytes ≡ Err refusal → WrongWord X bytes refusal
  parsed_wrong bytes refusal h = refused_by bytes (p most (items_of bytes)) (stop_of bytes) refusal refl refl h
