-- Items, one after the other.
use Rattle.std.proofs.Common.{◌≡◌, ℕ, ◌+◌, ◌-◌, ◌≤◌, ◌<◌, List, [], ◌∷◌, length, refl, arith, true, false, Some, None, Option, sym, ◌∙◌, ap, subst, Ok, Err}
use Rattle.std.specs.Prelude.{◌==◌}
use Rattle.std.proofs.lemmas.Bool.{eqb-true, eqb-false}
use Rattle.lara_data.specs.declared.refusal.Kind.{Kind}
use Rattle.lara_data.specs.declared.refusal.Refusal.{Refusal}
use Rattle.lara_syntax.specs.declared.item.Item.{Item}
use Rattle.lara_syntax.specs.declared.item.Lexeme.{Lexeme}
use Rattle.lara_syntax.specs.ScanSteps.{Bytes, Scan, gather}
use Rattle.lara_syntax.specs.ByteClasses.{after_blank}
use Rattle.lara_syntax.specs.TokenWords.{word_at, item_here, item_by, stop_at, refused}
use Rattle.lara_syntax.specs.Tokens.{scanned, items_of, items_in, stop_of, stop_in}
use Rattle.lara_syntax.specs.Spans.{LiesFrom, AreInOrder}
use Rattle.lara_syntax.proofs.Gather.{gather-none, scan_of, erred, value_is, rest_is, err_ok, none_some}
use Rattle.lara_syntax.proofs.Listed.{Listed, none, more, Never, gathered, gather-never}
use Rattle.lara_syntax.proofs.WordLaws.{word_at-shorter, blank-shorter, item_here-one}

never_item : (size : ℕ) (bs : Bytes) (r : Scan Lexeme) (k : Kind) → item_by size bs r ≡ erred k → ⊥
never_item size bs (Ok x) k e = err_ok k _ (sym e)
never_item size bs (Err j) k e = err_ok k _ (sym e)

pub item_here-never : (size : ℕ) → Never (item_here size)
unfolding item_here
item_here-never size ts k e = never_item size (after_blank ts) (word_at (after_blank ts)) k e

-- the bytes from where the items stop
pub record Scanned (bytes : Bytes) (rest : Bytes) : Type 0 where
  pub all : scanned bytes ≡ scan_of (items_of bytes) rest
  pub listed : Listed (item_here (length bytes)) (items_of bytes) bytes rest
  pub stop : stop_of bytes ≡ stop_at (length bytes) rest

scanned_by : (bytes : Bytes) (r : Scan (List Item)) → scanned bytes ≡ r → (rest : Bytes) × Scanned bytes rest
unfolding scanned items_of stop_of
scanned_by bytes (Ok (xs, rest)) e =
    let g = gathered (item_here (length bytes)) (item_here-one (length bytes)) [] bytes xs rest e in
    let i : items_of bytes ≡ xs = ap items_in e in (
      rest,
      record {
        all = e ∙ ap (λ (q : List Item). scan_of q rest) (sym i);
        listed = subst (λ (q : List Item). Listed (item_here (length bytes)) q bytes rest) (sym (i ∙ g.1)) g.2;
        stop = ap (stop_in (length bytes)) e;
      },
    )
scanned_by bytes (Err k) e = absurd (gather-never (item_here (length bytes)) (item_here-never (length bytes)) [] bytes k e)

pub scanned-rest : (bytes : Bytes) → (rest : Bytes) × Scanned bytes rest
scanned-rest bytes = scanned_by bytes (scanned bytes) refl

-- ---- the steps of the loop

pub item_here-some : (size : ℕ) (bs rest u : Bytes) (x : Lexeme) → rest ≡ after_blank bs → word_at rest ≡ scan_of x u → item_here size bs ≡ scan_of (Some (record { at = size - length rest; len = length rest - length u; lexeme = x })) u
unfolding item_here
item_here-some size bs rest u x e w = ap (λ (v : Bytes). item_by size v (word_at v)) (sym e) ∙ ap (item_by size rest) w

pub item_here-end : (size : ℕ) (bs rest : Bytes) → rest ≡ after_blank bs → (length rest == 0) ≡ true → item_here size bs ≡ scan_of None []
unfolding item_here word_at
item_here-end size bs [] e n = ap (λ (u : Bytes). item_by size u (word_at u)) (sym e)
item_here-end size bs (b ∷ rest) e n = absurd (omega (arith, eqb-true _ _ n))

stop_at-wrong : (size : ℕ) (rest : Bytes) (k : Kind) → (length rest == 0) ≡ false → word_at rest ≡ erred k → stop_at size rest ≡ Some (record { at = size - length rest; kind = k })
unfolding stop_at
stop_at-wrong size [] k n e = absurd (eqb-false 0 0 n refl)
stop_at-wrong size (b ∷ bs) k n e = ap (refused size (b ∷ bs)) e

pub item_here-wrong : (size : ℕ) (bs rest : Bytes) (k : Kind) → rest ≡ after_blank bs → (length rest == 0) ≡ false → word_at rest ≡ erred k → (u : Bytes) × (item_here size bs ≡ scan_of None u) × (stop_at size u ≡ Some (record { at = size - length rest; kind = k }))
unfolding item_here
item_here-wrong size bs rest k e n w = (rest, ap (λ (u : Bytes). item_by size u (word_at u)) (sym e) ∙ ap (item_by size rest) w, stop_at-wrong size rest k n w)

pub ruleset step_laws = (item_here-some, item_here-end, item_here-wrong)

pub all_items : (bytes : Bytes) (xs : List Item) (ts rest : Bytes) (o : Option Refusal) → gather (item_here (length bytes)) xs ts ≡ gather (item_here (length bytes)) [] bytes → item_here (length bytes) ts ≡ scan_of None rest → stop_at (length bytes) rest ≡ o → (xs ≡ items_of bytes) × (o ≡ stop_of bytes)
unfolding scanned items_of stop_of
all_items bytes xs ts rest o g e s =
    let all : scanned bytes ≡ scan_of xs rest = sym g ∙ gather-none (item_here (length bytes)) (item_here-one (length bytes)) xs ts None rest e refl in
    (sym (ap items_in all), sym s ∙ sym (ap (stop_in (length bytes)) all))

pub stop_at-end : (size : ℕ) → stop_at size [] ≡ None
unfolding stop_at
stop_at-end size = refl

-- ---- one item

-- the item behind blanks, and what is behind it
pub record OneItem (size : ℕ) (ts : Bytes) (x : Item) (mid : Bytes) : Type 0 where
  pub word : word_at (after_blank ts) ≡ scan_of x.lexeme mid
  pub at : x.at ≡ size - length (after_blank ts)
  pub len : x.len ≡ length (after_blank ts) - length mid

one_by : (size : ℕ) (ts : Bytes) (r : Scan Lexeme) (x : Item) (mid : Bytes) → word_at (after_blank ts) ≡ r → item_by size (after_blank ts) r ≡ scan_of (Some x) mid → OneItem size ts x mid
one_by size ts (Ok (w, u)) x mid e i =
    let r = rest_is _ u (Some x) mid i in
    let v = value_is _ u (Some x) mid i in
    let made : Item = record { at = size - length (after_blank ts); len = length (after_blank ts) - length u; lexeme = w } in
    let q : x ≡ made = cc in
    record {
      word = e ∙ ap (λ (m : Bytes). scan_of w m) r ∙ ap (λ (y : Item). scan_of y.lexeme mid) (sym q);
      at = ap (λ (y : Item). y.at) q;
      len = ap (λ (y : Item). y.len) q ∙ ap (λ (m : Bytes). length (after_blank ts) - length m) r;
    }
one_by size ts (Err k) x mid e i = absurd (none_some (after_blank ts) mid x i)

pub one_item : (size : ℕ) (ts : Bytes) (x : Item) (mid : Bytes) → item_here size ts ≡ scan_of (Some x) mid → OneItem size ts x mid
unfolding item_here
one_item size ts x mid e = one_by size ts (word_at (after_blank ts)) x mid refl e

-- none: what is behind blanks begins no token
pub record NoItem (ts rest : Bytes) : Type 0 where
  pub behind : rest ≡ after_blank ts
  pub kind : Kind
  pub word : word_at rest ≡ erred kind

no_by : (size : ℕ) (ts : Bytes) (r : Scan Lexeme) (rest : Bytes) → word_at (after_blank ts) ≡ r → item_by size (after_blank ts) r ≡ scan_of None rest → NoItem ts rest
no_by size ts (Ok (w, u)) rest e i = absurd (none_some rest u _ (sym i))
no_by size ts (Err k) rest e i = let r = rest_is None (after_blank ts) None rest i in record { behind = sym r; kind = k; word = ap word_at (sym r) ∙ e }

pub no_item : (size : ℕ) (ts rest : Bytes) → item_here size ts ≡ scan_of None rest → NoItem ts rest
unfolding item_here
no_item size ts rest e = no_by size ts (word_at (after_blank ts)) rest refl e

-- ---- the order of places

lies : (size : ℕ) (rest : Bytes) (from : ℕ) → from ≤ size - length rest → 0 < length rest → length rest ≤ size → (r : Scan Lexeme) → LiesFrom from size (refused size rest r)
lies size rest from a b c (Ok x) = tt
lies size rest from a b c (Err k) = (a, omega arith)

stop_lies : (size : ℕ) (rest : Bytes) (from : ℕ) → from ≤ size - length rest → length rest ≤ size → LiesFrom from size (stop_at size rest)
unfolding stop_at
stop_lies size [] from a c = tt
stop_lies size (b ∷ bs) from a c = lies size (b ∷ bs) from a (omega arith) c (word_at (b ∷ bs))

pub in_order : (size : ℕ) (xs : List Item) (ts rest : Bytes) → Listed (item_here size) xs ts rest → length ts ≤ size → AreInOrder (size - length ts) size xs (stop_at size rest)
in_order size _ _ _ (none ts rest e) le =
    let n = no_item size ts rest e in
    let k = blank-shorter false ts in
    let q = ap length n.behind in
    stop_lies size rest (size - length ts) (omega (arith, k, q, le)) (omega (arith, k, q, le))
in_order size _ _ _ (more x xs ts mid rest e l) le =
    let o = one_item size ts x mid e in
    let k = blank-shorter false ts in
    let s = word_at-shorter (after_blank ts) x.lexeme mid o.word in
    let a = o.at in
    let b = o.len in
    let end : size - length mid ≡ x.at + x.len = omega (arith, a, b, k, s, le) in
    let h = in_order size xs mid rest l (omega (arith, k, s, le)) in
    (omega (arith, a, k, le), omega (arith, b, s), omega (arith, a, b, k, s, le), subst (λ (n : ℕ). AreInOrder n size xs (stop_at size rest)) end h)

pub items-in_order : (bytes : Bytes) → AreInOrder 0 (length bytes) (items_of bytes) (stop_of bytes)
items-in_order bytes =
    let s = scanned-rest bytes in
    let h = in_order (length bytes) (items_of bytes) bytes s.0 s.1.listed (omega arith) in
    let z : length bytes - length bytes ≡ 0 = omega arith in
    subst (λ (n : ℕ). AreInOrder n (length bytes) (items_of bytes) (stop_of bytes)) z (subst (λ (o : Option Refusal). AreInOrder (length bytes - length bytes) (length bytes) (items_of bytes) o) (sym s.1.stop) h)

pub read-in_order : (bytes : Bytes) (xs : List Item) (stop : Option Refusal) → xs ≡ items_of bytes → stop ≡ stop_of bytes → AreInOrder 0 (length bytes) xs stop
read-in_order bytes xs stop e f = subst (λ (o : Option Refusal). AreInOrder 0 (length bytes) xs o) (sym f) (subst (λ (ys : List Item). AreInOrder 0 (length bytes) ys (stop_of bytes)) (sym e) (items-in_order bytes))

lies_before : (from to size : ℕ) (stop : Option Refusal) → from ≤ to → LiesFrom to size stop → LiesFrom from size stop
lies_before from to size None le h = tt
lies_before from to size (Some r) le h = (omega (arith, le, h.0), h.1)

order_lies : (from size : ℕ) (xs : List Item) (stop : Option Refusal) → AreInOrder from size xs stop → LiesFrom from size stop
order_lies from size [] stop h = h
order_lies from size (x ∷ xs) stop h = lies_before from (x.at + x.len) size stop (omega (arith, h.0)) (order_lies (x.at + x.len) size xs stop h.3)

pub read-inside : (bytes : Bytes) (xs : List Item) (stop : Option Refusal) → xs ≡ items_of bytes → stop ≡ stop_of bytes → LiesFrom 0 (length bytes) stop
read-inside bytes xs stop e f = order_lies 0 (length bytes) xs stop (read-in_order bytes xs stop e f)

pub ruleset item_laws = (read-in_order, read-inside)
