-- The content of a text is what is written.
use Rattle.std.proofs.Common.{◌≡◌, ◌≤◌, inl, inr, ℕ, ◌+◌, ◌-◌, ◌*◌, [], ◌∷◌, ◌++◌, Option, Some, None, Ok, Err, refl, sym, ap, subst, ◌∙◌, arith, Bool, true, false, cond, append_assoc}
use Rattle.std.specs.Prelude.{not, ◌==◌, ◌||◌, ◌&&◌, nat_le}
use Rattle.std.proofs.lemmas.Bool.{eqb-true, eqb-false, false_from_ne_true}
use Rattle.lara_data.specs.declared.refusal.Kind.TheVariants.{BadText}
use Rattle.lara_syntax.specs.ScanSteps.{Bytes, Scan}
use Rattle.lara_syntax.specs.TextContents.{hex_value, two_digits, hex_byte, escape, content_byte, content}
use Rattle.lara_syntax.specs.Spellings.{IsHex, IsPlain, Written, nothing, plain, quote, backslash, hexadecimal}
use Rattle.lara_syntax.proofs.Gather.{scan_of}
use Rattle.lara_syntax.proofs.Listed.{Listed, none, more, gathered, gather-listed}
use Rattle.lara_syntax.proofs.TextLaws.{content_byte-one}

-- ---- hexadecimal digits

hex_at : (b v : ℕ) → IsHex b v → hex_value b ≡ Some v
hex_at b v (inl h) = let e = h.0 in let l = h.1 in grind arith
hex_at b v (inr (inl h)) = let e = h.0 in let l = h.1 in let m = h.2 in grind arith
hex_at b v (inr (inr h)) = let e = h.0 in let l = h.1 in let m = h.2 in grind arith

some_is : (x y : ℕ) → Some x ≡ Some y → x ≡ y
some_is x y e = cc

within : (lo hi b : ℕ) → (nat_le lo b && nat_le b hi) ≡ true → (lo ≤ b) × (b ≤ hi)
within lo hi b e = grind arith

hex_by : (b v : ℕ) (d s c : Bool) → (nat_le 48 b && nat_le b 57) ≡ d → (nat_le 97 b && nat_le b 102) ≡ s → (nat_le 65 b && nat_le b 70) ≡ c → cond d (Some (b - 48)) (cond s (Some (b - 97 + 10)) (cond c (Some (b - 65 + 10)) None)) ≡ Some v → IsHex b v
hex_by b v true s c e f g h = let w = within 48 57 b e in let q = some_is (b - 48) v h in inl (omega (arith, w.0, w.1, q), omega (arith, w.0, w.1, q))
hex_by b v false true c e f g h = let w = within 97 102 b f in let q = some_is (b - 97 + 10) v h in inr (inl (omega (arith, w.0, w.1, q), omega (arith, w.0, w.1, q), omega (arith, w.0, w.1, q)))
hex_by b v false false true e f g h = let w = within 65 70 b g in let q = some_is (b - 65 + 10) v h in inr (inr (omega (arith, w.0, w.1, q), omega (arith, w.0, w.1, q), omega (arith, w.0, w.1, q)))
hex_by b v false false false e f g h = absurd cc

at_hex : (b v : ℕ) → hex_value b ≡ Some v → IsHex b v
at_hex b v e = hex_by b v (nat_le 48 b && nat_le b 57) (nat_le 97 b && nat_le b 102) (nat_le 65 b && nat_le b 70) refl refl refl e

-- ---- one byte of the content

abbrev Front : Bytes → ℕ → Bytes → Type 0
Front ts c rest = (bs : Bytes) × (ts ≡ bs ++ rest) × ((cs ws : Bytes) → Written cs ws → Written (c ∷ cs) (bs ++ ws))

abbrev Stepped : Bytes → Scan (Option ℕ) → Type 0
Stepped ts (Ok (None, rest)) = ts ≡ 34 ∷ rest
Stepped ts (Ok (Some c, rest)) = Front ts c rest
Stepped ts (Err k) = Unit {0}

hexed_by : (h l : ℕ) (bs : Bytes) (a b : Option ℕ) → hex_value h ≡ a → hex_value l ≡ b → Stepped (92 ∷ 120 ∷ h ∷ l ∷ bs) (two_digits a b bs)
hexed_by h l bs (Some a) (Some b) e f = (92 ∷ 120 ∷ h ∷ l ∷ [], refl, λ cs ws w. hexadecimal h l a b cs ws (at_hex h a e) (at_hex l b f) w)
hexed_by h l bs (Some a) None e f = tt
hexed_by h l bs None b e f = tt

hexed : (bs : Bytes) → Stepped (92 ∷ 120 ∷ bs) (hex_byte bs)
unfolding hex_byte
hexed [] = tt
hexed (h ∷ []) = tt
hexed (h ∷ l ∷ bs) = hexed_by h l bs (hex_value h) (hex_value l) refl refl

escaped_by : (b : ℕ) (bs : Bytes) (q s x : Bool) → (b == 34) ≡ q → (b == 92) ≡ s → (b == 120) ≡ x → Stepped (92 ∷ b ∷ bs) (cond (q || s) (Ok (Some b, bs)) (cond x (hex_byte bs) (Err BadText)))
escaped_by b bs true s x e f g = subst (λ (c : ℕ). Front (92 ∷ c ∷ bs) c bs) (sym (eqb-true b 34 e)) (92 ∷ 34 ∷ [], refl, λ cs ws w. quote cs ws w)
escaped_by b bs false true x e f g = subst (λ (c : ℕ). Front (92 ∷ c ∷ bs) c bs) (sym (eqb-true b 92 f)) (92 ∷ 92 ∷ [], refl, λ cs ws w. backslash cs ws w)
escaped_by b bs false false true e f g = subst (λ (c : ℕ). Stepped (92 ∷ c ∷ bs) (hex_byte bs)) (sym (eqb-true b 120 g)) (hexed bs)
escaped_by b bs false false false e f g = tt

escaped : (bs : Bytes) → Stepped (92 ∷ bs) (escape bs)
unfolding escape
escaped [] = tt
escaped (b ∷ bs) = escaped_by b bs (b == 34) (b == 92) (b == 120) refl refl refl

plain_of : (b : ℕ) → (b == 34) ≡ false → (b == 92) ≡ false → (nat_le 32 b && not (b == 127)) ≡ true → IsPlain b
plain_of b e f g = (grind arith, eqb-false b 34 e, eqb-false b 92 f, grind arith)

stepped_by : (b : ℕ) (bs : Bytes) (q s p : Bool) → (b == 34) ≡ q → (b == 92) ≡ s → (nat_le 32 b && not (b == 127)) ≡ p → Stepped (b ∷ bs) (cond q (Ok (None, bs)) (cond s (escape bs) (cond p (Ok (Some b, bs)) (Err BadText))))
stepped_by b bs true s p e f g = ap (λ (c : ℕ). c ∷ bs) (eqb-true b 34 e)
stepped_by b bs false true p e f g = subst (λ (c : ℕ). Stepped (c ∷ bs) (escape bs)) (sym (eqb-true b 92 f)) (escaped bs)
stepped_by b bs false false true e f g = (b ∷ [], refl, λ cs ws w. plain b cs ws (plain_of b e f g) w)
stepped_by b bs false false false e f g = tt

stepped : (ts : Bytes) → Stepped ts (content_byte ts)
unfolding content_byte
stepped [] = tt
stepped (b ∷ bs) = stepped_by b bs (b == 34) (b == 92) (nat_le 32 b && not (b == 127)) refl refl refl

-- ---- all of it

pub listed-written : (cs ts rest : Bytes) → Listed content_byte cs ts rest → (ws : Bytes) × Written cs ws × (ts ≡ ws ++ 34 ∷ rest)
listed-written _ _ _ (none ts rest e) = ([], nothing, subst (λ (r : Scan (Option ℕ)). Stepped ts r) e (stepped ts))
listed-written _ _ _ (more c cs ts mid rest e l) =
    let h = listed-written cs mid rest l in
    let f : Front ts c mid = subst (λ (r : Scan (Option ℕ)). Stepped ts r) e (stepped ts) in
    (f.0 ++ h.0, f.2 cs h.0 h.1, f.1 ∙ ap (λ (m : Bytes). f.0 ++ m) h.2 ∙ sym (append_assoc f.0 h.0 (34 ∷ rest)))

plain_byte : (b : ℕ) (bs : Bytes) → IsPlain b → content_byte (b ∷ bs) ≡ scan_of (Some b) bs
unfolding content_byte
plain_byte b bs p =
    let q : (b == 34) ≡ false = false_from_ne_true (b == 34) (λ t. p.1 (eqb-true b 34 t)) in
    let s : (b == 92) ≡ false = false_from_ne_true (b == 92) (λ t. p.2 (eqb-true b 92 t)) in
    let d : (b == 127) ≡ false = false_from_ne_true (b == 127) (λ t. p.3 (eqb-true b 127 t)) in
    let l : nat_le 32 b ≡ true = let le = p.0 in grind arith in
    rw (q, s, d, l) refl

hex_pair : (h l high low : ℕ) (bs : Bytes) → IsHex h high → IsHex l low → content_byte (92 ∷ 120 ∷ h ∷ l ∷ bs) ≡ scan_of (Some (high * 16 + low)) bs
unfolding content_byte escape hex_byte
hex_pair h l high low bs p q = let e = hex_at h high p in let f = hex_at l low q in rw (e, f) refl

pub written-listed : (cs ws : Bytes) → Written cs ws → (rest : Bytes) → Listed content_byte cs (ws ++ 34 ∷ rest) rest
unfolding content_byte escape hex_byte
written-listed _ _ nothing rest = none (34 ∷ rest) rest refl
written-listed _ _ (plain b cs bs p w) rest = more b cs (b ∷ bs ++ 34 ∷ rest) (bs ++ 34 ∷ rest) rest (plain_byte b (bs ++ 34 ∷ rest) p) (written-listed cs bs w rest)
written-listed _ _ (quote cs bs w) rest = more 34 cs (92 ∷ 34 ∷ bs ++ 34 ∷ rest) (bs ++ 34 ∷ rest) rest refl (written-listed cs bs w rest)
written-listed _ _ (backslash cs bs w) rest = more 92 cs (92 ∷ 92 ∷ bs ++ 34 ∷ rest) (bs ++ 34 ∷ rest) rest refl (written-listed cs bs w rest)
written-listed _ _ (hexadecimal h l high low cs bs p q w) rest = more (high * 16 + low) cs (92 ∷ 120 ∷ h ∷ l ∷ bs ++ 34 ∷ rest) (bs ++ 34 ∷ rest) rest (hex_pair h l high low (bs ++ 34 ∷ rest) p q) (written-listed cs bs w rest)

pub content-written : (cs ws rest : Bytes) → Written cs ws → content (ws ++ 34 ∷ rest) ≡ scan_of cs rest
content-written cs ws rest w = gather-listed content_byte content_byte-one cs (ws ++ 34 ∷ rest) rest (written-listed cs ws w rest) []

pub written-content : (ts cs rest : Bytes) → content ts ≡ scan_of cs rest → (ws : Bytes) × Written cs ws × (ts ≡ ws ++ 34 ∷ rest)
written-content ts cs rest e =
    let g = gathered content_byte content_byte-one [] ts cs rest e in
    let h = listed-written g.0 ts rest g.2 in
    (h.0, subst (λ (q : Bytes). Written q h.0) (sym g.1) h.1, h.2)
