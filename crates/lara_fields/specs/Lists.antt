-- One field after the other: each by what it is of, or by the one before it.
use Rattle.std.specs.Prelude.{◌≡◌, ℕ, zero, suc, true, List, [], ◌∷◌, ◌++◌, length, Option, Some, Result, Ok}
use Rattle.std.proofs.Common.{refl, sym, ap, subst, ◌∙◌, arith, append_assoc}
use Rattle.std.specs.List.{flat_map}
use Rattle.lara_base.specs.Results.{◌>>=◌}
use Rattle.lara_fields.specs.Fields.{each, chain}
use Rattle.lara_fields.specs.Steps.{ok_from_bind, ok_is}
use Rattle.lara_fields.specs.Readers.{IsReader, are_bytes, bytes_behind}

-- each is of the kind that belongs to it
unfoldable pub Each : {T X : Type 0} → (T → X → Type 0) → List T → List X → Type 0
Each P [] [] = Unit {0}
Each P [] (x ∷ xs) = ⊥
Each P (t ∷ ts) [] = ⊥
Each P (t ∷ ts) (x ∷ xs) = P t x × Each P ts xs

each_found : {T X : Type 0} {P : T → X → Type 0} {c : X → List ℕ} {r : T → List ℕ → Result (X × List ℕ) ℕ} → ((t : T) → IsReader (P t) c (r t)) → (ts : List T) (bytes : List ℕ) (xs : List X) (rest : List ℕ) → are_bytes bytes ≡ true → each r ts bytes ≡ Ok (xs, rest) → Each P ts xs × (bytes ≡ flat_map c xs ++ rest)
unfolding each Each
each_found {T} {X} {P} {c} {r} law [] bytes xs rest h e = subst (λ (z : List X × List ℕ). Each P [] z.0 × (bytes ≡ flat_map c z.0 ++ z.1)) (ok_is ([], bytes) (xs, rest) e) (tt, refl)
each_found {T} {X} {P} {c} {r} law (t ∷ ts) bytes xs rest h e =
    let a = ok_from_bind (r t bytes) (λ x. each r ts x.1 >>= λ xs. Ok (x.0 ∷ xs.0, xs.1)) (xs, rest) e in
    let f = (law t).found bytes a.0.0 a.0.1 h a.1 in
    let b = ok_from_bind (each r ts a.0.1) (λ xs. Ok (a.0.0 ∷ xs.0, xs.1)) (xs, rest) a.2 in
    let g = each_found law ts a.0.1 b.0.0 b.0.1 (bytes_behind (c a.0.0) a.0.1 (rw f.1 at h)) b.1 in
    let split : bytes ≡ (c a.0.0 ++ flat_map c b.0.0) ++ b.0.1 = f.1 ∙ ap (λ (x : List ℕ). c a.0.0 ++ x) g.1 ∙ sym (append_assoc (c a.0.0) (flat_map c b.0.0) b.0.1) in
    subst (λ (z : List X × List ℕ). Each P (t ∷ ts) z.0 × (bytes ≡ flat_map c z.0 ++ z.1)) (ok_is (a.0.0 ∷ b.0.0, b.0.1) (xs, rest) b.2) ((f.0, g.0), split)

each_again : {T X : Type 0} {P : T → X → Type 0} {c : X → List ℕ} {r : T → List ℕ → Result (X × List ℕ) ℕ} → ((t : T) → IsReader (P t) c (r t)) → (ts : List T) (xs : List X) (rest : List ℕ) → Each P ts xs → each r ts (flat_map c xs ++ rest) ≡ Ok (xs, rest)
unfolding each Each
each_again law [] [] rest h = refl
each_again law [] (x ∷ xs) rest h = absurd h
each_again law (t ∷ ts) [] rest h = absurd h
each_again {T} {X} {P} {c} {r} law (t ∷ ts) (x ∷ xs) rest h =
    rw (append_assoc (c x) (flat_map c xs) rest, (law t).again x (flat_map c xs ++ rest) h.0, each_again law ts xs rest h.1) refl

pub each_reader : {T X : Type 0} {P : T → X → Type 0} {c : X → List ℕ} {r : T → List ℕ → Result (X × List ℕ) ℕ} → ((t : T) → IsReader (P t) c (r t)) → (ts : List T) → IsReader (Each P ts) (flat_map c) (each r ts)
each_reader {T} {X} {P} {c} {r} law ts = record { found = each_found law ts; again = each_again law ts }

-- each is of the kind that the one before it asks for
unfoldable pub Chained : {X : Type 0} → (Option X → X → Type 0) → Option X → List X → Type 0
Chained P before [] = Unit {0}
Chained P before (x ∷ xs) = P before x × Chained P (Some x) xs

chain_found : {X : Type 0} {P : Option X → X → Type 0} {c : X → List ℕ} {r : Option X → List ℕ → Result (X × List ℕ) ℕ} → ((o : Option X) → IsReader (P o) c (r o)) → (n : ℕ) (o : Option X) (bytes : List ℕ) (xs : List X) (rest : List ℕ) → are_bytes bytes ≡ true → chain r o n bytes ≡ Ok (xs, rest)
    → ((length xs ≡ n) × Chained P o xs) × (bytes ≡ flat_map c xs ++ rest)
unfolding chain Chained
chain_found {X} {P} {c} {r} law zero o bytes xs rest h e = subst (λ (z : List X × List ℕ). ((length z.0 ≡ 0) × Chained P o z.0) × (bytes ≡ flat_map c z.0 ++ z.1)) (ok_is ([], bytes) (xs, rest) e) ((refl, tt), refl)
chain_found {X} {P} {c} {r} law (suc n) o bytes xs rest h e =
    let a = ok_from_bind (r o bytes) (λ x. chain r (Some x.0) n x.1 >>= λ xs. Ok (x.0 ∷ xs.0, xs.1)) (xs, rest) e in
    let f = (law o).found bytes a.0.0 a.0.1 h a.1 in
    let b = ok_from_bind (chain r (Some a.0.0) n a.0.1) (λ xs. Ok (a.0.0 ∷ xs.0, xs.1)) (xs, rest) a.2 in
    let g = chain_found law n (Some a.0.0) a.0.1 b.0.0 b.0.1 (bytes_behind (c a.0.0) a.0.1 (rw f.1 at h)) b.1 in
    let split : bytes ≡ (c a.0.0 ++ flat_map c b.0.0) ++ b.0.1 = f.1 ∙ ap (λ (x : List ℕ). c a.0.0 ++ x) g.1 ∙ sym (append_assoc (c a.0.0) (flat_map c b.0.0) b.0.1) in
    subst (λ (z : List X × List ℕ). ((length z.0 ≡ suc n) × Chained P o z.0) × (bytes ≡ flat_map c z.0 ++ z.1)) (ok_is (a.0.0 ∷ b.0.0, b.0.1) (xs, rest) b.2) ((ap suc g.0.0, (f.0, g.0.1)), split)

chain_again : {X : Type 0} {P : Option X → X → Type 0} {c : X → List ℕ} {r : Option X → List ℕ → Result (X × List ℕ) ℕ} → ((o : Option X) → IsReader (P o) c (r o)) → (n : ℕ) (o : Option X) (xs : List X) (rest : List ℕ) → length xs ≡ n → Chained P o xs → chain r o n (flat_map c xs ++ rest) ≡ Ok (xs, rest)
unfolding chain Chained
chain_again law zero o [] rest l h = refl
chain_again law zero o (x ∷ xs) rest l h = absurd (omega arith)
chain_again law (suc n) o [] rest l h = absurd (omega arith)
chain_again {X} {P} {c} {r} law (suc n) o (x ∷ xs) rest l h =
    rw (append_assoc (c x) (flat_map c xs) rest, (law o).again x (flat_map c xs ++ rest) h.0, chain_again law n (Some x) xs rest (omega arith) h.1) refl

pub chain_reader : {X : Type 0} {P : Option X → X → Type 0} {c : X → List ℕ} {r : Option X → List ℕ → Result (X × List ℕ) ℕ} → ((o : Option X) → IsReader (P o) c (r o)) → (o : Option X) (n : ℕ) → IsReader (λ xs. (length xs ≡ n) × Chained P o xs) (flat_map c) (chain r o n)
chain_reader law o n = record { found = chain_found law n o; again = λ xs rest h. chain_again law n o xs rest h.0 h.1 }
