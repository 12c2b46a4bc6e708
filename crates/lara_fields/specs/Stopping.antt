-- Where fields one after the other stop, said with no reading: at the first of them that has none, or behind the last.
use Rattle.std.specs.Prelude.{◌≡◌, ℕ, ◌+◌, ◌-◌, ◌<◌, ◌≤◌, true, List, [], ◌∷◌, ◌++◌, length, Result, Ok, Err}
use Rattle.std.specs.List.{flat_map}
use Rattle.std.proofs.Common.{◌⊎◌, refl, sym, ap, subst, ◌∙◌, arith, inl, inr}
use Rattle.std.proofs.lemmas.List.{length-append}
use Rattle.lara_base.specs.Results.{◌>>=◌}
use Rattle.lara_fields.specs.Fields.{each, whole, ended}
use Rattle.lara_fields.specs.Lists.{Each, each_reader}
use Rattle.lara_fields.specs.Places.{IsField}
use Rattle.lara_fields.specs.Readers.{IsReader, are_bytes, bytes_behind, whole_found, whole_again}
use Rattle.lara_fields.specs.Steps.{err_from_bind, read}

-- the bytes begin with the code of one of the kind
pub record Begins {X : Type 0} (IsOne : X → Type 0) (code : X → List ℕ) (bytes : List ℕ) : Type 0 where
  pub one : X
  pub rest : List ℕ
  pub is_one : IsOne one
  pub bytes_are : bytes ≡ code one ++ rest

-- With one field of each kind, the first that is cut short or has no reading begins at this place, or what is left over does.
unfoldable pub StopsAt : {T X : Type 0} → (T → X → Type 0) → (X → List ℕ) → List T → List ℕ → ℕ → Type 0
StopsAt IsOne code [] bytes at = (at ≡ 0) × (0 < length bytes)
StopsAt IsOne code (t ∷ ts) bytes at =
    ((at ≡ 0) × (Begins (IsOne t) code bytes → ⊥))
    ⊎ ((first : Begins (IsOne t) code bytes) × (later : ℕ) × (at ≡ length (code first.one) + later) × StopsAt IsOne code ts first.rest later)

-- the bytes are the code of one of each kind
pub record IsCodeOf {T X : Type 0} (IsOne : T → X → Type 0) (code : X → List ℕ) (ts : List T) (bytes : List ℕ) (xs : List X) : Type 0 where
  pub kinds : Each IsOne ts xs
  pub bytes_are : bytes ≡ flat_map code xs

ended_err : {X : Type 0} (x : X) (rest : List ℕ) (left : ℕ) → ended (x, rest) ≡ Err left → (left ≡ length rest) × (0 < length rest)
ended_err x [] left e = absurd cc
ended_err x (b ∷ bs) left e = (cc, omega arith)

abbrev several : {X : Type 0} → List X → Result (List X) ℕ
several xs = Ok xs

abbrev all : {X : Type 0} → List X → List ℕ → Result (List X × List ℕ) ℕ
all xs rest = Ok (xs, rest)

abbrev several_not : {X : Type 0} → ℕ → Result (List X) ℕ
several_not left = Err left

abbrev refused : {X : Type 0} → ℕ → Result (X × List ℕ) ℕ
refused left = Err left

left_is : {X : Type 0} (c d : ℕ) → several_not {X = X} c ≡ several_not d → c ≡ d
left_is c d e = cc

module _ {T X : Type 0} (IsOne : T → X → Type 0) (code : X → List ℕ) (r : T → List ℕ → Result (X × List ℕ) ℕ) (law : (t : T) → IsReader (IsOne t) code (r t)) where
  pub each_code_found : (ts : List T) (bytes : List ℕ) (xs : List X) → are_bytes bytes ≡ true → whole (each r ts) bytes ≡ Ok xs → IsCodeOf IsOne code ts bytes xs
  each_code_found ts bytes xs h e = let g = whole_found (each_reader law ts) bytes xs h e in record { kinds = g.0; bytes_are = g.1 }

  pub each_code_again : (ts : List T) (bytes : List ℕ) (xs : List X) → IsCodeOf IsOne code ts bytes xs → whole (each r ts) bytes ≡ Ok xs
  each_code_again ts bytes xs c = ap (whole (each r ts)) c.bytes_are ∙ whole_again (each_reader law ts) xs c.kinds

  -- the first, and then the others
  whole_cons : (t : T) (ts : List T) (bytes : List ℕ) → whole (each r (t ∷ ts)) bytes ≡ (r t bytes >>= λ v. whole (each r ts) v.1 >>= λ vs. several (v.0 ∷ vs))
  unfolding each
  whole_cons t ts bytes = by (r t bytes)
    where
      behind : (v : X) (vs : List X) (rest : List ℕ) → ended (v ∷ vs, rest) ≡ (ended (vs, rest) >>= λ vs. several (v ∷ vs))
      behind v vs [] = refl
      behind v vs (b ∷ bs) = refl

      others : (v : X) (q : Result (List X × List ℕ) ℕ) → ((q >>= λ vs. all (v ∷ vs.0) vs.1) >>= ended) ≡ ((q >>= ended) >>= λ vs. several (v ∷ vs))
      others v (Ok x) = behind v x.0 x.1
      others v (Err e) = refl

      by : (q : Result (X × List ℕ) ℕ) → ((q >>= λ v. each r ts v.1 >>= λ vs. all (v.0 ∷ vs.0) vs.1) >>= ended) ≡ (q >>= λ v. (each r ts v.1 >>= ended) >>= λ vs. several (v.0 ∷ vs))
      by (Ok v) = others v.0 (each r ts v.1)
      by (Err e) = refl

  begins_read : (t : T) (bytes : List ℕ) (b : Begins (IsOne t) code bytes) → r t bytes ≡ read b.one b.rest
  begins_read t bytes b = ap (r t) b.bytes_are ∙ (law t).again b.one b.rest b.is_one

  not_both : (t : T) (bytes : List ℕ) (left : ℕ) → r t bytes ≡ Err left → Begins (IsOne t) code bytes → ⊥
  not_both t bytes left e b = let g = begins_read t bytes b in cc

  abbrev Stopped : List T → List ℕ → ℕ → Type 0
  Stopped ts bytes left = (at : ℕ) × (at + left ≡ length bytes) × StopsAt IsOne code ts bytes at

  module _ (field : (t : T) → IsField (r t)) where
    stopped_here : (t : T) (ts : List T) (bytes : List ℕ) (left : ℕ) → r t bytes ≡ Err left → Stopped (t ∷ ts) bytes left
    unfolding StopsAt
    stopped_here t ts bytes left e = (0, omega (arith, (field t).stops bytes left e), inl (refl, not_both t bytes left e))

    stopped_later : (t : T) (ts : List T) (bytes : List ℕ) (left : ℕ) (v : X) (rest : List ℕ) → are_bytes bytes ≡ true → r t bytes ≡ read v rest → (are_bytes rest ≡ true → Stopped ts rest left) → Stopped (t ∷ ts) bytes left
    unfolding StopsAt
    stopped_later t ts bytes left v rest h e more =
        let f = (law t).found bytes v rest h e in
        let g = more (bytes_behind (code v) rest (rw f.1 at h)) in
        (length (code v) + g.0, omega (arith, g.1, length-append (code v) rest, ap length f.1), inr (record { one = v; rest = rest; is_one = f.0; bytes_are = f.1 }, g.0, refl, g.2))

    -- what stops stops there
    stopped : (ts : List T) (bytes : List ℕ) (left : ℕ) → are_bytes bytes ≡ true → whole (each r ts) bytes ≡ Err left → Stopped ts bytes left
    unfolding each StopsAt
    stopped [] bytes left h e = let g = ended_err [] bytes left e in (0, omega arith, (refl, g.1))
    stopped (t ∷ ts) bytes left h e = first (err_from_bind (r t bytes) (λ v. whole (each r ts) v.1 >>= λ vs. several (v.0 ∷ vs)) left (sym (whole_cons t ts bytes) ∙ e)) (λ rest. stopped ts rest left)
      where
        second : (rest : List ℕ) (v : X) → (whole (each r ts) rest ≡ Err left) ⊎ ((vs : List X) × (whole (each r ts) rest ≡ Ok vs) × (several (v ∷ vs) ≡ Err left)) → whole (each r ts) rest ≡ Err left
        second rest v (inl q) = q
        second rest v (inr q) = absurd (let d = q.2 in cc)

        first : (r t bytes ≡ Err left) ⊎ ((x : X × List ℕ) × (r t bytes ≡ Ok x) × ((whole (each r ts) x.1 >>= λ vs. several (x.0 ∷ vs)) ≡ Err left)) → ((rest : List ℕ) → are_bytes rest ≡ true → whole (each r ts) rest ≡ Err left → Stopped ts rest left) → Stopped (t ∷ ts) bytes left
        first (inl q) ih = stopped_here t ts bytes left q
        first (inr q) ih = stopped_later t ts bytes left q.0.0 q.0.1 h q.1 (λ g. ih q.0.1 g (second q.0.1 q.0.0 (err_from_bind (whole (each r ts) q.0.1) (λ vs. several (q.0.0 ∷ vs)) left q.2)))

    -- a reading that stops with so many bytes left stops at the place before them
    pub each_stops : (ts : List T) (bytes : List ℕ) (left : ℕ) → are_bytes bytes ≡ true → whole (each r ts) bytes ≡ Err left → StopsAt IsOne code ts bytes (length bytes - left)
    each_stops ts bytes left h e =
        let s = stopped ts bytes left h e in
        let at : s.0 ≡ length bytes - left = omega (arith, s.1) in
        subst (StopsAt IsOne code ts bytes) at s.2

    pub each_left : (ts : List T) (bytes : List ℕ) (left : ℕ) → are_bytes bytes ≡ true → whole (each r ts) bytes ≡ Err left → left ≤ length bytes
    each_left ts bytes left h e = let s = stopped ts bytes left h e in omega (arith, s.1)

  -- what stops is no code
  pub each_no_code : (ts : List T) (bytes : List ℕ) (left : ℕ) → whole (each r ts) bytes ≡ Err left → (xs : List X) → IsCodeOf IsOne code ts bytes xs → ⊥
  each_no_code ts bytes left e xs c = let g = each_code_again ts bytes xs c in cc

  -- ---- the place is one, and is that of the reading

  module _ (field : (t : T) → IsField (r t)) where
    none_here : (t : T) (bytes : List ℕ) (q : Result (X × List ℕ) ℕ) → are_bytes bytes ≡ true → r t bytes ≡ q → (Begins (IsOne t) code bytes → ⊥) → r t bytes ≡ Err (length bytes)
    none_here t bytes (Ok x) h e none = let f = (law t).found bytes x.0 x.1 h e in absurd (none (record { one = x.0; rest = x.1; is_one = f.0; bytes_are = f.1 }))
    none_here t bytes (Err left) h e none = e ∙ ap (λ (n : ℕ). refused n) ((field t).stops bytes left e)

    ended_left : (bytes : List ℕ) → 0 < length bytes → whole (each r []) bytes ≡ Err (length bytes)
    unfolding each
    ended_left [] h = absurd (omega arith)
    ended_left (b ∷ bs) h = refl

    -- where fields stop, the reading has all from that place on left
    pub each_from_stops : (ts : List T) (bytes : List ℕ) (at : ℕ) → are_bytes bytes ≡ true → StopsAt IsOne code ts bytes at → (at ≤ length bytes) × (whole (each r ts) bytes ≡ Err (length bytes - at))
    unfolding StopsAt
    each_from_stops [] bytes at h s =
        let z : length bytes ≡ length bytes - at = omega (arith, s.0) in
        (omega (arith, s.0), ended_left bytes s.1 ∙ ap (λ (n : ℕ). several_not n) z)
    each_from_stops (t ∷ ts) bytes at h (inl s) =
        let z : length bytes ≡ length bytes - at = omega (arith, s.0) in
        (omega (arith, s.0), whole_cons t ts bytes ∙ rw (none_here t bytes (r t bytes) h refl s.1) (ap (λ (n : ℕ). several_not n) z))
    each_from_stops (t ∷ ts) bytes at h (inr s) =
        let rest = s.0.rest in
        let more = each_from_stops ts rest s.1 (bytes_behind (code s.0.one) rest (rw s.0.bytes_are at h)) s.3 in
        let all : length bytes ≡ length (code s.0.one) + length rest = ap length s.0.bytes_are ∙ length-append (code s.0.one) rest in
        let z : length rest - s.1 ≡ length bytes - at = omega (arith, all, s.2, more.0) in
        (omega (arith, all, s.2, more.0), whole_cons t ts bytes ∙ rw (begins_read t bytes s.0, more.1) (ap (λ (n : ℕ). several_not n) z))

    -- fields stop at one place
    pub stops_once : (ts : List T) (bytes : List ℕ) (i j : ℕ) → are_bytes bytes ≡ true → StopsAt IsOne code ts bytes i → StopsAt IsOne code ts bytes j → i ≡ j
    stops_once ts bytes i j h p q =
        let a = each_from_stops ts bytes i h p in
        let b = each_from_stops ts bytes j h q in
        let same : length bytes - i ≡ length bytes - j = left_is (length bytes - i) (length bytes - j) (sym a.1 ∙ b.1) in
        omega (arith, a.0, b.0, same)
