-- Reading one after the other, as a loop does: what was read before, and what is still read.
use Rattle.std.proofs.Common.{◌≡◌, ℕ, suc, ◌-◌, ◌+◌, ◌≤◌, ◌<◌, List, [], ◌∷◌, ◌++◌, Option, Some, None, Result, Ok, Err, refl, sym, ap, ◌∙◌, append_assoc, arith, get_or, drop, length, drop-cons, add-one, length-append}
use Rattle.std.specs.Prelude.{slice_get}
use Rattle.std.proofs.lemmas.List.{append-nil, drop_all}
use Rattle.lara_base.specs.Results.{◌>>=◌}
use Rattle.lara_fields.specs.Fields.{Stops, each, chain}
use Rattle.lara_fields.specs.Skipping.{behind}
use Rattle.lara_fields.specs.declared.stop.Stop.{Stop}
use Rattle.lara_fields.specs.declared.stop.Stop.TheVariants.{Refused, Memory}

module _ {X : Type 0} where
  abbrev pub with_front : List X → Result (List X × List ℕ) ℕ → Result (List X × List ℕ) ℕ
  with_front front read = read >>= λ x. Ok (front ++ x.0, x.1)

  abbrev listed : List X → List ℕ → Result (List X × List ℕ) ℕ
  listed xs rest = Ok (xs, rest)

  regroup : (front : List X) (v : X) (read : Result (List X × List ℕ) ℕ) → with_front front (read >>= λ x. listed (v ∷ x.0) x.1) ≡ with_front (front ++ v ∷ []) read
  regroup front v (Ok x) = ap (λ (vs : List X). listed vs x.1) (sym (append_assoc front (v ∷ []) x.0))
  regroup front v (Err e) = refl

  abbrev pub last_or : X → List X → Option X
  last_or x [] = Some x
  last_or x (y ∷ ys) = last_or y ys

  -- the last of a list
  abbrev pub last_of : List X → Option X
  last_of xs = slice_get xs (length xs - 1)

  at_end : (xs : List X) (y : X) → slice_get (xs ++ y ∷ []) (length xs) ≡ Some y
  at_end [] y = refl
  at_end (x ∷ xs) y = at_end xs y

  pub last_of-push : (xs : List X) (y : X) → last_of (xs ++ y ∷ []) ≡ Some y
  last_of-push xs y = let e : length (xs ++ y ∷ []) - 1 ≡ length xs = omega (arith, length-append xs (y ∷ [])) in ap (slice_get (xs ++ y ∷ [])) e ∙ at_end xs y

  -- ---- so many, each by the one before

  pub chain_more : (r : Option X → List ℕ → Result (X × List ℕ) ℕ) (front : List X) (before : Option X) (count i : ℕ) (bytes : List ℕ) (x : X) (after : List ℕ) (total : Result (List X × List ℕ) ℕ)
      → i < count → r before bytes ≡ Ok (x, after) → with_front front (chain r before (count - i) bytes) ≡ total → with_front (front ++ x ∷ []) (chain r (Some x) (count - (i + 1)) after) ≡ total
  unfolding chain
  chain_more r front before count i bytes x after total h e so_far =
      let k : count - i ≡ suc (count - (i + 1)) = omega arith in
      let one : with_front front (chain r before (count - i) bytes) ≡ with_front (front ++ x ∷ []) (chain r (Some x) (count - (i + 1)) after) = rw (k, e) (regroup front x (chain r (Some x) (count - (i + 1)) after)) in
      sym one ∙ so_far

  pub chain_ends : (r : Option X → List ℕ → Result (X × List ℕ) ℕ) (e : Stop) (front : List X) (before : Option X) (count i : ℕ) (bytes : List ℕ) (total : Result (List X × List ℕ) ℕ)
      → i < count → Stops e (r before bytes) → with_front front (chain r before (count - i) bytes) ≡ total → Stops e total
  unfolding chain
  chain_ends r Memory front before count i bytes total h q so_far = tt
  chain_ends r (Refused left) front before count i bytes total h q so_far =
      let k : count - i ≡ suc (count - (i + 1)) = omega arith in
      let one : with_front front (chain r before (count - i) bytes) ≡ Err left = rw (k, q) refl in
      sym so_far ∙ one

  pub chain_done : (r : Option X → List ℕ → Result (X × List ℕ) ℕ) (front : List X) (before : Option X) (count i : ℕ) (bytes : List ℕ) (total : Result (List X × List ℕ) ℕ)
      → count ≤ i → with_front front (chain r before (count - i) bytes) ≡ total → total ≡ Ok (front, bytes)
  unfolding chain
  chain_done r front before count i bytes total h so_far =
      let k : count - i ≡ 0 = omega arith in
      let one : with_front front (chain r before (count - i) bytes) ≡ Ok (front, bytes) = rw k (ap (λ (xs : List X). listed xs bytes) (append-nil front)) in
      sym so_far ∙ one

next : {T : Type 0} (ts : List T) (i : ℕ) (d : T) → i < length ts → drop i ts ≡ get_or ts i d ∷ drop (i + 1) ts
next ts i d h = rw (add-one i) (drop-cons ts i d h)

module _ {T X : Type 0} where
  pub each_more : (r : T → List ℕ → Result (X × List ℕ) ℕ) (front : List X) (ts : List T) (i : ℕ) (d : T) (bytes : List ℕ) (x : X) (after : List ℕ) (total : Result (List X × List ℕ) ℕ)
      → i < length ts → r (get_or ts i d) bytes ≡ Ok (x, after) → with_front front (each r (drop i ts) bytes) ≡ total → with_front (front ++ x ∷ []) (each r (drop (i + 1) ts) after) ≡ total
  unfolding each
  each_more r front ts i d bytes x after total h e so_far =
      let one : with_front front (each r (drop i ts) bytes) ≡ with_front (front ++ x ∷ []) (each r (drop (i + 1) ts) after) = rw (next ts i d h, e) (regroup front x (each r (drop (i + 1) ts) after)) in
      sym one ∙ so_far

  pub each_ends : (r : T → List ℕ → Result (X × List ℕ) ℕ) (e : Stop) (front : List X) (ts : List T) (i : ℕ) (d : T) (bytes : List ℕ) (total : Result (List X × List ℕ) ℕ)
      → i < length ts → Stops e (r (get_or ts i d) bytes) → with_front front (each r (drop i ts) bytes) ≡ total → Stops e total
  unfolding each
  each_ends r Memory front ts i d bytes total h q so_far = tt
  each_ends r (Refused left) front ts i d bytes total h q so_far =
      let one : with_front front (each r (drop i ts) bytes) ≡ Err left = rw (next ts i d h, q) refl in
      sym so_far ∙ one

  pub each_done : (r : T → List ℕ → Result (X × List ℕ) ℕ) (front : List X) (ts : List T) (i : ℕ) (bytes : List ℕ) (total : Result (List X × List ℕ) ℕ)
      → length ts ≤ i → with_front front (each r (drop i ts) bytes) ≡ total → total ≡ Ok (front, bytes)
  unfolding each
  each_done r front ts i bytes total h so_far =
      let one : with_front front (each r (drop i ts) bytes) ≡ Ok (front, bytes) = rw (drop_all i ts h) (ap (λ (xs : List X). listed xs bytes) (append-nil front)) in
      sym so_far ∙ one

-- ---- what is behind one after the other, with no value made

module _ {T X : Type 0} (r : T → List ℕ → Result (X × List ℕ) ℕ) (ts : List T) (i : ℕ) (d : T) (bytes after : List ℕ) (total : Option (List ℕ)) where
  one_more : (q : Result (X × List ℕ) ℕ) (rest : List T) → behind q ≡ Some after → behind (q >>= λ v. each r rest v.1 >>= λ vs. Ok (v.0 ∷ vs.0, vs.1)) ≡ behind (each r rest after)
  one_more (Ok v) rest e = let same : v.1 ≡ after = cc in rw (← same) (whole v.0 (each r rest v.1))
    where
      whole : (x : X) (q : Result (List X × List ℕ) ℕ) → behind (q >>= λ vs. Ok (x ∷ vs.0, vs.1)) ≡ behind q
      whole x (Ok vs) = refl
      whole x (Err left) = refl
  one_more (Err left) rest e = absurd cc

  none_more : (q : Result (X × List ℕ) ℕ) (rest : List T) → behind q ≡ None → behind (q >>= λ v. each r rest v.1 >>= λ vs. Ok (v.0 ∷ vs.0, vs.1)) ≡ None
  none_more (Ok v) rest e = absurd cc
  none_more (Err left) rest e = refl

  pub behind_more : i < length ts → Some after ≡ behind (r (get_or ts i d) bytes) → behind (each r (drop i ts) bytes) ≡ total → behind (each r (drop (i + 1) ts) after) ≡ total
  unfolding each
  behind_more h e s = sym (one_more (r (get_or ts i d) bytes) (drop (i + 1) ts) (sym e)) ∙ ap (λ (t : List T). behind (each r t bytes)) (sym (next ts i d h)) ∙ s

  pub behind_ends : i < length ts → None ≡ behind (r (get_or ts i d) bytes) → behind (each r (drop i ts) bytes) ≡ total → None ≡ total
  unfolding each
  behind_ends h e s = sym (none_more (r (get_or ts i d) bytes) (drop (i + 1) ts) (sym e)) ∙ ap (λ (t : List T). behind (each r t bytes)) (sym (next ts i d h)) ∙ s

  pub behind_done : length ts ≤ i → behind (each r (drop i ts) bytes) ≡ total → Some bytes ≡ total
  unfolding each
  behind_done h s = ap (λ (t : List T). behind (each r t bytes)) (sym (drop_all i ts h)) ∙ s
