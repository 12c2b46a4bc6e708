-- What goes through sums: a pass over entries whose answer for a sum of rows is its answers for each of them.
use Rattle.std.specs.Prelude.{◌≡◌, true, false, cond, List, [], ◌∷◌, ◌++◌, map}
use Rattle.std.proofs.Common.{refl, sym, ap, ◌∙◌, subst, append_assoc}
use Rattle.std.specs.List.{flat_map}
use Rattle.std.specs.declared.cmp.Ordering.{Ordering}
use Rattle.lara_semiring.specs.Rows.{row_zero, row_plus, row_is_zero, row_zero_plus_plus, row_zero_from_is_zero}
use Rattle.lara_data.specs.declared.entry.Keyed.{Keyed}
use Rattle.lara_data.specs.KeyedTables.{IsKeyOrder, Types, Row, same_key, before, SameAt, total}
use Rattle.lara_data.specs.KeyedOrderLaws.{same_key_is}
use Rattle.lara_data.specs.KeyedLaws.{SameAt-refl, SameAt-sym, SameAt-trans, SameAt-append, three_turned}
use Rattle.lara_data.specs.KeyedTotals.{total_same}
use Rattle.lara_data.specs.KeyedPuts.{own, keep, put, puts, total_puts}

-- the pass gives nothing for the default row, and for a sum of rows what it gives for each, as to the rows at each key
pub record IsAdditive {K L : Type 0} (S : L → L → Ordering) (ts us : Types) (g : Keyed K → List (Keyed L)) : Type 0 where
  pub none : (k : K) → SameAt S us (g (record { key = k; row = row_zero ts })) []
  pub plus : (k : K) (r s : Row) → SameAt S us (g (record { key = k; row = row_plus ts r s })) (g (record { key = k; row = r }) ++ g (record { key = k; row = s }))

module _ {K L : Type 0} {R : K → K → Ordering} {S : L → L → Ordering} (ko : IsKeyOrder R) (lo : IsKeyOrder S) {ts us : Types} {g : Keyed K → List (Keyed L)} (a : IsAdditive S ts us g) where
  g_own : (e : Keyed K) → SameAt S us (g (record { key = e.key; row = own ts e })) (g e)
  g_own e = SameAt-trans lo (a.plus e.key (row_zero ts) e.row) (SameAt-append lo (a.none e.key) (SameAt-refl lo us (g e)))

  flat_keep : (k : K) (r : Row) (t : List (Keyed K)) → row_plus ts (row_zero ts) r ≡ r → SameAt S us (flat_map g (keep ts k r t)) (g (record { key = k; row = r }) ++ flat_map g t)
  unfolding keep
  flat_keep k r t whole =
      elim (row_is_zero ts r) as (λ z. row_is_zero ts r ≡ z → SameAt S us (flat_map g (cond z t (record { key = k; row = r } ∷ t))) (g (record { key = k; row = r }) ++ flat_map g t)) [
        | true ↦ λ z.
            let is : r ≡ row_zero ts = sym whole ∙ row_zero_from_is_zero ts r z in
            let empty : SameAt S us (g (record { key = k; row = r })) [] = subst (λ (x : Row). SameAt S us (g (record { key = k; row = x })) []) (sym is) (a.none k) in
            SameAt-append lo (SameAt-sym lo empty) (SameAt-refl lo us (flat_map g t))
        | false ↦ λ z. SameAt-refl lo us (g (record { key = k; row = r }) ++ flat_map g t)
      ] refl

  flat_put : (e : Keyed K) (t : List (Keyed K)) → SameAt S us (flat_map g (put R ts e t)) (g e ++ flat_map g t)
  unfolding put
  flat_put e [] = SameAt-trans lo (flat_keep e.key (own ts e) [] (row_zero_plus_plus ts (row_zero ts) e.row)) (SameAt-append lo (g_own e) (SameAt-refl lo us []))
  flat_put e (f ∷ t) =
      elim (before R e.key f.key) as (λ b. SameAt S us (flat_map g (cond b (keep ts e.key (own ts e) (f ∷ t)) (cond (same_key R e.key f.key) (keep ts f.key (row_plus ts e.row f.row) t) (f ∷ put R ts e t)))) (g e ++ (g f ++ flat_map g t))) [
        | true ↦ SameAt-trans lo (flat_keep e.key (own ts e) (f ∷ t) (row_zero_plus_plus ts (row_zero ts) e.row)) (SameAt-append lo (g_own e) (SameAt-refl lo us (g f ++ flat_map g t)))
        | false ↦ elim (same_key R e.key f.key) as (λ b. same_key R e.key f.key ≡ b → SameAt S us (flat_map g (cond b (keep ts f.key (row_plus ts e.row f.row) t) (f ∷ put R ts e t))) (g e ++ (g f ++ flat_map g t))) [
          | true ↦ λ k.
              let is = same_key_is ko e.key f.key k in
              let sum : SameAt S us (g (record { key = f.key; row = row_plus ts e.row f.row })) (g e ++ g f) =
              subst (λ (x : K). SameAt S us (g (record { key = f.key; row = row_plus ts e.row f.row })) (g (record { key = x; row = e.row }) ++ g f)) (sym is) (a.plus f.key e.row f.row) in
              let here = SameAt-trans lo (flat_keep f.key (row_plus ts e.row f.row) t (row_zero_plus_plus ts e.row f.row)) (SameAt-append lo sum (SameAt-refl lo us (flat_map g t))) in
              subst (SameAt S us (flat_map g (keep ts f.key (row_plus ts e.row f.row) t))) (append_assoc (g e) (g f) (flat_map g t)) here
          | false ↦ λ k. SameAt-trans lo (SameAt-append lo (SameAt-refl lo us (g f)) (flat_put e t)) (three_turned lo us (g f) (g e) (flat_map g t))
        ] refl
      ]

  flat_puts : (es : List (Keyed K)) → SameAt S us (flat_map g (puts R ts es)) (flat_map g es)
  unfolding puts
  flat_puts [] = SameAt-refl lo us []
  flat_puts (e ∷ es) = SameAt-trans lo (flat_put e (puts R ts es)) (SameAt-append lo (SameAt-refl lo us (g e)) (flat_puts es))

module _ {K L : Type 0} {R : K → K → Ordering} {S : L → L → Ordering} (ko : IsKeyOrder R) (lo : IsKeyOrder S) {ts us : Types} {g : Keyed K → List (Keyed L)} (a : IsAdditive S ts us g) where
  -- to sum first changes nothing
  pub flat_total : (es : List (Keyed K)) → SameAt S us (flat_map g (total R ts es)) (flat_map g es)
  flat_total es = subst (λ (x : List (Keyed K)). SameAt S us (flat_map g x) (flat_map g es)) (total_puts ko ts es) (flat_puts ko lo a es)

  pub SameAt-flat : {xs ys : List (Keyed K)} → SameAt R ts xs ys → SameAt S us (flat_map g xs) (flat_map g ys)
  SameAt-flat {xs} {ys} h =
      SameAt-trans lo (SameAt-sym lo (flat_total xs)) (subst (λ (x : List (Keyed K)). SameAt S us (flat_map g x) (flat_map g ys)) (sym (total_same ko h)) (flat_total ys))

  pub total_flat_total : (es : List (Keyed K)) → total S us (flat_map g (total R ts es)) ≡ total S us (flat_map g es)
  total_flat_total es = total_same lo (flat_total es)

-- a pass that gives one entry for each
pub flat_one : {K L : Type 0} (f : Keyed K → Keyed L) (es : List (Keyed K)) → flat_map (λ e. f e ∷ []) es ≡ map f es
flat_one f [] = refl
flat_one f (e ∷ es) = ap (λ t. f e ∷ t) (flat_one f es)

module _ {K L : Type 0} {R : K → K → Ordering} {S : L → L → Ordering} (ko : IsKeyOrder R) (lo : IsKeyOrder S) {ts us : Types} {f : Keyed K → Keyed L} (a : IsAdditive S ts us (λ e. f e ∷ [])) where
  pub SameAt-map : {xs ys : List (Keyed K)} → SameAt R ts xs ys → SameAt S us (map f xs) (map f ys)
  SameAt-map {xs} {ys} h =
      subst (λ (x : List (Keyed L)). SameAt S us x (map f ys)) (flat_one f xs)
      (subst (SameAt S us (flat_map (λ e. f e ∷ []) xs)) (flat_one f ys) (SameAt-flat ko lo a h))
