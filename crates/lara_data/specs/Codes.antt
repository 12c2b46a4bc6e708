-- Tables by the codes of their keys. Codes need to compare as the keys do for the keys that a table may have, as those of its
-- columns' types; these keys are the ones that meet P.
use Rattle.std.specs.Prelude.{◌≡◌, cond, ◌&&◌, List, [], ◌∷◌}
use Rattle.std.proofs.Common.{refl, sym, ◌∙◌}
use Rattle.std.specs.declared.cmp.Ordering.{Ordering}
use Rattle.std.specs.Ordering.{is_eq, is_lt}
use Rattle.lara_semiring.specs.Rows.{row_plus}
use Rattle.lara_data.specs.declared.entry.Keyed.{Keyed}
use Rattle.lara_data.specs.KeyedTables.{IsKeyOrder, Types, same_key, before, at, is_below, rises, IsTable, AllKeys, total, with_keys}
use Rattle.lara_data.specs.KeyedLaws.{SameAt-total, IsTable-total}
use Rattle.lara_data.specs.KeyedTotals.{total_by}
use Rattle.lara_data.specs.Apart.{keys_total, kept_keys}
use Rattle.lara_data.specs.Builders.{SameAt-keys}

-- the codes of keys that meet P compare as the keys do
abbrev pub KeepsOrder : {K L : Type 0} → (K → K → Ordering) → (L → L → Ordering) → (K → Type 0) → (K → L) → Type 0
KeepsOrder {K} R S P code = (a b : K) → P a → P b → R a b ≡ S (code a) (code b)

module _ {K L : Type 0} {R : K → K → Ordering} {S : L → L → Ordering} (ko : IsKeyOrder R) (lo : IsKeyOrder S) (P : K → Type 0) (code : K → L) (agree : KeepsOrder R S P code) where
  below_code : (k : K) (es : List (Keyed K)) → P k → AllKeys P es → is_below R k es ≡ is_below S (code k) (with_keys code es)
  unfolding is_below before AllKeys
  below_code k [] p h = refl
  below_code k (e ∷ es) p h = λ i. is_lt (agree k e.key p h.0 i) && below_code k es p h.1 i

  rises_code : (es : List (Keyed K)) → AllKeys P es → rises R es ≡ rises S (with_keys code es)
  unfolding rises AllKeys
  rises_code [] h = refl
  rises_code (e ∷ es) h = λ i. below_code e.key es h.0 h.1 i && rises_code es h.1 i

  -- what a list has at a key, its codes have at the key's code
  pub at_code : (ts : Types) (es : List (Keyed K)) (k : K) → P k → AllKeys P es → at R ts es k ≡ at S ts (with_keys code es) (code k)
  unfolding at same_key AllKeys
  at_code ts [] k p h = refl
  at_code ts (e ∷ es) k p h = λ i. cond (is_eq (agree k e.key p h.0 i)) (row_plus ts e.row (at_code ts es k p h.1 i)) (at_code ts es k p h.1 i)

  pub IsTable_code : (ts : Types) (t : List (Keyed K)) → AllKeys P t → IsTable R ts t → IsTable S ts (with_keys code t)
  IsTable_code ts t h is = record { rising = sym (rises_code t h) ∙ is.rising; kept = kept_keys code ts t is.kept }

  -- to code and to sum go in either order
  pub total_code : (ts : Types) (es : List (Keyed K)) → AllKeys P es → with_keys code (total R ts es) ≡ total S ts (with_keys code es)
  total_code ts es h =
      total_by lo ts (with_keys code (total R ts es)) (with_keys code es) (IsTable_code ts (total R ts es) (keys_total ko P ts es h) (IsTable-total ko ts es)) (SameAt-keys ko lo ts code (SameAt-total ko ts es))
