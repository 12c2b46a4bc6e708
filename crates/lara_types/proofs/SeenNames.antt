-- One name more in a set of names.
use Rattle.std.specs.Prelude.{◌≡◌, ℕ, Bool, true, false, cond, ◌||◌, List, [], ◌∷◌, ◌++◌}
use Rattle.std.proofs.Common.{refl, sym, ap, ◌∙◌}
use Rattle.std.specs.Ordering.{nat_cmp, is_eq}
use Rattle.std.specs.List.{list_any}
use Rattle.std.specs.Cmp.Lexicographic.{slice_cmp}
use Rattle.std.specs.BTreeSet.{BTreeSet, contains, Updates, IsEmpty}
use Rattle.std.specs.Str.{bytes_eq}
use Rattle.std.proofs.lemmas.Map.Text.{is_eq-slice_cmp}
use Rattle.std.proofs.lemmas.List.Folds.{list_any-append}
use Rattle.lara_data.specs.Names.{has, same_name}
use Rattle.lara_data.specs.Sequences.{turned_name}
use Rattle.lara_types.specs.Seen.{Holds}

or_last : (a b : Bool) → cond a true b ≡ (b || (a || false))
or_last true true = refl
or_last true false = refl
or_last false true = refl
or_last false false = refl

has-one_more : (names : List (List ℕ)) (n q : List ℕ) → has (names ++ n ∷ []) q ≡ (has names q || (bytes_eq q n || false))
unfolding has same_name
has-one_more names n q = list_any-append (λ m. bytes_eq q m) names (n ∷ [])

pub holds_one_more : (old new : BTreeSet (List ℕ)) (names : List (List ℕ)) (k n : List ℕ) → k ≡ n → Holds old names → Updates (slice_cmp nat_cmp) old new k true → Holds new (names ++ n ∷ [])
unfolding same_name
holds_one_more old new names k n is h u = record {
  same = λ q.
      u.0 q
      ∙ ap (λ (m : List ℕ). cond (is_eq (slice_cmp nat_cmp m q)) true (contains (slice_cmp nat_cmp) old q)) is
      ∙ ap (λ (b : Bool). cond b true (contains (slice_cmp nat_cmp) old q)) (is_eq-slice_cmp n q ∙ turned_name q n)
      ∙ ap (λ (b : Bool). cond (bytes_eq q n) true b) (h.same q)
      ∙ or_last (bytes_eq q n) (has names q)
      ∙ sym (has-one_more names n q);
}

has-none : (q : List ℕ) → has [] q ≡ false
unfolding has
has-none q = refl

pub holds_empty : (set : BTreeSet (List ℕ)) → IsEmpty set → Holds set []
holds_empty set e = record { same = λ q. ap (λ (ks : List (List ℕ)). list_any (λ k. is_eq (slice_cmp nat_cmp q k)) ks) e ∙ sym (has-none q) }
