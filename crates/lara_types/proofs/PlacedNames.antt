-- Names at their places.
use Rattle.std.specs.Prelude.{◌≡◌, ◌<◌, ◌≤◌, ◌+◌, ℕ, Bool, true, false, cond, not, ◌||◌, List, [], ◌∷◌, length, take, Option, Some, None}
use Rattle.std.proofs.Common.{refl, sym, ap, ◌∙◌, get_or, drop}
use Rattle.std.proofs.Math.ListN.{drop_of_length-le}
use Rattle.std.proofs.lemmas.List.{drop_more}
use Rattle.std.specs.List.{list_any}
use Rattle.std.specs.Str.{bytes_eq}
use Rattle.lara_data.specs.Names.{Name, same_name, has}
use Rattle.lara_syntax.specs.declared.ast.AstName.{AstName}
use Rattle.lara_data.specs.declared.table_type.KeyCol.{KeyCol}
use Rattle.lara_data.specs.TableTypes.{key_names}
use Rattle.lara_data.specs.declared.refusal.Kind.TheVariants.{NameTwice, NotAKey}
use Rattle.lara_data.specs.declared.refusal.Refusal.{Refusal}
use Rattle.lara_types.specs.NameRules.{key_rules, once_rules}
use Rattle.lara_types.specs.Rules.{first_broken}
use Rattle.lara_types.specs.WalkLaws.{map-more}
use Rattle.lara_types.specs.Written.{plain}

has_plain : (names : List AstName) (n : Name) → has (plain names) n ≡ list_any (λ m. bytes_eq n m.name) names
unfolding has same_name
has_plain [] n = refl
has_plain (m ∷ names) n = λ i. bytes_eq n m.name || has_plain names n i

-- what one name's rule says, and then those of the others
abbrev one_of : Bool → Refusal → Option Refusal → Option Refusal
one_of met r others = cond met others (Some r)

module _ (names : List AstName) (i : ℕ) where
  abbrev once : ℕ → Option Refusal
  once i = first_broken (once_rules (plain (take i names)) (drop i names))

  -- a turn over the names, from the first on that is not read
  repeated_at : (n : AstName) → i < length names → n ≡ get_or names i n → once i ≡ one_of (not (has (plain (take i names)) n.name)) (record { at = n.at; kind = NameTwice }) (once (i + 1))
  unfolding once_rules first_broken
  repeated_at n h here = rw (drop_more names i n h, ← here, map-more (λ m. m.name) names i n h here) refl

  module _ (so_far : first_broken (once_rules [] names) ≡ first_broken (once_rules (plain (take i names)) (drop i names))) where
    module _ (n : AstName) (h : i < length names) (here : n ≡ get_or names i n) where
      turn : (b : Bool) → b ≡ list_any (λ m. bytes_eq n.name m.name) (take i names) → first_broken (once_rules [] names) ≡ one_of (not b) (record { at = n.at; kind = NameTwice }) (once (i + 1))
      turn b e = so_far ∙ repeated_at n h here ∙ ap (λ c. one_of (not c) (record { at = n.at; kind = NameTwice }) (once (i + 1))) (has_plain (take i names) n.name ∙ sym e)

      -- the name stood before
      pub repeated_here : (r : Refusal) → r ≡ record { at = n.at; kind = NameTwice } → true ≡ list_any (λ m. bytes_eq n.name m.name) (take i names) → Some r ≡ first_broken (once_rules [] names)
      repeated_here r is e = ap (λ (q : Refusal). Some q) is ∙ sym (turn true e)

      -- the name did not stand before
      pub repeated_on : false ≡ list_any (λ m. bytes_eq n.name m.name) (take i names) → first_broken (once_rules [] names) ≡ first_broken (once_rules (plain (take (i + 1) names)) (drop (i + 1) names))
      repeated_on e = turn false e

    -- all names are read
    pub repeated_end : length names ≤ i → None ≡ first_broken (once_rules [] names)
    unfolding once_rules first_broken
    repeated_end h = sym (so_far ∙ rw (drop_of_length-le names h) refl)

module _ (keys : List KeyCol) (names : List AstName) (i : ℕ) where
  -- a turn over the names, from the first on that is not read
  stranger_at : (n : AstName) → i < length names → n ≡ get_or names i n → first_broken (key_rules keys (drop i names)) ≡ one_of (has (key_names keys) n.name) (record { at = n.at; kind = NotAKey }) (first_broken (key_rules keys (drop (i + 1) names)))
  unfolding key_rules first_broken
  stranger_at n h here = rw (drop_more names i n h, ← here) refl

  module _ (so_far : first_broken (key_rules keys names) ≡ first_broken (key_rules keys (drop i names))) where
    module _ (n : AstName) (h : i < length names) (here : n ≡ get_or names i n) where
      step : (b : Bool) → b ≡ has (key_names keys) n.name → first_broken (key_rules keys names) ≡ one_of b (record { at = n.at; kind = NotAKey }) (first_broken (key_rules keys (drop (i + 1) names)))
      step b e = so_far ∙ stranger_at n h here ∙ ap (λ c. one_of c (record { at = n.at; kind = NotAKey }) (first_broken (key_rules keys (drop (i + 1) names)))) (sym e)

      -- the name is no key column's
      pub stranger_here : (r : Refusal) → r ≡ record { at = n.at; kind = NotAKey } → false ≡ has (key_names keys) n.name → Some r ≡ first_broken (key_rules keys names)
      stranger_here r is e = ap (λ (q : Refusal). Some q) is ∙ sym (step false e)

      -- the name is a key column's
      pub stranger_on : true ≡ has (key_names keys) n.name → first_broken (key_rules keys names) ≡ first_broken (key_rules keys (drop (i + 1) names))
      stranger_on e = step true e

    -- all names are read
    pub stranger_end : length names ≤ i → None ≡ first_broken (key_rules keys names)
    unfolding key_rules first_broken
    stranger_end h = sym (so_far ∙ rw (drop_of_length-le names h) refl)
