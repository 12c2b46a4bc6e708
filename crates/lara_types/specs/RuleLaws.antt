-- The first rule that is broken, and what is answered by rules.
use Rattle.std.specs.Prelude.{◌≡◌, true, false, cond, List, [], ◌∷◌, ◌++◌, Option, Some, None, Ok, Err}
use Rattle.std.proofs.Common.{refl, sym, ap, subst, ◌∙◌}
use Rattle.lara_data.specs.declared.refusal.Refusal.{Refusal}
use Rattle.lara_types.specs.Answered.{answered, ok_is}
use Rattle.lara_types.specs.Rules.{Rule, AllMet, FirstBroken, broken, first_broken, unless, by_rules}

-- ---- where all are met

pub all_met : (rs : List Rule) → first_broken rs ≡ None → AllMet rs
unfolding first_broken AllMet
all_met [] e = tt
all_met (r ∷ rs) e =
    elim (r.met) as (λ b. r.met ≡ b → cond b (first_broken rs) (Some r.refusal) ≡ None → (r.met ≡ true) × AllMet rs) [
      | true ↦ λ m q. (m, all_met rs q)
      | false ↦ λ m q. absurd cc
    ] refl e

pub none_broken : (rs : List Rule) → AllMet rs → first_broken rs ≡ None
unfolding first_broken AllMet
none_broken [] m = refl
none_broken (r ∷ rs) m = ap (λ b. cond b (first_broken rs) (Some r.refusal)) m.0 ∙ none_broken rs m.1

pub met_parts : (xs ys : List Rule) → AllMet (xs ++ ys) → AllMet xs × AllMet ys
unfolding AllMet
met_parts [] ys m = (tt, m)
met_parts (x ∷ xs) ys m =
    let p = met_parts xs ys m.1 in
    ((m.0, p.0), p.1)

pub met_from : (xs ys : List Rule) → AllMet xs → AllMet ys → AllMet (xs ++ ys)
unfolding AllMet
met_from [] ys m n = n
met_from (x ∷ xs) ys m n = (m.0, met_from xs ys m.1 n)

-- ---- the first that is broken

abbrev pub or_else : {A : Type 0} → Option A → Option A → Option A
or_else None y = y
or_else (Some x) y = Some x

pub first_append : (xs ys : List Rule) → first_broken (xs ++ ys) ≡ or_else (first_broken xs) (first_broken ys)
unfolding first_broken
first_append [] ys = refl
first_append (x ∷ xs) ys =
    elim (x.met) as (λ b. cond b (first_broken (xs ++ ys)) (Some x.refusal) ≡ or_else (cond b (first_broken xs) (Some x.refusal)) (first_broken ys)) [
      | true ↦ first_append xs ys
      | false ↦ refl
    ]

-- the first rule that is broken of these
pub first_here : (xs ys : List Rule) (r : Refusal) → first_broken xs ≡ Some r → first_broken (xs ++ ys) ≡ Some r
first_here xs ys r e = first_append xs ys ∙ ap (λ o. or_else o (first_broken ys)) e

-- none of these is broken, so it is the first of the others
pub first_behind : (xs ys : List Rule) → first_broken xs ≡ None → first_broken (xs ++ ys) ≡ first_broken ys
first_behind xs ys e = first_append xs ys ∙ ap (λ o. or_else o (first_broken ys)) e

pub behind_met : (before : List Rule) (x : Rule) (after : List Rule) → AllMet before → x.met ≡ false → first_broken (before ++ x ∷ after) ≡ Some x.refusal
unfolding first_broken AllMet
behind_met [] x after m f = ap (λ b. cond b (first_broken after) (Some x.refusal)) f
behind_met (r ∷ before) x after m f = ap (λ b. cond b (first_broken (before ++ x ∷ after)) (Some r.refusal)) m.0 ∙ behind_met before x after m.1 f

pub broken_is : (rs : List Rule) (r : Refusal) → FirstBroken rs r → first_broken rs ≡ Some r
broken_is rs r (broken before x after m f) = behind_met before x after m f

-- one more rule that is met
met_more : (x : Rule) (rs : List Rule) (r : Refusal) → x.met ≡ true → FirstBroken rs r → FirstBroken (x ∷ rs) r
unfolding AllMet
met_more x rs r h (broken before y after m f) = broken (x ∷ before) y after (h, m) f

pub is_broken : (rs : List Rule) (r : Refusal) → first_broken rs ≡ Some r → FirstBroken rs r
unfolding first_broken AllMet
is_broken [] r e = absurd cc
is_broken (x ∷ rs) r e =
    elim (x.met) as (λ b. x.met ≡ b → cond b (first_broken rs) (Some x.refusal) ≡ Some r → FirstBroken (x ∷ rs) r) [
      | true ↦ λ m q. met_more x rs r m (is_broken rs r q)
      | false ↦ λ m q. let s : x.refusal ≡ r = cc in subst (λ z. FirstBroken (x ∷ rs) z) s (broken [] x rs tt m)
    ] refl e

-- ---- what is answered by rules

met_by : {A : Type 0} (rs : List Rule) (o : Option Refusal) (x y : A) → first_broken rs ≡ o → unless o x ≡ Ok y → AllMet rs × (x ≡ y)
met_by rs None x y s e = (all_met rs s, ok_is x y e)
met_by rs (Some r) x y s e = absurd cc

refusal_by : {A : Type 0} (o : Option Refusal) (x : A) (r : Refusal) → unless o x ≡ Err r → o ≡ Some r
refusal_by None x r e = absurd cc
refusal_by (Some s) x r e = let z : s ≡ r = cc in ap (λ (q : Refusal). Some q) z

-- what was answered has all rules met
pub rules_met : {A : Type 0} (rs : List Rule) (x y : A) → by_rules rs x ≡ Ok y → AllMet rs × (x ≡ y)
rules_met rs x y e = met_by rs (first_broken rs) x y refl e

-- where all rules are met there is an answer
pub rules_answer : {A : Type 0} (rs : List Rule) (x : A) → AllMet rs → by_rules rs x ≡ Ok x
rules_answer rs x m = ap (λ o. unless o x) (none_broken rs m)

-- a refusal is that of the first rule that is broken
pub rules_refused : {A : Type 0} (rs : List Rule) (x : A) (r : Refusal) → by_rules rs x ≡ Err r → first_broken rs ≡ Some r
rules_refused rs x r e = refusal_by (first_broken rs) x r e

-- the first rule that is broken refuses
pub rules_refuse : {A : Type 0} (rs : List Rule) (x : A) (r : Refusal) → first_broken rs ≡ Some r → by_rules rs x ≡ Err r
rules_refuse rs x r e = ap (λ o. unless o x) e

-- by the same rules another answer
pub rules_map : {A B : Type 0} (rs : List Rule) (f : A → B) (x y : A) → by_rules rs x ≡ Ok y → by_rules rs (f x) ≡ Ok (f y)
rules_map rs f x y e =
    let p = rules_met rs x y e in
    rules_answer rs (f x) p.0 ∙ ap (λ z. answered (f z)) p.1

pub rules_stop : {A B : Type 0} (rs : List Rule) (x : A) (y : B) (r : Refusal) → by_rules rs x ≡ Err r → by_rules rs y ≡ Err r
rules_stop rs x y r e = rules_refuse rs y r (rules_refused rs x r e)

-- rules behind others that are met
pub rules_behind : {A B : Type 0} (xs ys : List Rule) (x w : A) (y : B) → by_rules xs x ≡ Ok w → by_rules (xs ++ ys) y ≡ by_rules ys y
rules_behind xs ys x w y e = ap (λ o. unless o y) (first_behind xs ys (none_broken xs (rules_met xs x w e).0))

-- rules behind others of which one is broken
pub rules_before : {A B : Type 0} (xs ys : List Rule) (x : A) (y : B) (r : Refusal) → by_rules xs x ≡ Err r → by_rules (xs ++ ys) y ≡ Err r
rules_before xs ys x y r e = rules_refuse (xs ++ ys) y r (first_here xs ys r (rules_refused xs x r e))

-- a test of some rules and then of others
pub in_front : (xs ys : List Rule) (r : Refusal) → Some r ≡ first_broken xs → Some r ≡ first_broken (xs ++ ys)
in_front xs ys r e = sym (first_here xs ys r (sym e))

pub in_sequence : (xs ys : List Rule) (o : Option Refusal) → first_broken xs ≡ None → o ≡ first_broken ys → o ≡ first_broken (xs ++ ys)
in_sequence xs ys o e f = f ∙ sym (first_behind xs ys e)

pub ruleset sequence_rules = (in_front, in_sequence)

-- ---- one rule and others

pub first_met : (r : Rule) (rs : List Rule) → AllMet (r ∷ rs) → r.met ≡ true
unfolding AllMet
first_met r rs m = m.0

pub rest_met : (r : Rule) (rs : List Rule) → AllMet (r ∷ rs) → AllMet rs
unfolding AllMet
rest_met r rs m = m.1

pub met_cons : (r : Rule) (rs : List Rule) → r.met ≡ true → AllMet rs → AllMet (r ∷ rs)
unfolding AllMet
met_cons r rs h m = (h, m)

pub met_end : AllMet []
unfolding AllMet
met_end = tt
