-- Names worked out by hand.
use Rattle.std.specs.Prelude.{◌≡◌, ℕ, true, false, List, [], ◌∷◌}
use Rattle.std.proofs.Common.{refl}
use Rattle.lara_base.specs.Names.{starts_name, goes_on, is_keyword, is_name}

letter : is_name (97 ∷ []) ≡ true
unfolding is_name starts_name goes_on is_keyword
letter = refl

line : is_name (95 ∷ []) ≡ true
unfolding is_name starts_name goes_on is_keyword
line = refl

-- `Z9_`
capital : is_name (90 ∷ 57 ∷ 95 ∷ []) ≡ true
unfolding is_name starts_name goes_on is_keyword
capital = refl

nothing : is_name [] ≡ false
unfolding is_name
nothing = refl

-- `9a`
digit_first : is_name (57 ∷ 97 ∷ []) ≡ false
unfolding is_name starts_name goes_on is_keyword
digit_first = refl

-- `a-b`
dash : is_name (97 ∷ 45 ∷ 98 ∷ []) ≡ false
unfolding is_name starts_name goes_on is_keyword
dash = refl

-- `where` and `wher`
keyword : is_name (119 ∷ 104 ∷ 101 ∷ 114 ∷ 101 ∷ []) ≡ false
unfolding is_name starts_name goes_on is_keyword
keyword = refl

no_keyword : is_name (119 ∷ 104 ∷ 101 ∷ 114 ∷ []) ≡ true
unfolding is_name starts_name goes_on is_keyword
no_keyword = refl

-- 8 bytes `n`
eight : List ℕ → List ℕ
eight bs = 110 ∷ 110 ∷ 110 ∷ 110 ∷ 110 ∷ 110 ∷ 110 ∷ 110 ∷ bs

sixty_four_bytes : is_name (eight (eight (eight (eight (eight (eight (eight (eight [])))))))) ≡ true
unfolding eight is_name starts_name goes_on is_keyword
sixty_four_bytes = refl

sixty_five_bytes : is_name (110 ∷ eight (eight (eight (eight (eight (eight (eight (eight [])))))))) ≡ false
unfolding eight is_name starts_name goes_on is_keyword
sixty_five_bytes = refl
