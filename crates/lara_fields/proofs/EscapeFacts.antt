-- The end of a text's code.
use Rattle.std.proofs.Common.{◌≡◌, ℕ, ◌≤◌, List, [], ◌∷◌, ◌++◌, length, take, sym, ap, ◌∙◌, append_assoc}
use Rattle.std.specs.List.{flat_map}
use Rattle.std.proofs.lemmas.List.{take_all}
use Rattle.lara_fields.specs.TextCodes.{escape, escaped, escaped_is}

pub escaped_end : (new out old bytes : List ℕ) (i : ℕ) → length bytes ≤ i → out ≡ old ++ flat_map escape (take i bytes) → new ≡ out ++ 0 ∷ 1 ∷ [] → new ≡ old ++ escaped bytes
escaped_end new out old bytes i h e n =
    n ∙ ap (λ (t : List ℕ). t ++ 0 ∷ 1 ∷ []) (e ∙ ap (λ (t : List ℕ). old ++ flat_map escape t) (take_all i bytes h)) ∙ append_assoc old (flat_map escape bytes) (0 ∷ 1 ∷ []) ∙ ap (λ (t : List ℕ). old ++ t) (sym (escaped_is bytes))
