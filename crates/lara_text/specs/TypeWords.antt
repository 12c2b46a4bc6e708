-- The words of types: which type each is of.
use Rattle.std.specs.Prelude.{◌≡◌, ℕ, true, List, [], codes, Option, Some, None, if◌then◌else◌}
use Rattle.std.proofs.Common.{refl, sym, ap, ◌∙◌}
use Rattle.std.specs.List.{list_all}
use Rattle.std.specs.Str.{bytes_eq}
use Rattle.lara_base.specs.Names.{goes_on}
use Rattle.lara_semiring.specs.declared.value.ValType.{ValType}
use Rattle.lara_semiring.specs.declared.value.ValType.TheVariants as val_type
use Rattle.lara_key.specs.declared.key.KeyType.{KeyType}
use Rattle.lara_key.specs.declared.key.KeyType.TheVariants as key_type
use Rattle.lara_text.specs.TableTexts.{key_type_text, val_type_text}
use Rattle.lara_text.specs.Delimited.{IsDelimited, IsDelimited-run}

-- the key type of the word
unfoldable pub key_type_of : List ℕ → Option KeyType
key_type_of w =
    if bytes_eq w (codes "nat") then Some key_type.Nat
    else if bytes_eq w (codes "text") then Some key_type.Text
    else if bytes_eq w (codes "flag") then Some key_type.Flag
    else None

-- the value type of the word
unfoldable pub val_type_of : List ℕ → Option ValType
val_type_of w =
    if bytes_eq w (codes "count") then Some val_type.Count
    else if bytes_eq w (codes "minplus") then Some val_type.MinPlus
    else if bytes_eq w (codes "maxmin") then Some val_type.MaxMin
    else if bytes_eq w (codes "flag") then Some val_type.Flag
    else if bytes_eq w (codes "last") then Some val_type.Last
    else if bytes_eq w (codes "path") then Some val_type.Path
    else None

-- each type's word is read as the type
pub key_type_of_text : (t : KeyType) → key_type_of (key_type_text t) ≡ Some t
unfolding key_type_of key_type_text
key_type_of_text key_type.Nat = refl
key_type_of_text _ = refl

pub val_type_of_text : (t : ValType) → val_type_of (val_type_text t) ≡ Some t
unfolding val_type_of val_type_text
val_type_of_text val_type.Count = refl
val_type_of_text _ = refl

some_is : {X : Type 0} {x y : X} → Some x ≡ Some y → x ≡ y
some_is e = cc

key_word_all : (t : KeyType) → list_all goes_on (key_type_text t) ≡ true
unfolding key_type_text goes_on
key_word_all key_type.Nat = refl
key_word_all _ = refl

key_word_some : (t : KeyType) → key_type_text t ≡ [] → ⊥
unfolding key_type_text
key_word_some key_type.Nat e = cc
key_word_some _ e = cc

val_word_all : (t : ValType) → list_all goes_on (val_type_text t) ≡ true
unfolding val_type_text goes_on
val_word_all val_type.Count = refl
val_word_all _ = refl

val_word_some : (t : ValType) → val_type_text t ≡ [] → ⊥
unfolding val_type_text
val_word_some val_type.Count e = cc
val_word_some _ e = cc

pub IsDelimited-key_type : IsDelimited (λ (t : KeyType). Unit {0}) goes_on key_type_text
IsDelimited-key_type = IsDelimited-run (λ (t : KeyType). Unit {0}) goes_on key_type_text (record {
  all = λ t p. key_word_all t;
  some = λ t p e. key_word_some t e;
  told = λ s t p q e. some_is (sym (key_type_of_text s) ∙ ap key_type_of e ∙ key_type_of_text t);
})

pub IsDelimited-val_type : IsDelimited (λ (t : ValType). Unit {0}) goes_on val_type_text
IsDelimited-val_type = IsDelimited-run (λ (t : ValType). Unit {0}) goes_on val_type_text (record {
  all = λ t p. val_word_all t;
  some = λ t p e. val_word_some t e;
  told = λ s t p q e. some_is (sym (val_type_of_text s) ∙ ap val_type_of e ∙ val_type_of_text t);
})
