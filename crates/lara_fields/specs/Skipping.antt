-- What is behind a field at the front of bytes, with no value made.
use Rattle.std.specs.Prelude.{◌≡◌, ℕ, suc, ◌+◌, Bool, true, false, ◌&&◌, ◌||◌, ◌==◌, nat_le, List, length, Option, Some, None, Result, Ok, Err, if◌then◌else◌}
use Rattle.std.specs.List.{list_all}
use Rattle.std.proofs.Common.{refl, sym, ap, ◌∙◌, arith}
use Rattle.std.proofs.Math.Bool.{and_assoc}
use Rattle.lara_base.specs.Results.{◌>>=◌}
use Rattle.lara_base.specs.declared.text.Text.TheVariants.{Within, Over}
use Rattle.lara_fields.specs.Fields.{told}
use Rattle.lara_fields.specs.TextCodes.{with_byte, unescaped, or_refused, text_of, text_at}

-- what is behind what was read
abbrev pub behind : {X : Type 0} → Result (X × List ℕ) ℕ → Option (List ℕ)
behind (Ok x) = Some x.1
behind (Err left) = None

-- so many bytes are a text, or where all are FF, what stands for the longer ones
abbrev pub is_kind : ℕ → Bool → Bool
is_kind n full = nat_le n 1024 || ((n == 1025) && full)

-- what is behind a text of which so many bytes were passed before, all of them FF or not
abbrev pub passed : ℕ → Bool → Option (List ℕ × List ℕ) → Option (List ℕ)
passed n full None = None
passed n full (Some x) = if is_kind (n + length x.0) (full && list_all (λ b. b == 255) x.0) then Some x.1 else None

kind_of : (c rest : List ℕ) (left : ℕ) → behind (told left rest (text_of c)) ≡ (if is_kind (length c) (list_all (λ b. b == 255) c) then Some rest else None)
unfolding text_of
kind_of c rest left = by (nat_le (length c) 1024) ((length c == 1025) && list_all (λ b. b == 255) c)
  where
    by : (s t : Bool) → behind (told left rest (if s then Some (Within c) else (if t then Some Over else None))) ≡ (if s || t then Some rest else None)
    by true t = refl
    by false true = refl
    by false false = refl

passed_is : (left : ℕ) (o : Option (List ℕ × List ℕ)) → behind (or_refused left o >>= λ x. told left x.1 (text_of x.0)) ≡ passed 0 true o
passed_is left None = refl
passed_is left (Some x) = let z : length x.0 ≡ 0 + length x.0 = omega arith in kind_of x.0 x.1 left ∙ ap (λ (n : ℕ). if is_kind n (list_all (λ b. b == 255) x.0) then Some x.1 else None) z

pub text_behind : (bytes : List ℕ) → behind (text_at bytes) ≡ passed 0 true (unescaped bytes)
text_behind bytes = passed_is (length bytes) (unescaped bytes)

-- one more byte
pub passed-with_byte : (n b : ℕ) (full : Bool) (o : Option (List ℕ × List ℕ)) → passed n full (with_byte b o) ≡ passed (n + 1) (full && (b == 255)) o
passed-with_byte n b full None = refl
passed-with_byte n b full (Some x) =
    let k : n + suc (length x.0) ≡ (n + 1) + length x.0 = omega arith in
    ap (λ (m : ℕ). if is_kind m (full && ((b == 255) && list_all (λ b. b == 255) x.0)) then Some x.1 else None) k
    ∙ ap (λ (t : Bool). if is_kind ((n + 1) + length x.0) t then Some x.1 else None) (sym (and_assoc full (b == 255) (list_all (λ b. b == 255) x.0)))
