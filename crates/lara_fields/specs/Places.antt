-- Where a reading of one field stops: at its first byte.
use Rattle.std.specs.Prelude.{◌≡◌, ℕ, Bool, true, false, nat_lt, List, length, take, drop, Option, Some, None, Result, Ok, Err, if◌then◌else◌}
use Rattle.std.proofs.Common.{◌⊎◌, sym, ◌∙◌, inl, inr}
use Rattle.std.specs.Int.{Width, byte_len, from_be_bytes}
use Rattle.lara_fields.specs.Fields.{number_at, bytes_at, kept, made, told, picked, at_first, joined}
use Rattle.lara_fields.specs.Steps.{err_from_bind, read}
use Rattle.lara_fields.specs.Numbers.{number_made}

-- It is one field: it stops at its first byte.
pub record IsField {X : Type 0} (read : List ℕ → Result (X × List ℕ) ℕ) : Type 0 where
  pub stops : (bytes : List ℕ) (left : ℕ) → read bytes ≡ Err left → left ≡ length bytes

pub bytes_field : (n : ℕ) → IsField (bytes_at n)
bytes_field n = record { stops = λ bytes left. by bytes left (nat_lt (length bytes) n) }
  where
    by : (bytes : List ℕ) (left : ℕ) (b : Bool) → (if b then Err (length bytes) else read (take n bytes) (drop n bytes)) ≡ Err left → left ≡ length bytes
    by bytes left true e = cc
    by bytes left false e = absurd cc

pub made_field : {X Y : Type 0} {r : List ℕ → Result (X × List ℕ) ℕ} (f : X → Y) → IsField r → IsField (made f r)
made_field {X} {Y} {r} f law = record { stops = λ bytes left e. by bytes left (err_from_bind (r bytes) (λ x. Ok (f x.0, x.1)) left e) }
  where
    by : (bytes : List ℕ) (left : ℕ) → (r bytes ≡ Err left) ⊎ ((x : X × List ℕ) × (r bytes ≡ Ok x) × (read (f x.0) x.1 ≡ Err left)) → left ≡ length bytes
    by bytes left (inl e) = law.stops bytes left e
    by bytes left (inr x) = absurd (let e = x.2 in cc)

pub number_field : (w : Width) → IsField (number_at w)
number_field w = record { stops = λ bytes left e. (made_field (from_be_bytes w) (bytes_field (byte_len w))).stops bytes left (sym (number_made w bytes) ∙ e) }

pub kept_field : {X : Type 0} {r : List ℕ → Result (X × List ℕ) ℕ} (rule : X → Bool) → IsField r → IsField (kept rule r)
kept_field {X} {r} rule law = record { stops = λ bytes left e. by bytes left (err_from_bind (r bytes) (λ x. if rule x.0 then Ok x else Err (length bytes)) left e) }
  where
    broken : (bytes : List ℕ) (left : ℕ) (x : X × List ℕ) (b : Bool) → (if b then Ok x else Err (length bytes)) ≡ Err left → left ≡ length bytes
    broken bytes left x true e = absurd cc
    broken bytes left x false e = cc

    by : (bytes : List ℕ) (left : ℕ) → (r bytes ≡ Err left) ⊎ ((x : X × List ℕ) × (r bytes ≡ Ok x) × ((if rule x.0 then Ok x else Err (length bytes)) ≡ Err left)) → left ≡ length bytes
    by bytes left (inl e) = law.stops bytes left e
    by bytes left (inr x) = broken bytes left x.0 (rule x.0.0) x.2

pub picked_field : {X Y : Type 0} {r : List ℕ → Result (X × List ℕ) ℕ} (f : X → Option Y) → IsField r → IsField (picked f r)
picked_field {X} {Y} {r} f law = record { stops = λ bytes left e. by bytes left (err_from_bind (r bytes) (λ x. told (length bytes) x.1 (f x.0)) left e) }
  where
    none : (bytes rest : List ℕ) (left : ℕ) (o : Option Y) → told (length bytes) rest o ≡ Err left → left ≡ length bytes
    none bytes rest left None e = cc
    none bytes rest left (Some y) e = absurd cc

    by : (bytes : List ℕ) (left : ℕ) → (r bytes ≡ Err left) ⊎ ((x : X × List ℕ) × (r bytes ≡ Ok x) × (told (length bytes) x.1 (f x.0) ≡ Err left)) → left ≡ length bytes
    by bytes left (inl e) = law.stops bytes left e
    by bytes left (inr x) = none bytes x.0.1 left (f x.0.0) x.2

pub joined_field : {X : Type 0} (r : List ℕ → Result (X × List ℕ) ℕ) → IsField (joined r)
joined_field {X} r = record { stops = λ bytes left e. by (length bytes) left (r bytes) e }
  where
    by : (n left : ℕ) (q : Result (X × List ℕ) ℕ) → at_first n q ≡ Err left → left ≡ n
    by n left (Ok x) e = absurd cc
    by n left (Err d) e = cc
