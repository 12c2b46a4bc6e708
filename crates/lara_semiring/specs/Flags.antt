-- Flags: the sum is `or` and the product `and`, so that false is zero and true is one. No flag is `over`.
use Rattle.std.specs.Prelude.{◌≡◌, Bool, true, false, ◌&&◌, ◌||◌, not}
use Rattle.std.proofs.Common.{refl}

-- one of them is true
abbrev pub flag_plus : Bool → Bool → Bool
flag_plus a b = a || b

-- both are true
abbrev pub flag_times : Bool → Bool → Bool
flag_times a b = a && b

pub flag_plus_assoc : (a b c : Bool) → flag_plus (flag_plus a b) c ≡ flag_plus a (flag_plus b c)
flag_plus_assoc true b c = refl
flag_plus_assoc false b c = refl

pub flag_plus_comm : (a b : Bool) → flag_plus a b ≡ flag_plus b a
flag_plus_comm true true = refl
flag_plus_comm true false = refl
flag_plus_comm false true = refl
flag_plus_comm false false = refl

pub flag_times_assoc : (a b c : Bool) → flag_times (flag_times a b) c ≡ flag_times a (flag_times b c)
flag_times_assoc true b c = refl
flag_times_assoc false b c = refl

pub flag_times_comm : (a b : Bool) → flag_times a b ≡ flag_times b a
flag_times_comm true true = refl
flag_times_comm true false = refl
flag_times_comm false true = refl
flag_times_comm false false = refl

pub flag_times_true : (a : Bool) → flag_times a true ≡ a
flag_times_true true = refl
flag_times_true false = refl

pub flag_times_false : (a : Bool) → flag_times a false ≡ false
flag_times_false true = refl
flag_times_false false = refl

pub flag_times_plus : (a b c : Bool) → flag_times a (flag_plus b c) ≡ flag_plus (flag_times a b) (flag_times a c)
flag_times_plus true b c = refl
flag_times_plus false b c = refl

pub flag_plus_times : (a b c : Bool) → flag_times (flag_plus a b) c ≡ flag_plus (flag_times a c) (flag_times b c)
flag_plus_times true true true = refl
flag_plus_times true true false = refl
flag_plus_times true false true = refl
flag_plus_times true false false = refl
flag_plus_times false b c = refl

-- a sum is false only where both are
pub flag_plus_is_false : (a b : Bool) → not (flag_plus a b) ≡ (not a && not b)
flag_plus_is_false true b = refl
flag_plus_is_false false b = refl

-- a product is false only where one is
pub flag_times_is_false : (a b : Bool) → not (flag_times a b) ≡ (not a || not b)
flag_times_is_false true b = refl
flag_times_is_false false b = refl
