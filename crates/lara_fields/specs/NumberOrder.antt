-- Numbers with the highest byte first compare as their bytes do.
use Rattle.std.specs.Prelude.{◌≡◌, ℕ, ◌+◌, ◌*◌, ◌/◌, ◌%◌, ◌^◌, ◌<◌, ◌≤◌, true, nat_lt, List, ◌++◌}
use Rattle.std.specs.Cmp.{nat_cmp_is, ranks}
use Rattle.std.specs.Ordering.{MatchOrdering, nat_cmp, ordering_then}
use Rattle.std.specs.Int.{w64, to_be_bytes, bytes_high_first, byte_at}
use Rattle.std.specs.declared.cmp.Ordering.{Ordering}
use Rattle.std.specs.declared.cmp.Ordering.TheVariants.{Less, Equal, Greater}
use Rattle.std.proofs.Common.{refl, sym, ◌∙◌, ap, arith, zero, suc}
use Rattle.std.proofs.Math.Nat.{add-mul, add_assoc, div-add-mod', div-one, mod-eq_of_lt, mod-lt, mul_comm, mul-add-mod_self_right, mul-le-mul_right, mul_assoc, one-le-pow, pow-succ'}
use Rattle.std.proofs.lemmas.Nat.{mul-add-lt}
use Rattle.std.proofs.lemmas.Bool.Decides.{nat_tests}
use Rattle.lara_base.specs.Texts.{bytes_cmp}
use Rattle.lara_fields.specs.OrderedCodes.{IsOrderedCode, then_assoc}

-- numbers of two digits compare by the higher one first
digits_cmp : (q s r t base : ℕ) → r < base → t < base → nat_cmp (q * base + r) (s * base + t) ≡ ordering_then (nat_cmp q s) (nat_cmp r t)
digits_cmp q s r t base f g = by_first (nat_cmp q s) refl (ranks q s)
  where
    by_first : (o : Ordering) → nat_cmp q s ≡ o → MatchOrdering (nat_cmp q s) (q < s) (q ≡ s) (s < q) → nat_cmp (q * base + r) (s * base + t) ≡ ordering_then o (nat_cmp r t)
    by_first Less e m =
        let l : q < s = rw e at m in
        sym (nat_cmp_is (q * base + r) (s * base + t) Less (omega (arith, mul-add-lt q base r s l f, mul_comm base s)))
    by_first Equal e m =
        let same : q ≡ s = rw e at m in
        rw same (sym (nat_cmp_is (s * base + r) (s * base + t) (nat_cmp r t) (moved (nat_cmp r t) (ranks r t))))
      where
        moved : (o : Ordering) → MatchOrdering o (r < t) (r ≡ t) (t < r) → MatchOrdering o (s * base + r < s * base + t) (s * base + r ≡ s * base + t) (s * base + t < s * base + r)
        moved Less h = omega arith
        moved Equal h = omega arith
        moved Greater h = omega arith
    by_first Greater e m =
        let l : s < q = rw e at m in
        sym (nat_cmp_is (q * base + r) (s * base + t) Greater (omega (arith, mul-add-lt s base t q l g, mul_comm base q)))

pow_pos256 : (n : ℕ) → 0 < 256 ^ n
pow_pos256 n = let h = one-le-pow n 256 (omega arith) in omega arith

mod-split : (n : ℕ) {m c : ℕ} → 0 < m → 0 < c → n % (m * c) ≡ (n / c % m) * c + n % c
mod-split n {m} {c} hm hc =
    let a = mod-lt (n / c) hm in
    let b = mod-lt n hc in
    let top : (n / c % m + 1) * c ≤ m * c = mul-le-mul_right c (omega arith) in
    let expand : (n / c % m + 1) * c ≡ n / c % m * c + 1 * c = add-mul (n / c % m) 1 c in
    let split : n ≡ n / c / m * (m * c) + (n / c % m * c + n % c) =
    sym (div-add-mod' n c)
    ∙ ap (λ (x : ℕ). x * c + n % c) (sym (div-add-mod' (n / c) m))
    ∙ ap (λ (x : ℕ). x + n % c) (add-mul (n / c / m * m) (n / c % m) c ∙ ap (λ (x : ℕ). x + n / c % m * c) (mul_assoc (n / c / m) m c))
    ∙ add_assoc (n / c / m * (m * c)) (n / c % m * c) (n % c) in
    ap (λ (x : ℕ). x % (m * c)) split ∙ mul-add-mod_self_right (n / c / m) (m * c) (n / c % m * c + n % c) ∙ mod-eq_of_lt (omega arith)

byte_at-pow : (k x : ℕ) → byte_at k x ≡ x / 256 ^ k % 256
byte_at-pow zero x = ap (λ (y : ℕ). y % 256) (sym (div-one x))
byte_at-pow (suc k) x = refl

-- the low bytes of a number are its highest of them and the rest
low_bytes : (k x : ℕ) → x % 256 ^ suc k ≡ byte_at k x * 256 ^ k + x % 256 ^ k
low_bytes k x = rw (byte_at-pow k x, pow-succ' 256 k) (mod-split x {m = 256} {c = 256 ^ k} (omega arith) (pow_pos256 k))

pub bytes_high_first_cmp : (k n m : ℕ) (a b : List ℕ) → bytes_cmp (bytes_high_first k n ++ a) (bytes_high_first k m ++ b) ≡ ordering_then (nat_cmp (n % 256 ^ k) (m % 256 ^ k)) (bytes_cmp a b)
bytes_high_first_cmp zero n m a b = let e : n % 1 ≡ 0 = omega arith in let f : m % 1 ≡ 0 = omega arith in rw (e, f) refl
bytes_high_first_cmp (suc k) n m a b =
    rw (bytes_high_first_cmp k n m a b, low_bytes k n, low_bytes k m, digits_cmp (byte_at k n) (byte_at k m) (n % 256 ^ k) (m % 256 ^ k) (256 ^ k) (mod-lt n (pow_pos256 k)) (mod-lt m (pow_pos256 k)))
    (sym (then_assoc (nat_cmp (byte_at k n) (byte_at k m)) (nat_cmp (n % 256 ^ k) (m % 256 ^ k)) (bytes_cmp a b)))

nat_compares : (n m : ℕ) (a b : List ℕ) → n < 256 ^ 8 → m < 256 ^ 8 → bytes_cmp (bytes_high_first 8 n ++ a) (bytes_high_first 8 m ++ b) ≡ ordering_then (nat_cmp n m) (bytes_cmp a b)
nat_compares n m a b p q = bytes_high_first_cmp 8 n m a b ∙ ap (λ (z : ℕ). ordering_then (nat_cmp z (m % 256 ^ 8)) (bytes_cmp a b)) (mod-eq_of_lt p) ∙ ap (λ (z : ℕ). ordering_then (nat_cmp n z) (bytes_cmp a b)) (mod-eq_of_lt q)

number_compares : (n m : ℕ) (a b : List ℕ) → nat_lt n (2 ^ 64) ≡ true → nat_lt m (2 ^ 64) ≡ true → bytes_cmp (to_be_bytes w64 n ++ a) (to_be_bytes w64 m ++ b) ≡ ordering_then (nat_cmp n m) (bytes_cmp a b)
number_compares n m a b p q = nat_compares n m a b (grind (arith, nat_tests)) (grind (arith, nat_tests))

-- numbers of 64 bits compare as their eight bytes do
pub number_ordered : IsOrderedCode (λ n. nat_lt n (2 ^ 64)) nat_cmp (to_be_bytes w64)
number_ordered = record { compares = number_compares }
