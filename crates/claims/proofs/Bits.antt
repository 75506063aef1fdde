-- Laws of bits: those of `&` and `|`, and that a word with no bit is 0.
-- Assumes nothing.
use Prim.Native.Nat.{ℕ, zero, suc, ◌+◌, ◌/◌, ◌%◌, ◌^◌, ◌<◌}
use native.Mathlib.Nat.{mod-lt, one-mul, zero-div, div-lt_iff_lt-mul}
use native.Mathlib.Omega.{arith}
use mathlib.Core.Path.{◌≡◌, refl}
use mathlib.Core.Bool.{Bool, true, false, ◌&&◌, ◌||◌}
use lib.Dec.{eqb}
use lib.Bits.{bit_and, bit_or, and_shr, and_mod, or_shr, or_mod, and_le_l, and_le_r, or_add_and}
use lib.Pow.{pow_pos, shr_lt}
use borrow.Author.Tests.{eqb-true, eqb-false, eq-eqb}
use Rattle.pinsets.specs.Sets.{has_bit}
use Rattle.pinsets.proofs.Table.{same, same→eq, and_left, and_right, all_to, at_below}
use Rattle.claims.proofs.Tests.{one_test, both}

bit : (n : ℕ) → n % 2 < 2
bit n = mod-lt n (omega arith)

-- a law of two bits, computed
two : (f : ℕ → ℕ → Bool) → all_to 2 (λ u. all_to 2 (f u)) ≡ true → (u v : ℕ) → u < 2 → v < 2 → f u v ≡ true
two f t u v h k = at_below 2 (f u) (at_below 2 (λ u. all_to 2 (f u)) t u h) v k

pub bit_and_lem : (a b i : ℕ) → has_bit (bit_and a b) i ≡ has_bit a i && has_bit b i
unfolding has_bit
bit_and_lem a b i =
    rw
    (and_shr a b i, and_mod (a / 2 ^ i) (b / 2 ^ i) 1)
    (same→eq _ _ (two (λ u v. same (eqb (bit_and u v) 1) (eqb u 1 && eqb v 1)) refl _ _ (bit (a / 2 ^ i)) (bit (b / 2 ^ i))))

pub bit_or_lem : (a b i : ℕ) → has_bit (bit_or a b) i ≡ has_bit a i || has_bit b i
unfolding has_bit
bit_or_lem a b i =
    rw
    (or_shr a b i, or_mod (a / 2 ^ i) (b / 2 ^ i) 1)
    (same→eq _ _ (two (λ u v. same (eqb (bit_or u v) 1) (eqb u 1 || eqb v 1)) refl _ _ (bit (a / 2 ^ i)) (bit (b / 2 ^ i))))

pub bit_none : (i : ℕ) → has_bit 0 i ≡ false
unfolding has_bit
bit_none i = rw (zero-div (2 ^ i)) refl

-- the highest bit
lower : (n w : ℕ) → w < 2 ^ suc n → has_bit w n ≡ false → w < 2 ^ n
unfolding has_bit
lower n w h e =
    let s : 1 + n ≡ suc n = omega arith in
    let q : w / 2 ^ n < 2 = shr_lt 1 n (rw s h) in
    let z : w / 2 ^ n < 1 = omega (arith, eqb-false (w / 2 ^ n % 2) 1 e) in
    rw one-mul at ((div-lt_iff_lt-mul (pow_pos n)).0 z)

pub no_bits : (n w : ℕ) → w < 2 ^ n → ((i : ℕ) → i < n → has_bit w i ≡ false) → w ≡ 0
no_bits zero w h f = omega arith
no_bits (suc n) w h f = no_bits n w (lower n w h (f n (omega arith))) (λ i g. f i (omega arith))

pub or_zero_lem : (a b : ℕ) → eqb (bit_or a b) 0 ≡ eqb a 0 && eqb b 0
or_zero_lem a b =
    one_test
    (eqb (bit_or a b) 0)
    (eqb a 0 && eqb b 0)
    (λ h.
    let o = eqb-true (bit_or a b) 0 h in
    both
    (eqb a 0)
    (eqb b 0)
    (eq-eqb a 0 (omega (arith, o, or_add_and a b, and_le_l a b, and_le_r a b)))
    (eq-eqb b 0 (omega (arith, o, or_add_and a b, and_le_l a b, and_le_r a b))))
    (λ h.
    let p = eqb-true a 0 (and_left (eqb a 0) (eqb b 0) h) in
    let q = eqb-true b 0 (and_right (eqb a 0) (eqb b 0) h) in
    eq-eqb (bit_or a b) 0 (omega (arith, p, q, or_add_and a b)))
