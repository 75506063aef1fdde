-- A number under 100,000,000 has one text: the digits from its powers of ten are those from its tenth parts.
-- Assumes nothing.
use Prim.Native.Nat.{ℕ, zero, suc, ◌+◌, ◌*◌, ◌/◌, ◌<◌, ◌≤◌}
use native.Mathlib.Omega.{arith}
use native.Mathlib.Nat.{div-eq_of_lt, div-div-eq-div-mul, div-lt_iff_lt-mul}
use mathlib.Core.Path.{◌≡◌, refl, sym, ◌∙◌, ap}
use mathlib.Core.Bool.{Bool, true, false, cond}
use mathlib.Core.List.{List, [], ◌∷◌, ◌++◌, append_assoc}
use lib.Dec.{ltb}
use borrow.Author.Tests.{ltb-true, ltb-false, ne_eqb}
use Rattle.spelling.specs.Spelling.{Put, digit, digit_at, decimal}
use Rattle.decimals.specs.Decimals.{leading, decimals}

-- 0 has no leading digits
none : (k : ℕ) → leading k 0 ≡ []
none zero = refl
none (suc k) = refl

-- the digit at a power is the last of the leading ones from there on
peeled : (k p n : ℕ) (rest : List ℕ) → 0 < p → leading (suc k) (n / p) ++ rest ≡ leading k (n / (p * 10)) ++ (digit_at p n ++ rest)
peeled k p n rest h = go (ltb n p) refl
  where
    go : (t : Bool) → ltb n p ≡ t → leading (suc k) (n / p) ++ rest ≡ leading k (n / (p * 10)) ++ (cond t [] (digit (n / p) ∷ []) ++ rest)
    go true e =
        let small : n < p = ltb-true n p e in
        let a : n / p ≡ 0 = div-eq_of_lt small in
        let b : n / (p * 10) ≡ 0 = div-eq_of_lt (omega arith) in
        ap (λ (m : ℕ). leading (suc k) m ++ rest) a ∙ sym (ap (λ (m : ℕ). leading k m ++ rest) b ∙ ap (λ (l : List ℕ). l ++ rest) (none k))
    go false e =
        let large : p ≤ n = ltb-false n p e in
        let some : n / p ≡ 0 → ⊥ = λ z. omega (arith, (div-lt_iff_lt-mul {k = p} {x = n} {y = 1} h).0 (omega arith)) in
        rw (ne_eqb (n / p) 0 some, div-div-eq-div-mul) (append_assoc (leading k (n / (p * 10))) (digit (n / p) ∷ []) rest)

pub alike : (n : ℕ) → n < 100000000 → decimals n ≡ decimal n
unfolding decimals decimal
alike n h =
    let r1 : List ℕ = digit_at 10 n ++ digit n ∷ [] in
    let r2 : List ℕ = digit_at 100 n ++ r1 in
    let r3 : List ℕ = digit_at 1000 n ++ r2 in
    let r4 : List ℕ = digit_at 10000 n ++ r3 in
    let r5 : List ℕ = digit_at 100000 n ++ r4 in
    let r6 : List ℕ = digit_at 1000000 n ++ r5 in
    let r7 : List ℕ = digit_at 10000000 n ++ r6 in
    let above : n / 100000000 ≡ 0 = div-eq_of_lt h in
    peeled 18 10 n (digit n ∷ []) (omega arith)
    ∙ peeled 17 100 n r1 (omega arith)
    ∙ peeled 16 1000 n r2 (omega arith)
    ∙ peeled 15 10000 n r3 (omega arith)
    ∙ peeled 14 100000 n r4 (omega arith)
    ∙ peeled 13 1000000 n r5 (omega arith)
    ∙ peeled 12 10000000 n r6 (omega arith)
    ∙ ap (λ (m : ℕ). leading 12 m ++ r7) above
    ∙ sym (simp append_assoc)

-- so it is put as the spelling of eight digits puts it
pub put_eight :
    {n at r : ℕ} {c after : List ℕ}
    → n < 100000000
    → Put c at (decimal n) r after × (r ≤ at + 8)
    → Put c at (decimals n) r after × (r ≤ at + 20)
put_eight {n} h p = (rw (alike n h) p.0, omega (arith, p.1))
