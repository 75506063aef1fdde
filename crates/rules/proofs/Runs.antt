-- A number is among the codes of a run where it stands between its ends.
-- Assumes nothing.
use Prim.Native.Nat.{ℕ, zero, suc, ◌+◌, ◌≤◌}
use native.Mathlib.Omega.{arith}
use mathlib.Core.Path.{◌≡◌, refl, ◌∙◌}
use mathlib.Core.Bool.{Bool, true, false, ◌&&◌, ◌||◌, not, and-true, and-false}
use mathlib.Core.List.{List, [], ◌∷◌}
use lib.Dec.{eqb, ltb, leb, leb-zero}
use borrow.Author.Tests.{eqb-true, eqb-false, leb-true, leb-false, ltb-true, lt-ltb, le-ltb, le-leb, lt-leb}
use Rattle.format.specs.Pins.{among}

-- a and the n codes after it
abbrev pub run : ℕ → ℕ → List ℕ
run a zero = a ∷ []
run a (suc n) = a ∷ run (suc a) n

-- of two different numbers, at most is below
strict : (a b : ℕ) (t : Bool) → leb a b ≡ t → (a ≡ b → ⊥) → ltb a b ≡ t
strict a b true e d = lt-ltb a b (omega (arith, leb-true a b e))
strict a b false e d = le-ltb a b (omega (arith, leb-false a b e))

-- no number is above a and at most a
none_between : (a x : ℕ) (t : Bool) → ltb a x ≡ t → false ≡ t && leb x a
none_between a x true e = rw (lt-leb x a (ltb-true a x e))
none_between a x false e = refl

-- up to b it is a, or above a, where it is at least a
first_or_later :
    (x a b : ℕ) (t s : Bool) → eqb x a ≡ t → a ≤ b → s ≡ ltb a x && leb x b → t || s ≡ leb a x && leb x b
first_or_later x a b true s e l h =
    let q : x ≡ a = eqb-true x a e in
    rw (le-leb a x (omega arith), le-leb x b (omega arith))
first_or_later x a b false s e l h = rw (h, strict a x (leb a x) refl (λ q. eqb-false x a e (omega arith)))

-- from a to b
pub within : (x a n b : ℕ) → b ≡ a + n → among x (run a n) ≡ leb a x && leb x b
within x a zero b e =
    let q : b ≡ a = omega arith in
    rw q (first_or_later x a a (eqb x a) false refl (omega arith) (none_between a x (ltb a x) refl))
within x a (suc n) b e =
    first_or_later x a b (eqb x a) (among x (run (suc a) n)) refl (omega arith) (within x (suc a) n b (omega arith))

-- from 0
pub up_to : (x n : ℕ) → among x (run 0 n) ≡ leb x n
up_to x n = within x 0 n n (omega arith) ∙ rw (leb-zero x)

-- all but the last of these, and the last
below_last : (x n : ℕ) (t : Bool) → eqb x n ≡ t → ltb x n ≡ leb x n && not t
below_last x n true e = rw (and-false (leb x n)) (le-ltb x n (omega (arith, eqb-true x n e)))
below_last x n false e = rw (and-true (leb x n)) (strict x n (leb x n) refl (eqb-false x n e))

pub but_last : (x n : ℕ) → ltb x n ≡ leb x n && not (eqb x n)
but_last x n = below_last x n (eqb x n) refl

at_last : (x n : ℕ) (t : Bool) → eqb x n ≡ t → t ≡ leb x n && t
at_last x n true e = rw (le-leb x n (omega (arith, eqb-true x n e)))
at_last x n false e = rw (and-false (leb x n))

pub the_last : (x n : ℕ) → eqb x n ≡ leb x n && eqb x n
the_last x n = at_last x n (eqb x n) refl
