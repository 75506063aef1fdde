-- A rule of a table, at each of its entries, from one test that antt computes over all of them; and laws of tests.
-- Assumes nothing.
use Prim.Native.Nat.{ℕ, zero, suc, ◌<◌}
use native.Mathlib.Omega.{arith}
use mathlib.Core.Path.{◌≡◌, refl}
use mathlib.Core.Bool.{Bool, true, false, ◌&&◌, false≢true}
use lib.Dec.{eqb}
use borrow.Author.Tests.{eqb-true, eqb-false}
use Rattle.pinsets.specs.Sets.{pick}

-- two tests say the same
abbrev pub same : Bool → Bool → Bool
same true true = true
same true false = false
same false true = false
same false false = true

pub same→eq : (a b : Bool) → same a b ≡ true → a ≡ b
same→eq true true h = refl
same→eq true false h = absurd (false≢true h)
same→eq false true h = absurd (false≢true h)
same→eq false false h = refl

pub and_left : (a b : Bool) → a && b ≡ true → a ≡ true
and_left true b h = refl
and_left false b h = absurd (false≢true h)

pub and_right : (a b : Bool) → a && b ≡ true → b ≡ true
and_right true b h = h
and_right false b h = absurd (false≢true h)

-- what a test picks
pub picked : (t : Bool) (a b : ℕ) {i : ℕ} → t ≡ true → i ≡ a → i ≡ pick t a b
picked t a b p q = rw p q

pub picked_not : (t : Bool) (a b : ℕ) {i : ℕ} → t ≡ false → i ≡ b → i ≡ pick t a b
picked_not t a b p q = rw p q

-- a test passes at each number below n
abbrev pub all_to : ℕ → (ℕ → Bool) → Bool
all_to zero f = true
all_to (suc n) f = f n && all_to n f

below : (i n : ℕ) (f : ℕ → Bool) (t : Bool) → f n ≡ true → i < suc n → eqb i n ≡ t → (i < n → f i ≡ true) → f i ≡ true
below i n f true h l e k = rw (eqb-true i n e) h
below i n f false h l e k = k (omega (arith, eqb-false i n e))

pub at_below : (n : ℕ) (f : ℕ → Bool) → all_to n f ≡ true → (i : ℕ) → i < n → f i ≡ true
at_below zero f h i l = absurd (omega arith)
at_below (suc n) f h i l =
    below i n f (eqb i n) (and_left (f n) (all_to n f) h) l refl (λ g. at_below n f (and_right (f n) (all_to n f) h) i g)
