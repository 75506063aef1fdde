-- For the code to come: texts are compared by comparing the contents themselves.
-- Assumes nothing.
use Prim.Native.Nat.{ℕ, ◌<◌}
use native.Mathlib.Omega.{arith}
use mathlib.Core.Path.{◌≡◌, refl, ap}
use mathlib.Core.Bool.{Bool, true, false}
use mathlib.Core.List.{List}
use lib.Dec.{eqb}
use borrow.Author.Tests.{eqb-true, eqb-false}
use Rattle.format.specs.Slots.{Bytes}
use Rattle.spelling.specs.Spelling.{decimal, pin_or_dash}
use Rattle.differing.specs.Fields.{number, pin, hex}
use Rattle.differing.specs.Differences.{same}
use Rattle.differing.proofs.Nothing.{same_refl, same_true}
use Rattle.differing.proofs.Tells.{plain, shown_tells, hex_tells}

-- a test that is true of equal texts alone answers as `same` does
pub by_test : (s t : List ℕ) (b : Bool) → (b ≡ true → s ≡ t) → (b ≡ false → s ≡ t → ⊥) → same s t ≡ b
by_test s t true f g = rw (f refl) (same_refl t)
by_test s t false f g = go (same s t) refl
  where
    go : (b : Bool) → same s t ≡ b → b ≡ false
    go true e = absurd (g refl (same_true s t e))
    go false e = refl

pub numbers_same : (v w : ℕ) → v < 100000000 → w < 100000000 → same (decimal v) (decimal w) ≡ eqb v w
numbers_same v w h k =
    by_test (decimal v) (decimal w) (eqb v w) (λ e. ap decimal (eqb-true v w e))
    (λ e q. eqb-false v w e (inside v w (shown_tells {m = 100000000} (omega arith) (number v) (number w) h k q)))
  where
    inside : (v w : ℕ) → number v ≡ number w → v ≡ w
    inside v w h = cc

pub pins_same : (p q : ℕ) → plain p ≡ true → plain q ≡ true → same (pin_or_dash p) (pin_or_dash q) ≡ eqb p q
pins_same p q h k =
    by_test (pin_or_dash p) (pin_or_dash q) (eqb p q) (λ e. ap pin_or_dash (eqb-true p q e))
    (λ e t. eqb-false p q e (inside p q (shown_tells {m = 100000000} (omega arith) (pin p) (pin q) h k t)))
  where
    inside : (p q : ℕ) → pin p ≡ pin q → p ≡ q
    inside p q h = cc

-- a bus address beside a chip select always differs
pub number_beside_pin : (v p : ℕ) → v < 100000000 → plain p ≡ true → same (decimal v) (pin_or_dash p) ≡ false
number_beside_pin v p h k =
    by_test (decimal v) (pin_or_dash p) false (λ e. let z : ◌≡◌ {A = ℕ} 0 1 = cc in absurd (omega arith))
    (λ e t. unlike v p (shown_tells {m = 100000000} (omega arith) (number v) (pin p) h k t))
  where
    unlike : (v p : ℕ) → number v ≡ pin p → ⊥
    unlike v p h = let z : ◌≡◌ {A = ℕ} 0 1 = cc in omega arith

pub parts_same : (p q : List ℕ) → Bytes p → Bytes q → same (hex p) (hex q) ≡ same p q
parts_same p q h k =
    by_test (hex p) (hex q) (same p q) (λ e. ap hex (same_true p q e)) (λ e t. unlike (same p q) e (same_refl q) (hex_tells p q h k t))
  where
    unlike : (b : Bool) → same p q ≡ false → same q q ≡ true → p ≡ q → ⊥
    unlike b e f h = let z : same q q ≡ false = rw h at e in let y : ◌≡◌ {A = ℕ} 0 1 = cc in omega arith
