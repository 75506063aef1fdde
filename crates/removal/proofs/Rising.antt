-- The fan list under leaving elements out (2/14): pins that rise still rise with some left out, each after whichever comes before it then.
-- Assumes nothing.
use Prim.Native.Nat.{ℕ, ◌≤◌}
use native.Mathlib.Omega.{arith}
use mathlib.Core.Path.{◌≡◌, refl}
use mathlib.Core.Bool.{true}
use mathlib.Core.List.{List, [], ◌∷◌, ◌++◌}
use lib.Dec.{ltb}
use borrow.Author.Tests.{ltb-true, lt-ltb}
use Rattle.format.specs.FanList.{last_pin, comes_after, rise}
use Rattle.format.proofs.Kept.{and-true}
use Rattle.removal.specs.Parts.{Part, done, keep, leave}

-- after a lower pin
rise_lower : (p q : ℕ) (ps : List ℕ) → p ≤ q → rise q ps ≡ true → rise p ps ≡ true
rise_lower p q [] h e = refl
rise_lower p q (x ∷ ps) h e =
    let t = and-true (ltb q x) (rise x ps) e in
    simp (lt-ltb p x (omega (arith, h, ltb-true q x t.0)), t.1)

pub part_rise : (p : ℕ) {ps qs : List ℕ} → Part ℕ ps qs → rise p qs ≡ true → rise p ps ≡ true
part_rise p done h = refl
part_rise p (keep {x = x} {xs = ps} {ys = qs} t) h = let a = and-true (ltb p x) (rise x qs) h in simp (a.0, part_rise x t a.1)
part_rise p (leave {y = x} {xs = ps} {ys = qs} t) h =
    let a = and-true (ltb p x) (rise x qs) h in
    rise_lower p x ps (omega (arith, ltb-true p x a.0)) (part_rise x t a.1)

-- the first ones of pins that rise, and the others after them
pub rise_first : (p : ℕ) (ps qs : List ℕ) → rise p (ps ++ qs) ≡ true → comes_after p ps ≡ true
rise_first p [] qs h = refl
rise_first p (x ∷ ps) qs h = (and-true (ltb p x) (rise x (ps ++ qs)) h).0

pub rise_after : (p : ℕ) (ps qs : List ℕ) → rise p (ps ++ qs) ≡ true → rise (last_pin p ps) qs ≡ true
rise_after p [] qs h = h
rise_after p (x ∷ ps) qs h = rise_after x ps qs (and-true (ltb p x) (rise x (ps ++ qs)) h).1
