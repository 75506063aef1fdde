-- The number that a word is, digit by digit: what stands from digit i on makes the whole of the number so far.
-- Assumes nothing.
use Prim.Native.Nat.{ℕ, suc, ◌+◌, ◌*◌, ◌-◌, ◌<◌, ◌≤◌}
use native.Mathlib.Omega.{arith}
use mathlib.Core.Path.{◌≡◌, refl, sym, ◌∙◌}
use mathlib.Core.Bool.{Bool, true, false, ◌&&◌}
use Rattle.std.specs.Prelude.{None}
use mathlib.Core.List.{List, [], ◌∷◌}
use lib.ListN.{length, get_or, drop}
use lib.Seq.{drop-cons}
use borrow.Author.Tests.{le-ltb}
use Rattle.options.specs.Numerals.{all_digits, value_after, no_numeral, number_below}

-- a number grows with each digit
grows : (n : ℕ) (w : List ℕ) → n ≤ value_after n w
grows n [] = omega arith
grows n (b ∷ w) = omega (arith, grows (10 * n + (b - 48)) w)

and-false : (t : Bool) → t && false ≡ false
and-false true = refl
and-false false = refl

-- THE INVARIANT, at digit i
pub record Read (w : List ℕ) (limit n i : ℕ) : Type 0 where
  pub numeral : no_numeral w ≡ false
  pub within : i ≤ length w
  pub under : n < limit
  pub digits : all_digits w ≡ all_digits (drop i w)
  pub value : value_after 0 w ≡ value_after n (drop i w)

-- a number that has reached the limit stays there
pub too_large :
    (w : List ℕ) (limit n i : ℕ)
    → Read w limit n i
    → i < length w
    → {m : ℕ}
    → m ≡ 10 * n + (get_or w i 0 - 48)
    → limit ≤ m
    → None ≡ number_below limit w
too_large w limit n i r h {m} is l =
    let next : value_after 0 w ≡ value_after m (drop (suc i) w) = r.value ∙ rw (drop-cons w i 0 h, is) refl in
    let v : limit ≤ value_after 0 w = omega (arith, grows m (drop (suc i) w), next) in
    sym (rw (r.numeral, le-ltb (value_after 0 w) limit v, and-false (all_digits w)) refl)
