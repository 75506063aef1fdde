-- The temperature rises with the count where the calibration rises, and falls where it falls: one induction along the points.
-- Assumes nothing.
use Prim.Native.Nat.{ℕ, ◌+◌, ◌*◌, ◌/◌, ◌<◌, ◌≤◌}
use native.Mathlib.Omega.{arith}
use mathlib.Core.Path.{◌≡◌, refl, sym, ◌∙◌}
use mathlib.Core.Bool.{Bool, true, false, cond, false≢true}
use mathlib.Core.List.{List, [], ◌∷◌}
use borrow.Author.Tests.{ltb-true, ltb-false, lt-ltb, le-ltb}
use Rattle.std.specs.Prelude.{Result, Ok}
use Rattle.converting.specs.Outcomes.{tenths}
use Rattle.converting.specs.Conversions.{points, apart, after, strict, Temperature}
use Rattle.converting.specs.Formula.{step, walk, course}
use Rattle.converting.specs.Hotter.{NotHotter, from_under, to_over, by_tenths}
use Rattle.format.specs.declared.answers.Rule.{Rule}
use Rattle.converting.specs.declared.Converted.{Converted}
use Rattle.converting.specs.declared.Converted.TheVariants.{Under}
use Rattle.converting.specs.declared.Calibration.{Calibration}
use Rattle.converting.proofs.Rounding.{divided, at_most, up_most}
use Rattle.converting.proofs.Walking.{apart_pos, not_both, chain, course_meets, temperature_unique}
use Rattle.converting.proofs.Interval.{nearer}

-- farther from the first point, no colder
step_rises : (s a b c d : ℕ) → 0 < apart a b → apart a c ≤ apart a d → step s a b c ≤ step s a b d
unfolding step
step_rises s a b c d pos far =
    let x = divided (2 * (250 * apart a c) + apart a b) {d = 2 * apart a b} (omega arith) in
    let y = divided (2 * (250 * apart a d) + apart a b) {d = 2 * apart a b} (omega arith) in
    let q : (2 * (250 * apart a c) + apart a b) / (2 * apart a b) ≤ (2 * (250 * apart a d) + apart a b) / (2 * apart a b) =
    at_most (2 * (250 * apart a d) + apart a b) (2 * apart a b) _ _ (omega (arith, x.fits)) y.full
    in
    omega arith

-- no colder than the first point, no hotter than the second
step_least : (m s a b c : ℕ) → m ≤ s → m ≤ step s a b c
unfolding step
step_least m s a b c h = omega arith

step_most : (s a b c : ℕ) → 0 < apart a b → apart a c ≤ apart a b → step s a b c ≤ s + 250
unfolding step
step_most s a b c pos near = omega (arith, up_most (apart a c) (apart a b) pos near)

-- d does not come before c
module _ (up : Bool) (c d : ℕ) (order : after up d c ≡ false) where
  farther : (a : ℕ) → after up c a ≡ false → apart a c ≤ apart a d
  farther a h = by_way up h order
    where
      by_way : (up : Bool) → after up c a ≡ false → after up d c ≡ false → apart a c ≤ apart a d
      by_way true h o = omega (arith, ltb-false)
      by_way false h o = omega (arith, ltb-false)

  beyond_too : (a : ℕ) → after up a c ≡ true → after up a d ≡ true
  beyond_too a h = by_way up h order
    where
      by_way : (up : Bool) → after up a c ≡ true → after up d c ≡ false → after up a d ≡ true
      by_way true h o = lt-ltb a d (omega (arith, ltb-true, ltb-false))
      by_way false h o = lt-ltb d a (omega (arith, ltb-true, ltb-false))

  before_too : (a : ℕ) → after up d a ≡ true → after up c a ≡ true
  before_too a h = by_way up h order
    where
      by_way : (up : Bool) → after up d a ≡ true → after up d c ≡ false → after up c a ≡ true
      by_way true h o = lt-ltb c a (omega (arith, ltb-true, ltb-false))
      by_way false h o = lt-ltb a c (omega (arith, ltb-true, ltb-false))

  -- the walk from s tenths on gives s at least
  at_least : (m s : ℕ) (ps : List ℕ) → m ≤ s → NotHotter (tenths m) (walk up s ps d)
  at_least m s [] h = to_over
  at_least m s (a ∷ []) h = to_over
  at_least m s (a ∷ b ∷ ps) h = by_test (after up b d) (at_least m (s + 250) (b ∷ ps) (omega arith))
    where
      by_test :
          (t : Bool)
          → NotHotter (tenths m) (walk up (s + 250) (b ∷ ps) d)
          → NotHotter (tenths m) (cond t (walk up (s + 250) (b ∷ ps) d) (tenths (step s a b d)))
      by_test true go = go
      by_test false go = by_tenths (step_least m s a b d h)

  walk_rises :
      (s a : ℕ) (ps : List ℕ)
      → strict up (a ∷ ps) ≡ true
      → after up c a ≡ false
      → NotHotter (walk up s (a ∷ ps) c) (walk up s (a ∷ ps) d)
  walk_rises s a [] str h = to_over
  walk_rises s a (b ∷ ps) str h = by_tests (after up b c) (after up b d) refl refl (walk_rises (s + 250) b ps (chain up a b ps str).1)
    where
      by_tests :
          (t u : Bool)
          → after up b c ≡ t
          → after up b d ≡ u
          → (after up c b ≡ false → NotHotter (walk up (s + 250) (b ∷ ps) c) (walk up (s + 250) (b ∷ ps) d))
          → NotHotter
          (cond t (walk up (s + 250) (b ∷ ps) c) (tenths (step s a b c)))
          (cond u (walk up (s + 250) (b ∷ ps) d) (tenths (step s a b d)))
      by_tests true true e f go = go (not_both up b c e)
      by_tests true false e f go = absurd (false≢true (sym f ∙ beyond_too b e))
      by_tests false true e f go =
          let on = (chain up a b ps str).0 in
          at_least (step s a b c) (s + 250) (b ∷ ps) (step_most s a b c (apart_pos up a b on) (nearer up a b c h e))
      by_tests false false e f go = by_tenths (step_rises s a b c d (apart_pos up a b (chain up a b ps str).0) (farther a h))

  course_rises : (a : ℕ) (ps : List ℕ) → strict up (a ∷ ps) ≡ true → NotHotter (course up (a ∷ ps) c) (course up (a ∷ ps) d)
  course_rises a ps str = by_tests (after up c a) (after up d a) refl refl
    where
      by_tests :
          (t u : Bool)
          → after up c a ≡ t
          → after up d a ≡ u
          → NotHotter (cond t (Ok Under) (walk up 0 (a ∷ ps) c)) (cond u (Ok Under) (walk up 0 (a ∷ ps) d))
      by_tests true u e f = from_under
      by_tests false true e f = absurd (false≢true (sym e ∙ before_too a f))
      by_tests false false e f = walk_rises 0 a ps str e

-- along the calibration, whichever way it goes
along :
    {p : Calibration} {c d : ℕ} {r q : Result Converted Rule} (up : Bool)
    → strict up (points p) ≡ true
    → after up d c ≡ false
    → c ≤ 1023
    → d ≤ 1023
    → Temperature p c r
    → Temperature p d q
    → NotHotter r q
along {p} {c} {d} up str order l m x y =
    rw (temperature_unique x (course_meets up l str), temperature_unique y (course_meets up m str))
    (course_rises up c d order p.at0.0 (p.at25.0 ∷ p.at50.0 ∷ p.at75.0 ∷ p.at100.0 ∷ []) str)

-- of two counts the greater is no colder where the calibration rises, and no hotter where it falls
module _ {p : Calibration} {c d : ℕ} {r q : Result Converted Rule} (order : c ≤ d) (scale : d ≤ 1023) (x : Temperature p c r)
    (y : Temperature p d q) where
  pub rises : strict true (points p) ≡ true → NotHotter r q
  rises str = along true str (le-ltb d c order) (omega arith) scale x y

  pub falls : strict false (points p) ≡ true → NotHotter q r
  falls str = along false str (le-ltb d c order) scale (omega arith) y x
