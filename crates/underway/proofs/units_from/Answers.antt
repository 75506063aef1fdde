-- `units_from` meets its contract, by whether the text has begun.
-- Assumes nothing.
use native.Mathlib.Omega.{arith}
use mathlib.Core.Path.{refl}
use Rattle.underway.proofs.units_from.Goals as goal

pub returns-then-u-lt6 : goal.returns-then-u-lt6
returns-then-u-lt6 c = record { early = λ _. (refl, refl, refl); late = λ h. absurd (omega (arith, c.if-u-lt6.true)); near = omega arith }

pub returns : goal.returns
returns c =
    let h = c.if-u-lt6.false in
    record { early = λ g. absurd (omega (arith, h, g)); late = λ _. (refl, refl, refl); near = omega arith }
