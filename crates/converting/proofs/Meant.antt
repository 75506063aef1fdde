-- A temperature as one number: what it means is what the formula gives.
-- Assumes nothing.
use Prim.Native.Nat.{ℕ, ◌≤◌}
use mathlib.Core.Path.{◌≡◌}
use mathlib.Core.Bool.{true, false}
use borrow.Author.Tests.{le-leb, le-ltb}
use Rattle.std.specs.Prelude.{Result}
use Rattle.converting.specs.Outcomes.{tenths}
use Rattle.converting.specs.Conversions.{points, strict, Temperature}
use Rattle.converting.specs.Formula.{temperature_of, meant}
use Rattle.format.specs.declared.answers.Rule.{Rule}
use Rattle.converting.specs.declared.Converted.{Converted}
use Rattle.converting.specs.declared.Calibration.{Calibration}
use Rattle.converting.proofs.Walking.{temperature_meets}

pub meant_tenths : (x : ℕ) → x ≤ 1000 → meant x ≡ tenths x
unfolding meant
meant_tenths x h = rw (le-leb x 1000 h)

-- a calibration that goes neither way
pub meant_bent :
    (p : Calibration) (c : ℕ)
    → c ≤ 1023
    → strict true (points p) ≡ false
    → strict false (points p) ≡ false
    → meant 1003 ≡ temperature_of p c
unfolding meant temperature_of
meant_bent p c l h k = rw (le-ltb 1023 c l, h, k)

pub meant_meets : (p : Calibration) (c x : ℕ) {r : Result Converted Rule} → r ≡ meant x → meant x ≡ temperature_of p c → Temperature p c r
meant_meets p c x e f = rw (e, f) (temperature_meets p c)
