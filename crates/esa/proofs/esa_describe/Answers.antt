-- `esa_describe` meets its contract: the numbers of the description, or no place that is too large.
-- Assumes nothing.
use native.Mathlib.Omega.{arith}
use mathlib.Core.Path.{refl}
use Rattle.esa.proofs.Reading.{described_bound, described_for}
use Rattle.esa.proofs.esa_describe.Goals as goal

pub refused-requires : goal.refused-requires
refused-requires c = omega (arith, described_bound _ _ _ _ c.in-Err.ensures refl)

pub returns-in-Ok : goal.returns-in-Ok
returns-in-Ok c =
    rw (← c.settings_of-s.ensures)
    (described_for _ _ _ _ c.in-Ok.ensures refl _ _ _ refl
    c.description-in-Ok.ensures)

pub returns-in-Err : goal.returns-in-Err
returns-in-Err c =
    rw (← c.settings_of-s.ensures)
    (described_for _ _ _ _ c.in-Err.ensures refl _ _ _
    c.refused.ensures refl)
