-- `esa_fields` meets its contract: the numbers of element k, or no place that is too large.
-- Assumes nothing.
use native.Mathlib.Omega.{arith}
use mathlib.Core.Path.{refl}
use Rattle.esa.proofs.Reading.{gives_as, asked_bound, gives_beside, fields_for}
use Rattle.esa.proofs.esa_fields.Goals as goal

pub refused-requires : goal.refused-requires
refused-requires c = omega (arith, asked_bound _ _ _ _ _ c.in-Err.ensures refl)

pub returns-in-Ok : goal.returns-in-Ok
returns-in-Ok c =
    let g = c.in-Ok.ensures in
    rw (← c.settings_of-s.ensures)
    (fields_for _ _ _ _ _ g refl _ _ _ _ (gives_beside _ _ _ _ _ g refl _
    (λ i. omega (arith, c.type_inv.table i)) c.part.ensures)
    (rw (c.pack.ensures, c.from.ensures, c.id_of.ensures) refl)
    c.element-in-Ok.ensures)

pub returns-in-Err : goal.returns-in-Err
returns-in-Err c =
    let g = c.in-Err.ensures in
    rw (← c.settings_of-s.ensures)
    (fields_for _ _ _ _ _ g refl _ _ _ _ (gives_as _ _ _ _ _ g refl).gives c.refused.ensures refl)
