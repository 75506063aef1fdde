-- `esa_text` meets its contract: the text of a string, 0 for another element, or no place that is too large.
-- Assumes nothing.
use mathlib.Core.Path.{refl}
use native.Mathlib.Omega.{arith}
use Rattle.esa.proofs.Reading.{asked_bound, text_for, string_for, not_string_for}
use Rattle.esa.proofs.esa_text.Goals as goal

pub returns-then-id_of-ne12 : goal.returns-then-id_of-ne12
returns-then-id_of-ne12 c =
    rw (← c.settings_of-s.ensures)
    (not_string_for _ _ _ _ c.in-Ok.ensures refl
    c.id_of.ensures c.if-id_of-ne12.true)

pub refused-requires : goal.refused-requires
refused-requires c = omega (arith, asked_bound _ _ _ _ _ c.in-Err.ensures refl)

pub returns-else-id_of-ne12 : goal.returns-else-id_of-ne12
returns-else-id_of-ne12 c =
    rw (← c.settings_of-s.ensures)
    (string_for _ _ _ _ c.in-Ok.ensures refl c.id_of.ensures c.if-id_of-ne12.false c.text.ensures)

pub returns-in-Err : goal.returns-in-Err
returns-in-Err c =
    rw (← c.settings_of-s.ensures)
    (text_for _ _ _ _ _ c.in-Err.ensures refl _ c.refused.ensures)
