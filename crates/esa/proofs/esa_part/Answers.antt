-- `esa_part` meets its contract: the place of the part, or no place that is too large.
-- Assumes nothing.
use Rattle.format.specs.Answers.{rule_number}
use Rattle.reader.specs.PartPlace.{At, Refused}
use mathlib.Core.Path.{refl}
use native.Mathlib.Omega.{arith}
use Rattle.esa.proofs.Reading.{placed_for, at_bound, refused_bound}
use Rattle.esa.proofs.esa_part.Goals as goal

pub span-requires : goal.span-requires
span-requires c =
    let h = at_bound _ _ _ _ c.in-Ok.ensures refl in
    omega arith

pub refused-requires : goal.refused-requires
refused-requires c = omega (arith, refused_bound _ _ _ _ c.in-Err.ensures refl)

pub returns-in-Ok : goal.returns-in-Ok
returns-in-Ok c =
    rw (← c.settings_of.ensures)
    (placed_for _ _ _ (At c.in-Ok.span.place c.in-Ok.span.len) _ c.in-Ok.ensures refl _ c.span.ensures)

pub returns-in-Err : goal.returns-in-Err
returns-in-Err c =
    rw (← c.settings_of.ensures)
    (placed_for _ _ _ (Refused (rule_number c.in-Err.refusal.rule) c.in-Err.refusal.place) _ c.in-Err.ensures refl _ c.refused.ensures)
