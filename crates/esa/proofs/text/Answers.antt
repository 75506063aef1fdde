-- `text` meets its contract: the text stands at byte 3 of the part.
-- Assumes nothing.
use Rattle.reader.specs.PartPlace.{At}
use native.Mathlib.Omega.{arith}
use mathlib.Core.Path.{refl, ap}
use lib.ListN.{length, length-drop}
use Rattle.esa.proofs.Reading.{text_placed, at_bound, refused_bound, refused_text, length_bound}
use Rattle.esa.proofs.text.Goals as goal

pub overflow_add-span : goal.overflow_add-span
overflow_add-span c = let h = at_bound _ _ _ _ c.in-Ok.ensures refl in omega arith

pub span-requires : goal.span-requires
span-requires c =
    let h = at_bound _ _ _ _ c.in-Ok.ensures refl in
    let part = c.part.result.now in
    omega (arith, length_bound _ _ _ part c.part.ensures, length-drop 3 part, ap length c.text-text.ensures)

pub refused-requires : goal.refused-requires
refused-requires c = omega (arith, refused_bound _ _ _ _ c.in-Err.ensures refl)

pub returns-in-Ok : goal.returns-in-Ok
returns-in-Ok c = text_placed _ _ _ (At c.in-Ok.span.place c.in-Ok.span.len) _ c.in-Ok.ensures refl c.part.result.now c.span.result c.part.ensures
    (rw (c.span.ensures, c.text-text.ensures) refl)

pub returns-in-Err : goal.returns-in-Err
returns-in-Err c = refused_text _ _ _ _ _ c.in-Err.ensures refl
    c.refused.ensures
