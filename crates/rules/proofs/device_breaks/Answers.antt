-- The tests are those of a controller with its blocks, of a tachometer and of an external RGB LED.
-- Assumes nothing.
use mathlib.Core.Path.{refl, sym}
use mathlib.Core.Bool.{and-true}
use Rattle.format.specs.Records.{controller, tachometer, external}
use Rattle.rules.proofs.device_breaks.Goals as goal

pub returns : goal.returns
returns c =
    let select = c.selected.ensures in
    let used = c.in_use.ensures in
    let bus = c.addressed in
    record {
      of_controller = λ bs s f. c.own_breaks.ensures _ (controller _ bs) (sym s) (rw (bus.ensures, f) refl) used select;
      of_tachometer = λ a b e. c.own_breaks.ensures _ (tachometer _ a b) refl (rw (e, and-true bus.result) bus.ensures) used select;
      of_external = λ i a b d f. c.own_breaks.ensures _ (external _ a b d) refl (rw (bus.ensures, f) refl) used select;
    }
