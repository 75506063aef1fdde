-- `pin_roomy` meets its contract: every byte has room.
-- Assumes nothing.
use native.Mathlib.Omega.{arith}
use mathlib.Core.Path.{refl, sym}
use borrow.Author.Tests.{lt-ltb}
use Rattle.widths.proofs.pin_roomy.Goals as goal

pub returns-in-None : goal.returns-in-None
returns-in-None c = rw c.in-None.is refl

pub returns-in-Some : goal.returns-in-Some
returns-in-Some c =
    let g = rw c.in-Some.is at c.well_formed in
    rw c.in-Some.is (sym (lt-ltb c.in-Some.field-0.0 256 (omega arith)))
