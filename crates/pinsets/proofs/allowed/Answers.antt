-- The test of a pin's bit in the row of its chip and use is the rule, by the table's law.
-- Assumes nothing.
use native.Mathlib.Omega.{arith}
use mathlib.Core.Path.{ap}
use mathlib.Core.Bool.{Bool, ◌&&◌}
use Rattle.format.specs.Pins.{same_chip}
use Rattle.pinsets.proofs.Rows.{same_derived, row_permits}
use Rattle.pinsets.proofs.allowed.Goals as goal

pub returns : goal.returns
returns c =
    let a = c.args in
    let p = a.p.0 in
    rw (c.eq.ensures, same_derived a.c a.p.1, c.row_of.ensures, c.bit_of.ensures)
    (ap (λ (t : Bool). same_chip a.c a.p.1 && t) (row_permits a.c a.u p (omega arith)))
