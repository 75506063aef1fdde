-- `digital_roomy` meets its contract: the bus type and the address are tested, and the other numbers fit by their types.
-- Assumes nothing.
use native.Mathlib.Omega.{arith}
use Rattle.widths.proofs.Roomy.{digital_roomy_lem}
use Rattle.widths.proofs.digital_roomy.Goals as goal

pub returns : goal.returns
returns c =
    let f = c.well_formed.0.1.1 in
    digital_roomy_lem c.args.d _
    (omega (arith, f.0), omega (arith, f.0), omega (arith, f.0), omega (arith, f.0), omega (arith, f.0))
    (omega (arith, f.1.1.1.0)) (omega (arith, f.1.1.1.1.0)) (omega (arith, f.1.1.1.1.1.0))
    (omega (arith, f.1.1.1.1.1.1.0)) (omega (arith, f.1.1.1.1.1.1.1.0)) (omega (arith, f.1.1.1.1.1.1.1.1.0))
    c.address_roomy.ensures
