-- `external_roomy` meets its contract: the bus type and the address are tested, and the other numbers fit by their types.
-- Assumes nothing.
use native.Mathlib.Omega.{arith}
use Rattle.widths.proofs.Roomy.{external_roomy_lem}
use Rattle.widths.proofs.external_roomy.Goals as goal

pub returns : goal.returns
returns c =
    let f = c.well_formed.0.1.1 in
    let p = f.0.1.1.0 in
    external_roomy_lem c.args.x _ (omega (arith, p), omega (arith, p), omega (arith, p), omega (arith, p), omega (arith, p))
    (omega (arith, f.1.0))
    c.address_roomy.ensures
