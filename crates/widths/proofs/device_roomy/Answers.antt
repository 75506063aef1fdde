-- `device_roomy` meets its contract: the bus type and the address are tested, and the placement fits by its types.
-- Assumes nothing.
use native.Mathlib.Omega.{arith}
use Rattle.widths.proofs.Roomy.{device_roomy_lem}
use Rattle.widths.proofs.device_roomy.Goals as goal

pub returns : goal.returns
returns c =
    let g = c.well_formed in
    device_roomy_lem c.args.d _ (omega arith, omega arith, omega arith, omega arith, omega arith) c.address_roomy.ensures
