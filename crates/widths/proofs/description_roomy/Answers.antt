-- `description_roomy` meets its contract: the pins have room, and the other numbers that are not tested fit by their types.
-- Assumes nothing.
use native.Mathlib.Omega.{arith}
use Rattle.widths.proofs.Roomy.{description_roomy_lem}
use Rattle.widths.proofs.description_roomy.Goals as goal

pub returns : goal.returns
returns c =
    let g = c.well_formed in
    description_roomy_lem c.args.d (omega arith) (omega arith) c.pin_roomy.ensures c.pin_roomy-2.ensures
    c.pin_roomy-3.ensures
