-- `led_roomy` meets its contract: the lamps are tested, and the other numbers fit by their types.
-- Assumes nothing.
use native.Mathlib.Omega.{arith}
use Rattle.widths.proofs.Roomy.{led_roomy_lem}
use Rattle.widths.proofs.led_roomy.Goals as goal

pub returns : goal.returns
returns c =
    let f = c.well_formed.0.1.1 in
    led_roomy_lem c.args.l (omega (arith, f.0), omega (arith, f.0), omega (arith, f.0), omega (arith, f.0), omega (arith, f.0))
    c.lamp_roomy.ensures c.lamp_roomy-2.ensures c.lamp_roomy-3.ensures
