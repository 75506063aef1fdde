-- `fan_roomy` meets its contract: the tachometer has room, and the other numbers fit by their types.
-- Assumes nothing.
use native.Mathlib.Omega.{arith}
use Rattle.widths.proofs.Roomy.{fan_roomy_lem}
use Rattle.widths.proofs.fan_roomy.Goals as goal

pub returns : goal.returns
returns c =
    let f = c.well_formed.0.1.1 in
    fan_roomy_lem c.args.f (omega (arith, f.0), omega (arith, f.0), omega (arith, f.0), omega (arith, f.0), omega (arith, f.0))
    (omega (arith, f.1.0)) c.pin_roomy.ensures (omega (arith, f.1.1.1.0)) (omega (arith, f.1.1.1.1.0))
    (omega (arith, f.1.1.1.1.1.0)) (omega (arith, f.1.1.1.1.1.1.0))
