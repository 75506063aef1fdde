-- `analogue_roomy` meets its contract: the thermal type is tested, and the other numbers fit by their types.
-- Assumes nothing.
use native.Mathlib.Omega.{arith}
use Rattle.widths.proofs.Roomy.{analogue_roomy_lem}
use Rattle.widths.proofs.analogue_roomy.Goals as goal

pub returns : goal.returns
returns c =
    let g = c.struct_known-1.given in
    analogue_roomy_lem c.args.a (omega (arith, g), omega (arith, g), omega (arith, g), omega (arith, g), omega (arith, g))
    (omega (arith, g)) (omega (arith, g)) (omega (arith, g)) (omega (arith, g)) (omega (arith, g)) (omega (arith, g))
