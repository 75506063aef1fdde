-- The claims of the three pins after that of the fault LED.
-- Assumes nothing.
use native.Mathlib.Omega.{arith}
use mathlib.Core.List.{◌∷◌, []}
use Rattle.format.specs.Claims.{alone, claim, made_at}
use Rattle.claims.specs.Taken.{own_three}
use Rattle.format.specs.declared.pins.Use.TheVariants.{HardwareRevision}
use Rattle.claims.proofs.Elements.{three_pins}
use Rattle.claims.proofs.first_claims.Goals as goal

pub returns : goal.returns
returns c =
    λ chip k.
    let p = c.args.d.revision0 in
    let q = c.args.d.revision1 in
    let r = c.args.d.revision2 in
    c.claim.ensures
    (made_at 0 (claim alone 0x10 ∷ []))
    (own_three p q r)
    (omega arith)
    c.fault_led-led.ensures
    (c.three.ensures (three_pins chip HardwareRevision p q r k))
