-- Three pins that the rule permits, or unused.
-- Assumes nothing.
use Rattle.format.specs.declared.pins.Use.TheVariants.{StatusLed}
use Rattle.claims.proofs.Elements.{three_pins}
use Rattle.claims.proofs.led_claims.Goals as goal

pub returns : goal.returns
returns c =
    λ chip k.
    let l = c.args.l in
    c.three.ensures (three_pins chip StatusLed l.one.pin l.two.pin l.three.pin k)
