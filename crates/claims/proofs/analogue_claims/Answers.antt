-- The shared reference, and the pin alone.
-- Assumes nothing.
use Rattle.format.specs.declared.pins.Use.TheVariants.{AnaloguePin}
use Rattle.claims.proofs.Elements.{allowed_listed, on_reference}
use Rattle.claims.proofs.analogue_claims.Goals as goal

pub returns : goal.returns
returns c =
    λ chip k.
    let p = c.args.p in
    rw c.bit_of.ensures (on_reference p.0 (allowed_listed chip AnaloguePin p k))
