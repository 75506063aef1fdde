-- `fields::led` meets its contract, by what each call ensures of its result.
-- Assumes nothing.
use Rattle.fields.proofs.led.Goals as goal

pub returns : goal.returns
returns c =
    rw (
      c.placement.ensures,
      c.lamp.ensures,
      c.lamp-2.ensures,
      c.lamp-3.ensures,
    )
