-- `led` meets its contract: the byte of each lamp's pin.
-- Assumes nothing.
use Rattle.shown.proofs.led.Goals as goal

pub returns : goal.returns
returns c =
    rw (← c.byte_of-3.ensures, ← c.byte_of-2.ensures, ← c.byte_of.ensures) c.placed.ensures
