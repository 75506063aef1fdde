-- `fan` meets its contract: the tachometer's byte is its place's.
-- Assumes nothing.
use Rattle.shown.proofs.fan.Goals as goal

pub returns : goal.returns
returns c = rw (← c.byte_of.ensures) c.placed.ensures
