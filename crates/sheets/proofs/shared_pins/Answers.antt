-- `shared_pins` meets its contract: its tests are the definition's.
-- Assumes nothing.
use Rattle.sheets.proofs.shared_pins.Goals as goal

pub returns-then-id : goal.returns-then-id
returns-then-id c = rw c.if-id.true c.bus_pins.ensures

pub returns-then-id-2 : goal.returns-then-id-2
returns-then-id-2 c = rw (c.if-id.false, c.if-id-2.true) c.own.ensures

pub returns : goal.returns
returns c = rw (c.if-id.false, c.if-id-2.false) c.own-2.ensures
