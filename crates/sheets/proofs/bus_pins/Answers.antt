-- `bus_pins` meets its contract: by its two cases.
-- Assumes nothing.
use borrow.Author.Tests.{eq-eqb, ne_eqb}
use Rattle.sheets.proofs.bus_pins.Goals as goal

pub returns-then-select-eq255 : goal.returns-then-select-eq255
returns-then-select-eq255 c = rw (eq-eqb _ _ c.if-select-eq255.true) c.own.ensures

pub returns-else-select-eq255 : goal.returns-else-select-eq255
returns-else-select-eq255 c = rw (ne_eqb _ _ c.if-select-eq255.false) c.own-else-select-eq255.ensures
