-- `line` meets its contract: its test is the definition's.
-- Assumes nothing.
use Rattle.sheets.proofs.line.Goals as goal

pub returns-then-old-pin : goal.returns-then-old-pin
returns-then-old-pin c = rw c.if-old-pin.true

pub returns-else-old-pin : goal.returns-else-old-pin
returns-else-old-pin c = rw c.if-old-pin.false
