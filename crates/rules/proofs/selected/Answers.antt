-- The test is the rule's: a chip select is looked up, by what `allowed` ensures.
-- Assumes nothing.
use Rattle.rules.proofs.selected.Goals as goal

pub returns-in-Select : goal.returns-in-Select
returns-in-Select c = rw (c.in-Select.is, c.allowed.ensures)
