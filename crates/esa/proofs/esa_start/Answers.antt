-- `esa_start` meets its contract: the description is the one in the numbers, and no value is too large.
-- Assumes nothing.
use native.Mathlib.Omega.{arith}
use Rattle.esa.proofs.Joining.{start_bound, started_for}
use Rattle.esa.proofs.esa_start.Goals as goal

pub answer-requires : goal.answer-requires
answer-requires c = let b = start_bound _ _ _ _ _ c.start.ensures in omega arith

pub returns : goal.returns
returns c =
    rw (← c.chip_of-chip.ensures)
    (started_for _ _ _ _ _ _ _ c.description.ensures c.start.ensures c.answer.ensures)
