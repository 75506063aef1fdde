-- `esa_append` meets its contract: the element is the one in the numbers, or none, and no value is too large.
-- Assumes nothing.
use native.Mathlib.Omega.{arith}
use Rattle.esa.proofs.Joining.{append_bound, appended_for, unknown_for}
use Rattle.esa.proofs.esa_append.Goals as goal

pub answer-requires : goal.answer-requires
answer-requires c = let b = append_bound _ _ _ _ _ _ c.append.ensures in omega arith

pub returns-in-Some : goal.returns-in-Some
returns-in-Some c =
    rw (← c.chip_of-chip.ensures)
    (appended_for _ _ _ _ _ _ c.element.ensures _ _ _ _ c.in-Some.is c.append.ensures c.answer.ensures)

pub returns-in-None : goal.returns-in-None
returns-in-None c =
    rw (← c.chip_of-chip.ensures)
    (unknown_for _ _ _ _ _ _ c.element.ensures c.in-None.is)
