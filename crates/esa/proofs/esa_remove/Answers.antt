-- `esa_remove` meets its contract: no value is too large.
-- Assumes nothing.
use native.Mathlib.Omega.{arith}
use Rattle.format.specs.Answers.{told}
use Rattle.removing.proofs.Accepted.{remove_bound}
use Rattle.esa.proofs.esa_remove.Goals as goal

pub answer-requires : goal.answer-requires
answer-requires c = let b = remove_bound _ _ _ _ _ c.remove.ensures in omega arith

pub returns : goal.returns
returns c =
    rw (← c.chip_of.ensures)
    (record { answer = told c.remove.result; removed = c.remove.ensures; number = c.answer.ensures })
