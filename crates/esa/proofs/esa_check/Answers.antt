-- `esa_check` meets its contract: no value is too large.
-- Assumes nothing.
use native.Mathlib.Omega.{arith}
use Rattle.format.specs.Answers.{told}
use Rattle.reader.proofs.Bounds.{value_bound}
use Rattle.esa.proofs.esa_check.Goals as goal

pub answer-requires : goal.answer-requires
answer-requires c = let b = value_bound _ _ _ c.check.ensures in omega arith

pub returns : goal.returns
returns c =
    rw (← c.settings_of.ensures)
    (record { answer = told c.check.result; verdict = c.check.ensures; number = c.answer.ensures })
