-- `esa_rewrite` meets its contract: no value is too large.
-- Assumes nothing.
use native.Mathlib.Omega.{arith}
use Rattle.format.specs.Answers.{told}
use Rattle.esa.proofs.Joining.{rewrite_bound}
use Rattle.esa.proofs.esa_rewrite.Goals as goal

pub answer-requires : goal.answer-requires
answer-requires c = let b = rewrite_bound _ _ _ _ _ c.rewrite.ensures in omega arith

pub returns : goal.returns
returns c =
    rw (← c.chip_of.ensures)
    (record { answer = told c.rewrite.result; rewritten = c.rewrite.ensures; number = c.answer.ensures })
