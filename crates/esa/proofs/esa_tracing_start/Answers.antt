-- `esa_tracing_start` meets its contract: no value is too large.
-- Assumes nothing.
use native.Mathlib.Omega.{arith}
use Rattle.format.specs.Answers.{told}
use Rattle.esa.proofs.Traces.{start_bound}
use Rattle.esa.proofs.esa_tracing_start.Goals as goal

pub answer-requires : goal.answer-requires
answer-requires c = let b = start_bound _ _ _ _ _ _ _ _ _ c.start.ensures in omega arith

pub returns : goal.returns
returns c =
    rw (← c.chip_of.ensures)
    (record { answer = told c.start.result; started = c.start.ensures; number = c.answer.ensures })
