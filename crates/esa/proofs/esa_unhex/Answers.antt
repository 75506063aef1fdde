-- `esa_unhex` meets its contract: no value is too large.
-- Assumes nothing.
use native.Mathlib.Omega.{arith}
use Rattle.format.specs.Answers.{told}
use Rattle.esa.proofs.Hex.{unhex_bound}
use Rattle.esa.proofs.esa_unhex.Goals as goal

pub answer-requires : goal.answer-requires
answer-requires c = let b = unhex_bound _ _ _ _ _ c.from_hex.ensures in omega arith

pub returns : goal.returns
returns c =
    rw (← c.chip_of.ensures) (record { answer = told c.from_hex.result; moved = c.from_hex.ensures; number = c.answer.ensures })
