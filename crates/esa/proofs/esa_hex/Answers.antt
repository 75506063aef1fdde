-- `esa_hex` meets its contract: no value is too large.
-- Assumes nothing.
use native.Mathlib.Omega.{arith}
use Rattle.format.specs.Answers.{told}
use Rattle.esa.proofs.Hex.{hex_bound}
use Rattle.esa.proofs.esa_hex.Goals as goal

pub answer-requires : goal.answer-requires
answer-requires c = let b = hex_bound _ _ _ _ _ c.to_hex.ensures in omega arith

pub returns : goal.returns
returns c =
    rw (← c.chip_of.ensures) (record { answer = told c.to_hex.result; moved = c.to_hex.ensures; number = c.answer.ensures })
