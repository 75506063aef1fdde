-- `laying::flag_byte` meets its contract, by the branch that was taken; a number with room is below 128.
-- Assumes nothing.
use native.Mathlib.Omega.{arith}
use borrow.Author.Tests.{ltb-true}
use Rattle.laying.proofs.flag_byte.Goals as goal

pub overflow_add-result : goal.overflow_add-result
overflow_add-result c = record { fits = omega (arith, ltb-true c.args.v 128 c.requires) }

pub returns-then-t : goal.returns-then-t
returns-then-t c = rw c.if-t.true

pub returns-else-t : goal.returns-else-t
returns-else-t c = rw c.if-t.false (omega arith)
