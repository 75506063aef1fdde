-- `voltage` meets its contract: by its two cases, and what is between two bytes is one.
-- Assumes nothing.
use native.Mathlib.Omega.{arith}
use Rattle.converting.specs.Conversions.Linear.{past, read}
use Rattle.converting.proofs.Rounding.{within}
use Rattle.converting.proofs.voltage.Goals as goal

pub returns-then-count-gt1023 : goal.returns-then-count-gt1023
returns-then-count-gt1023 c = past c.if-count-gt1023.true

pub overflow_cast-result : goal.overflow_cast-result
overflow_cast-result c = omega (arith, within {m = 255} (omega arith) (omega arith) c.if-count-gt1023.false c.between.ensures)

pub returns : goal.returns
returns c = read c.if-count-gt1023.false (rw (c.from.ensures, c.from-2.ensures) at c.between.ensures)
