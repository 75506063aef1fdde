-- `packing::shown` meets its contract, by the test.
-- Assumes nothing.
use native.Mathlib.Omega.{arith}
use mathlib.Core.Path.{refl}
use borrow.Author.Tests.{lt-ltb, le-ltb}
use Rattle.esa.proofs.packing.shown.Goals as goal

pub returns-then-len-lt16777216 : goal.returns-then-len-lt16777216
returns-then-len-lt16777216 c = (rw (lt-ltb _ _ c.if-len-lt16777216.true) refl, c.if-len-lt16777216.true)

pub returns-else-len-lt16777216 : goal.returns-else-len-lt16777216
returns-else-len-lt16777216 c = (rw (le-ltb _ _ c.if-len-lt16777216.false) refl, omega arith)
