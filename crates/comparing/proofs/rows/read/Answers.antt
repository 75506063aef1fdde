-- `read` meets its contract: the arm that was taken is the way's.
-- Assumes nothing.
use native.Mathlib.Omega.{arith}
use mathlib.Core.Path.{refl}
use borrow.Author.Tests.{eq-eqb, ne_eqb}
use Rattle.comparing.specs.Rows.{reading}
use Rattle.comparing.proofs.rows.read.Goals as goal

pub returns-in-Byte : goal.returns-in-Byte
unfolding reading
returns-in-Byte c = (rw c.in-Byte.is refl, omega arith)

pub returns-in-LowNibble : goal.returns-in-LowNibble
unfolding reading
returns-in-LowNibble c = (rw c.in-LowNibble.is refl, omega arith)

pub returns-in-HighNibble : goal.returns-in-HighNibble
unfolding reading
returns-in-HighNibble c = (rw c.in-HighNibble.is refl, omega arith)

pub returns-in-Word : goal.returns-in-Word
unfolding reading
returns-in-Word c = (rw c.in-Word.is refl, omega arith)

pub returns-in-Pin : goal.returns-in-Pin
unfolding reading
returns-in-Pin c = (rw c.in-Pin.is refl, omega arith)

pub returns-in-Triple : goal.returns-in-Triple
unfolding reading
returns-in-Triple c = (rw c.in-Triple.is refl, omega arith)

pub returns-in-TopBit : goal.returns-in-TopBit
unfolding reading
returns-in-TopBit c = (rw c.in-TopBit.is refl, omega arith)

pub returns-in-LowBits : goal.returns-in-LowBits
unfolding reading
returns-in-LowBits c = (rw c.in-LowBits.is refl, omega arith)

pub returns-then-x-eq3 : goal.returns-then-x-eq3
unfolding reading
returns-then-x-eq3 c = (rw (c.in-Address.is, eq-eqb _ 3 c.if-x-eq3.true) refl, omega arith)

pub returns-else-x-eq3 : goal.returns-else-x-eq3
unfolding reading
returns-else-x-eq3 c = (rw (c.in-Address.is, ne_eqb _ 3 c.if-x-eq3.false) refl, omega arith)
