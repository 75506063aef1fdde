-- `fields::address` meets its contract: the branch taken tells the test.
-- Assumes nothing.
use borrow.Author.Tests.{eq-eqb, ne_eqb}
use Rattle.fields.proofs.address.Goals as goal

pub returns-then-bus-eq3 : goal.returns-then-bus-eq3
returns-then-bus-eq3 c = rw (eq-eqb _ _ c.if-bus-eq3.true)

pub returns-else-bus-eq3 : goal.returns-else-bus-eq3
returns-else-bus-eq3 c = rw (ne_eqb _ _ c.if-bus-eq3.false)
