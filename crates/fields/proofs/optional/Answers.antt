-- `fields::optional` meets its contract: the branch taken tells the test.
-- Assumes nothing.
use borrow.Author.Tests.{eq-eqb, ne_eqb}
use Rattle.fields.proofs.optional.Goals as goal

pub returns-then-b-eq255 : goal.returns-then-b-eq255
returns-then-b-eq255 c = rw (eq-eqb _ _ c.if-b-eq255.true)

pub returns-else-b-eq255 : goal.returns-else-b-eq255
returns-else-b-eq255 c = rw (ne_eqb _ _ c.if-b-eq255.false)
