-- `unless_empty` meets its contract, by the branch that was taken.
-- Assumes nothing.
use mathlib.Core.Path.{refl}
use borrow.Author.Tests.{eq-eqb, ne_eqb}
use Rattle.checks.proofs.unless_empty.Goals as goal

pub returns-then-part-eq0 : goal.returns-then-part-eq0
returns-then-part-eq0 c = rw (eq-eqb _ 0 c.if-part-eq0.true) refl

pub returns-else-part-eq0 : goal.returns-else-part-eq0
returns-else-part-eq0 c = rw (ne_eqb _ 0 c.if-part-eq0.false) refl
