-- `chip_of` meets its contract, by the bit.
-- Assumes nothing.
use mathlib.Core.Path.{sym, ap}
use borrow.Author.Tests.{eq-eqb, ne_eqb}
use Rattle.states.specs.Numbers.{pick_chip}
use Rattle.states.proofs.chip_of.Goals as goal

pub returns-then-code-eq0 : goal.returns-then-code-eq0
returns-then-code-eq0 c = sym (ap pick_chip (eq-eqb _ 0 c.if-code-eq0.true))

pub returns : goal.returns
returns c = sym (ap pick_chip (ne_eqb _ 0 c.if-code-eq0.false))
