-- `most_of` meets its contract, by the identifier.
-- Assumes nothing.
use native.Mathlib.Omega.{arith}
use mathlib.Core.Path.{refl}
use borrow.Author.Tests.{eq-eqb, ne_eqb}
use mathlib.Core.Path.{sym}
use Rattle.underway.proofs.most_of.Goals as goal

pub returns-then-id-eq9 : goal.returns-then-id-eq9
returns-then-id-eq9 c = (sym (rw (eq-eqb _ 9 c.if-id-eq9.true) refl), omega arith)

pub returns-then-id-eq10 : goal.returns-then-id-eq10
returns-then-id-eq10 c = (sym (rw (ne_eqb _ 9 c.if-id-eq9.false, eq-eqb _ 10 c.if-id-eq10.true) refl), omega arith)

pub returns-then-id-eq13 : goal.returns-then-id-eq13
returns-then-id-eq13 c = (
  sym (rw (ne_eqb _ 9 c.if-id-eq9.false, ne_eqb _ 10 c.if-id-eq10.false, eq-eqb _ 13 c.if-id-eq13.true) refl),
  omega arith,
)

pub returns-else-id-eq13 : goal.returns-else-id-eq13
returns-else-id-eq13 c = (
  sym (rw (ne_eqb _ 9 c.if-id-eq9.false, ne_eqb _ 10 c.if-id-eq10.false, ne_eqb _ 13 c.if-id-eq13.false) refl),
  omega arith,
)
