-- `lead_of` meets its contract, by the identifier.
-- Assumes nothing.
use native.Mathlib.Omega.{arith}
use mathlib.Core.Path.{refl}
use borrow.Author.Tests.{eq-eqb, ne_eqb}
use mathlib.Core.Path.{sym}
use Rattle.underway.proofs.lead_of.Goals as goal

pub returns-then-id-eq9 : goal.returns-then-id-eq9
returns-then-id-eq9 c = (sym (rw (eq-eqb _ 9 c.if-id-eq9.true) refl), omega arith)

pub returns-else-id-eq9 : goal.returns-else-id-eq9
returns-else-id-eq9 c = (sym (rw (ne_eqb _ 9 c.if-id-eq9.false) refl), omega arith)
