-- `packing::called` meets its contract: each case has its slice, place and length.
-- Assumes nothing.
use native.Mathlib.Omega.{arith}
use mathlib.Core.Path.{refl}
use Rattle.esa.proofs.packing.called.Goals as goal

pub within-requires : goal.within-requires
within-requires c = omega (arith, rw c.in-Text.is at c.requires)

pub within-requires-in-Lent : goal.within-requires-in-Lent
within-requires-in-Lent c = (omega arith, omega arith, c.shown.ensures.1)

pub returns-in-Text : goal.returns-in-Text
returns-in-Text c = rw c.in-Text.is c.within.ensures

pub returns-in-Lent : goal.returns-in-Lent
returns-in-Lent c = rw (c.in-Lent.is, c.within-in-Lent.ensures, c.shown.ensures.0) refl
