-- `packing::asked` meets its contract: each case has its number, and its identifier or place.
-- Assumes nothing.
use native.Mathlib.Omega.{arith}
use mathlib.Core.Path.{refl}
use Rattle.esa.proofs.packing.asked.Goals as goal

pub refused-requires : goal.refused-requires
refused-requires c = omega (arith, rw c.in-Err.is at c.requires)

pub returns-in-Ok : goal.returns-in-Ok
returns-in-Ok c = rw (
  c.in-Ok.is,
  c.pack.ensures,
  c.from.ensures,
  c.id_of.ensures,
) refl

pub returns-in-Err : goal.returns-in-Err
returns-in-Err c = rw c.in-Err.is c.refused.ensures
