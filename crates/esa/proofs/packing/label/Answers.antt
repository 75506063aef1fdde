-- `packing::label` meets its contract, by whether there is a label.
-- Assumes nothing.
use native.Mathlib.Omega.{arith}
use Rattle.esa.proofs.packing.label.Goals as goal

pub called-requires : goal.called-requires
called-requires c = rw c.in-Ok.is at c.requires

pub refused-requires : goal.refused-requires
refused-requires c = omega (arith, rw c.in-Err.is at c.requires)

pub returns-in-Ok : goal.returns-in-Ok
returns-in-Ok c = rw c.in-Ok.is c.called.ensures

pub returns-in-Err : goal.returns-in-Err
returns-in-Err c = rw c.in-Err.is c.refused.ensures
