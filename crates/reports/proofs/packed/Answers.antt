-- `packed` meets its contract: each case has its number and value.
-- Assumes nothing.
use native.Mathlib.Omega.{arith}
use Rattle.reports.proofs.packed.Goals as goal

pub pack-requires : goal.pack-requires
pack-requires c = omega (arith, rw c.in-Ok.is at c.requires)

pub pack-requires-in-Err : goal.pack-requires-in-Err
pack-requires-in-Err c = omega (arith, rw c.in-Err.is at c.requires)

pub returns-in-Ok : goal.returns-in-Ok
returns-in-Ok c = rw c.in-Ok.is c.pack.ensures

pub returns-in-Err : goal.returns-in-Err
returns-in-Err c = rw c.in-Err.is c.pack-in-Err.ensures
