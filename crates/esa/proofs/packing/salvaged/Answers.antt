-- `packing::salvaged` meets its contract: both lengths, or a refusal with its place.
-- Assumes nothing.
use native.Mathlib.Omega.{arith}
use Rattle.esa.proofs.packing.salvaged.Goals as goal

pub overflow_mul-l : goal.overflow_mul-l
overflow_mul-l c = omega (arith, rw c.in-Ok.is at c.requires)

pub overflow_add-l : goal.overflow_add-l
overflow_add-l c = omega (arith, rw c.in-Ok.is at c.requires)

pub pack-requires : goal.pack-requires
pack-requires c = omega (arith, rw c.in-Ok.is at c.requires)

pub refused-requires : goal.refused-requires
refused-requires c = omega (arith, rw c.in-Err.is at c.requires)

pub returns-in-Ok : goal.returns-in-Ok
returns-in-Ok c = rw c.in-Ok.is c.pack.ensures

pub returns-in-Err : goal.returns-in-Err
returns-in-Err c = rw c.in-Err.is c.refused.ensures
