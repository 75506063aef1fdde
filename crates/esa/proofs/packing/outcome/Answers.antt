-- `packing::outcome` meets its contract: the text has its length, a refusal its number, its place and its table.
-- Assumes nothing.
use native.Mathlib.Omega.{arith}
use mathlib.Core.Path.{refl}
use Rattle.esa.proofs.packing.outcome.Goals as goal

pub pack-requires : goal.pack-requires
pack-requires c = omega (arith, rw c.in-Ok.is at c.requires)

pub overflow_mul-place : goal.overflow_mul-place
overflow_mul-place c = omega (arith, c.from.ensures, c.number.ensures, rw c.in-Err.is at c.requires)

pub overflow_add-place : goal.overflow_add-place
overflow_add-place c = omega (arith, c.from.ensures, c.number.ensures, rw c.in-Err.is at c.requires)

pub pack-requires-in-Err : goal.pack-requires-in-Err
pack-requires-in-Err c = omega (arith, c.from.ensures, c.number.ensures, rw c.in-Err.is at c.requires)

pub returns-in-Ok : goal.returns-in-Ok
returns-in-Ok c = rw c.in-Ok.is c.pack.ensures

pub returns-in-Err : goal.returns-in-Err
returns-in-Err c =
    rw (c.in-Err.is, c.pack-in-Err.ensures, c.from.ensures, c.number.ensures, c.number-in-Err.ensures) refl
