-- `laying::kinds::analogue` meets its contract: the high byte of a number of two bytes is below 256.
-- Assumes nothing.
use native.Mathlib.Omega.{arith}
use Rattle.laying.proofs.kinds.analogue.Goals as goal

pub overflow_cast-own-6 : goal.overflow_cast-own-6
overflow_cast-own-6 c = record { fits = omega (arith, c.struct_known-6-1.given) }

pub overflow_cast-own-8 : goal.overflow_cast-own-8
overflow_cast-own-8 c = record { fits = omega (arith, c.struct_known-8-1.given) }

pub overflow_cast-own-10 : goal.overflow_cast-own-10
overflow_cast-own-10 c = record { fits = omega (arith, c.struct_known-10-1.given) }

pub put_placed-requires : goal.put_placed-requires
put_placed-requires c =
    omega (arith, c.requires.inside)
