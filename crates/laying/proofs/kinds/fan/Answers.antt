-- `laying::kinds::fan` meets its contract: the tachometer's byte is its place's, and the other numbers fit by their types.
-- Assumes nothing.
use native.Mathlib.Omega.{arith}
use mathlib.Core.Path.{refl}
use Rattle.laying.proofs.kinds.fan.Goals as goal

pub overflow_cast-own-4 : goal.overflow_cast-own-4
overflow_cast-own-4 c = record { fits = omega (arith, c.struct_known-4-1.given) }

pub returns : goal.returns
returns c =
    rw (c.put_placed.ensures, c.byte_of.ensures) refl
