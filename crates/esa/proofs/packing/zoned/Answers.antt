-- `packing::zoned` meets its contract: what was seen has its count and whether there is one, a refusal its number and place.
-- Assumes nothing.
use native.Mathlib.Omega.{arith}
use mathlib.Core.Bool.{Bool, true, false}
use mathlib.Core.Path.{◌≡◌, refl}
use Prim.Native.Nat.{◌≤◌}
use mir.Val.{bool_byte}
use Rattle.esa.specs.Fans.{one_if}
use Rattle.esa.proofs.packing.zoned.Goals as goal

-- a bool's byte is 1 or 0
as_one : (b : Bool) → (bool_byte b ≡ one_if b) × (bool_byte b ≤ 1)
as_one true = (refl, omega arith)
as_one false = (refl, omega arith)

pub overflow_mul-v : goal.overflow_mul-v
overflow_mul-v c = omega (arith, rw c.in-Ok.is at c.requires)

pub overflow_add-v : goal.overflow_add-v
overflow_add-v c =
    omega (arith, c.from.ensures, (as_one c.in-Ok.v.hit).1, rw c.in-Ok.is at c.requires)

pub pack-requires : goal.pack-requires
pack-requires c =
    omega (arith, c.from.ensures, (as_one c.in-Ok.v.hit).1, rw c.in-Ok.is at c.requires)

pub refused-requires : goal.refused-requires
refused-requires c = omega (arith, rw c.in-Err.is at c.requires)

pub returns-in-Ok : goal.returns-in-Ok
returns-in-Ok c = rw (c.in-Ok.is, c.pack.ensures, c.from.ensures, (as_one c.in-Ok.v.hit).0) refl

pub returns-in-Err : goal.returns-in-Err
returns-in-Err c = rw c.in-Err.is c.refused.ensures
