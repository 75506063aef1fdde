-- `step` meets its contract: a count no farther than the second point gives at most 250 tenths, so the sum fits.
-- Assumes nothing.
use Prim.Native.Nat.{◌+◌, ◌*◌}
use native.Mathlib.Omega.{arith}
use native.Mathlib.Nat.{div-le_self}
use Rattle.converting.specs.Formula.{step}
use Rattle.converting.proofs.Rounding.{up_most}
use Rattle.converting.proofs.step.Goals as goal

pub overflow_add-result-2 : goal.overflow_add-result-2
overflow_add-result-2 c = omega (arith, div-le_self (2 * (250 * c.apart.result) + c.apart-d.result) (2 * c.apart-d.result))

pub overflow_cast-result : goal.overflow_cast-result
overflow_cast-result c = omega (arith, up_most c.apart.result c.apart-d.result (omega arith) (omega arith))

pub returns : goal.returns
unfolding step
returns c = (
  rw (← c.apart-d.ensures.0, ← c.apart.ensures.0),
  omega (arith, up_most c.apart.result c.apart-d.result (omega arith) (omega arith)),
)
