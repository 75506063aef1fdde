-- `put` meets its contract: a number a field, and sets of pins are words of 32 bits.
-- Assumes nothing.
use native.Mathlib.Omega.{arith}
use mathlib.Core.Path.{refl}
use Rattle.states.proofs.Settled.{way_back}
use Rattle.states.proofs.put.Goals as goal

pub returns : goal.returns
returns c =
    let a = c.long.ensures in
    let b = c.long-2.ensures in
    (rw (b.0, a.0) refl, rw (b.0, a.0) (way_back 0 0 0 _ (omega (arith, a)) (omega (arith, b))))
