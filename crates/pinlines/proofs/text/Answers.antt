-- `text` meets its contract: at each turn the line of one pin.
-- Assumes nothing.
use native.Mathlib.Omega.{arith}
use mathlib.Core.Path.{refl}
use Rattle.pinlines.proofs.Lining.{begun, room, turned, whole}
use Rattle.pinlines.proofs.text.Goals as goal

pub loop-i-init : goal.loop-i-init
loop-i-init c = begun _ _ _

pub put_on_chip-end-requires : goal.put_on_chip-end-requires
put_on_chip-end-requires c =
    omega (arith, room _ _ _ _ _ _ c.loop-i.invariant c.loop-i-test.true, c.put_on_chip-arg-1.given)

pub loop-i-preserved : goal.loop-i-preserved
loop-i-preserved c =
    turned _ _ _ _ _ _ c.loop-i.invariant _ c.loop-i-test.true c.pin_at.ensures refl c.put_on_chip-end.ensures

pub returns : goal.returns
returns c = whole _ _ _ _ _ _ c.loop-i.invariant c.loop-i-test.false
