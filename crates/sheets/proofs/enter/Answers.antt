-- `enter` meets its contract: each turn enters one number.
-- Assumes nothing.
use mathlib.Core.Path.{refl}
use Rattle.sheets.proofs.Entering.{begun, go_on, ended}
use Rattle.sheets.proofs.enter.Goals as goal

pub loop-i-init : goal.loop-i-init
loop-i-init c = begun _ _ _ _ refl

pub loop-i-preserved : goal.loop-i-preserved
loop-i-preserved c =
    go_on _ _ _ _ _ c.loop-i.invariant _ c.loop-i-test.true c.pin_at.ensures c.line.ensures

pub returns : goal.returns
returns c = ended _ _ _ _ _ c.loop-i.invariant c.loop-i-test.false c.requires
