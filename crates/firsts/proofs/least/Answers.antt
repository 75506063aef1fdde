-- `least` meets its contract: below `i` the least place was found.
-- Assumes nothing.
use native.Mathlib.Omega.{arith}
use mathlib.Core.Path.{◌≡◌}
use Rattle.firsts.proofs.Searching.{least_none, least_turn}
use Rattle.firsts.proofs.least.Goals as goal

pub loop-i-init : goal.loop-i-init
loop-i-init c = least_none _ _

pub loop-i-preserved : goal.loop-i-preserved
loop-i-preserved c =
    let l = c.loop-i in
    least_turn _ _ _ _ _ l.invariant c.better-best.ensures

pub returns : goal.returns
returns c =
    let l = c.loop-i in
    let e : l.i ≡ 256 = omega (arith, c.loop-i-test.false) in
    rw e at l.invariant
