-- `lacks_one` meets its contract: below `i` the flags were searched.
-- Assumes nothing.
use native.Mathlib.Omega.{arith}
use mathlib.Core.Path.{◌≡◌}
use Rattle.flags.proofs.lacks_one.Goals as goal

pub returns : goal.returns
returns c =
    let l = c.loop-i in
    let e : l.i ≡ 256 = omega (arith, c.loop-i-test.false) in
    rw e at l.invariant
