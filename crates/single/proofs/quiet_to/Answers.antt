-- `quiet_to` meets its contract: there is no such count, or it is before the element's last byte and the next that may decide something.
-- Assumes nothing.
use native.Mathlib.Omega.{arith}
use mathlib.Core.Path.{refl}
use Rattle.single.proofs.Quieting.{quiet_none, quiet_some}
use Rattle.single.proofs.quiet_to.Goals as goal

pub returns-then-u-lt3 : goal.returns-then-u-lt3
returns-then-u-lt3 c = quiet_none _ _ _

pub returns-then-told-u : goal.returns-then-told-u
returns-then-told-u c = quiet_none _ _ _

pub returns-then-end-u : goal.returns-then-end-u
returns-then-end-u c = quiet_none _ _ _

pub returns : goal.returns
returns c =
    let told = c.if-told-u.false in
    let end = c.min-end.ensures in
    quiet_some _ _ _ c.if-u-lt3.false c.from.ensures c.from-2.ensures refl c.next_of.ensures
    (omega (arith, told, end)) (omega (arith, end)) c.if-end-u.false (omega (arith, c.min.ensures)) (omega (arith, c.min.ensures))
