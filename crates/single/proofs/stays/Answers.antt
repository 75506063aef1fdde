-- `stays` meets its contract, by how much of the header is there.
-- Assumes nothing.
use native.Mathlib.Omega.{arith}
use Rattle.single.proofs.Adding.{stays_no, stays_header, stays_third, stays_later}
use Rattle.single.proofs.stays.Goals as goal

pub returns-then-had-lt2 : goal.returns-then-had-lt2
returns-then-had-lt2 c = stays_header _ _ _ c.if-had-lt2.true

pub returns-then-had-eq2 : goal.returns-then-had-eq2
returns-then-had-eq2 c = stays_third _ _ _ c.if-had-eq2.true c.from.ensures c.from-then-had-eq2.ensures

pub returns-then-told-had : goal.returns-then-told-had
returns-then-told-had c = stays_no _ _ _

pub returns : goal.returns
returns c =
    let l = c.if-had-lt2.false in
    let n = c.if-had-eq2.false in
    stays_later _ _ _ (omega arith) c.from-2.ensures c.from-3.ensures (omega arith) (omega arith)
    c.if-told-had.false
