-- `judge` meets its contract: the table's refusal, 17, 22, or where element k stands and how long it is.
-- Assumes nothing.
use native.Mathlib.Omega.{arith}
use Rattle.removing.specs.Removed.{refused}
use Rattle.removing.proofs.Judging.{past_last, standing, stays, goes}
use Rattle.removing.proofs.judge.Goals as goal

pub returns-in_default : goal.returns-in_default
returns-in_default c = refused (rw c.unwrap_err.ensures at c.check-answer.ensures)

pub returns-then-n-k : goal.returns-then-n-k
returns-then-n-k c =
    rw c.at.ensures (past_last _ _ _ (rw c.in-Ok.is at c.check-answer.ensures) c.if-n-k.true)

pub place_of-at-requires : goal.place_of-at-requires
place_of-at-requires c =
    (_, _, rw c.in-Ok.is at c.check-answer.ensures, c.if-n-k.false)

pub still_named-requires : goal.still_named-requires
still_named-requires c =
    standing _ _ _ _ (c.place_of-at.ensures _ _ (rw c.in-Ok.is at c.check-answer.ensures) c.if-n-k.false)

pub returns-then-still_named : goal.returns-then-still_named
returns-then-still_named c =
    let l = c.place_of-at.ensures _ _ (rw c.in-Ok.is at c.check-answer.ensures) c.if-n-k.false in
    rw c.at-then-still_named.ensures (stays _ _ _ _ l _ c.still_named.ensures c.if-still_named.true)

pub length_at-len-requires : goal.length_at-len-requires
length_at-len-requires c =
    let l = c.place_of-at.ensures _ _ (rw c.in-Ok.is at c.check-answer.ensures) c.if-n-k.false in
    omega (arith, l.here.size, l.here.within)

pub returns : goal.returns
returns c =
    let l = c.place_of-at.ensures _ _ (rw c.in-Ok.is at c.check-answer.ensures) c.if-n-k.false in
    goes _ _ _ _ l _ c.still_named.ensures c.if-still_named.false c.length_at-len.ensures
