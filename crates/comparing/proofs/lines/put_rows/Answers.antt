-- `put_rows` meets its contract: a row a turn.
-- Assumes nothing.
use native.Mathlib.Omega.{arith}
use mathlib.Core.Path.{refl}
use Rattle.comparing.proofs.Lined.{rows_begun, rows_room, row_turned, rows_ended}
use Rattle.comparing.proofs.lines.put_rows.Goals as goal

pub loop-i-init : goal.loop-i-init
loop-i-init c = rows_begun _ _ _ _ _ _ _ _ c.requires.3 refl

pub put_row-end-requires : goal.put_row-end-requires
put_row-end-requires c =
    let a = c.args in
    let r = rows_room a.one.now a.two.now a.a a.b c.loop-i.invariant in
    (omega (arith, r, c.requires), c.requires.1, c.requires.2, omega (arith, c.loop-i-test.true, c.requires))

pub loop-i-preserved : goal.loop-i-preserved
loop-i-preserved c =
    row_turned _ _ _ _ c.loop-i.invariant c.loop-i-test.true c.put_row-end.ensures

pub returns : goal.returns
returns c = rows_ended _ _ _ _ c.loop-i.invariant c.loop-i-test.false
