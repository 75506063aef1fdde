-- `laying::kinds::put_placed` meets its contract: the kind's own bytes are laid beside the placement.
-- Assumes nothing.
use native.Mathlib.Omega.{arith}
use Rattle.format.specs.Slots.{written}
use Rattle.format.specs.Layout.{placement}
use Rattle.laying.proofs.Laws.{overwritten_next}
use Rattle.laying.proofs.kinds.put_placed.Goals as goal

pub returns : goal.returns
returns c =
    let a = c.args in
    rw (c.copy_into-2.ensures, c.copy_into.ensures)
    (overwritten_next a.at (written (placement a.p)) a.buf.now (omega arith) a.own.now)
