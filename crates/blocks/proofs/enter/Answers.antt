-- `enter` meets its contract: by whether an ENTRIES byte is there.
-- Assumes nothing.
use native.Mathlib.Omega.{arith}
use Rattle.blocks.proofs.Stepping.{past, still}
use Rattle.blocks.proofs.enter.Goals as goal
use Rattle.blocks.proofs.enter.Goals.{then-there, else-there}

pub returns : goal.returns
returns c =
    let a = c.args in
    elim c.if-there.branch [
      | then-there w ↦
          past a.there a.lead a.c _ w.from.result a.entries c.requires.0 w.if-there.true w.from.ensures (omega arith) w.next-is
      | else-there w ↦ still a.there a.lead a.c _ a.entries w.if-there.false w.next-is
    ]
