-- `waits` meets its contract: the header is not there, or the length that it gives is looked at.
-- Assumes nothing.
use mathlib.Core.Path.{refl, sym}
use Rattle.stream.proofs.Running.{waits_header}
use Rattle.closing.proofs.Pieces.{waits_is}
use Rattle.closing.proofs.waits.Goals as goal

pub returns-then-p-lt3 : goal.returns-then-p-lt3
returns-then-p-lt3 c = sym (waits_header c.args.p.now c.if-p-lt3.true)

pub returns : goal.returns
returns c = waits_is c.args.p.now
    (rw (c.from.ensures, c.from-2.ensures) refl) c.if-p-lt3.false
