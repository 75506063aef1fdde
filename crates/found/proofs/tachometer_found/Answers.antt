-- `tachometer_found` meets its contract: fixed bytes and part are judged apart, and joined.
-- Assumes nothing.
use mathlib.Core.Path.{refl}
use Rattle.found.proofs.Judging.{rest, tachometer_short, tachometer_judged}
use Rattle.found.proofs.tachometer_found.Goals as goal

pub returns-then-b-lt9 : goal.returns-then-b-lt9
returns-then-b-lt9 c = tachometer_short _ _ _ c.if-b-lt9.true refl

pub returns : goal.returns
returns c =
    let b = c.args.b.now in
    tachometer_judged _ b _ _ c.device_found.ensures c.if-b-lt9.false (rw (rest 9 b) at c.pairs_blocks.ensures)
