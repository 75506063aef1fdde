-- `controller_found` meets its contract: fixed bytes and part are judged apart, and joined.
-- Assumes nothing.
use mathlib.Core.Path.{refl}
use Rattle.found.proofs.Judging.{rest, controller_short, controller_judged}
use Rattle.found.proofs.controller_found.Goals as goal

pub returns-then-b-lt8 : goal.returns-then-b-lt8
returns-then-b-lt8 c = controller_short _ _ _ c.if-b-lt8.true refl

pub returns : goal.returns
returns c =
    let b = c.args.b.now in
    controller_judged _ b _ _ c.device_found.ensures c.if-b-lt8.false (rw (rest 8 b) at c.read_speed_blocks.ensures)
