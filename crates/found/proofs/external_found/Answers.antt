-- `external_found` meets its contract: fixed bytes, chip and part are judged apart, and joined.
-- Assumes nothing.
use mathlib.Core.Path.{refl}
use Rattle.found.proofs.Judging.{rest, external_short, external_judged}
use Rattle.found.proofs.external_found.Goals as goal

pub returns-then-b-lt9 : goal.returns-then-b-lt9
returns-then-b-lt9 c = external_short _ _ _ c.if-b-lt9.true refl

pub returns : goal.returns
returns c =
    let b = c.args.b.now in
    external_judged _ b _ _ c.device_found.ensures c.if-b-lt9.false (rw (rest 9 b) at c.pairs_blocks-blocks.ensures.0)
    c.identified.ensures
