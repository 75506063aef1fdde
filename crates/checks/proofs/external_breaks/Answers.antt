-- `external_breaks` meets its contract: fixed fields, chip and part are judged apart, and joined.
-- Assumes nothing.
use Rattle.checks.proofs.Parting.{three_lists}
use Rattle.checks.proofs.external_breaks.Goals as goal

pub returns : goal.returns
returns c =
    let a = c.args in
    three_lists a.s a.x.device _ a.part.now c.device_breaks.ensures a.x.identifier
    c.pairs_blocks-blocks.ensures.0 c.identified.ensures
