-- `sends` meets its contract: the line is spelled, and compared.
-- Assumes nothing.
use lib.ListN.{take}
use Rattle.fromhex.proofs.Judging.{begun}
use Rattle.fromhex.proofs.sends.Goals as goal

pub returns : goal.returns
returns c =
    let line = c.put_data-end in
    rw line.ensures.0.front at
    (begun c.args.text.now (take line.result line.new.out) c.starts_with.result c.starts_with.ensures.value)
