-- `from_hex` meets its contract: by what the walk said.
-- Assumes nothing.
use Rattle.fromhex.specs.FromHex.{malformed, sent}
use Rattle.fromhex.proofs.Ending.{said_bytes, said_bad}
use Rattle.fromhex.proofs.from_hex.Goals as goal

pub returns-in-Ok : goal.returns-in-Ok
returns-in-Ok c =
    let t = c.in-Ok.ensures in
    let s = said_bytes t.said in
    sent s.0 (c.moved_kept.ensures t.b s.1 t.holds)

pub returns-in-Err : goal.returns-in-Err
returns-in-Err c = rw c.at.ensures (malformed (said_bad c.in-Err.ensures.said))
