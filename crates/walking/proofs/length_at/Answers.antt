-- `length_at` meets its contract: bytes 1-2 from a place are bytes 1-2 of what is left there.
-- Assumes nothing.
use lib.Seq.{get_or-drop}
use Rattle.walking.proofs.length_at.Goals as goal

pub returns : goal.returns
returns c =
    let a = c.args in
    rw (get_or-drop a.at a.t.now 1 0, get_or-drop a.at a.t.now 2 0, c.from.ensures, c.from-2.ensures)
