-- `place` meets its contract: element k of the one list, 17, or the table's refusal.
-- Assumes nothing.
use Rattle.format.specs.Asked.{ungiven}
use Rattle.reader.proofs.Asking.{gives_past}
use Rattle.reader.proofs.place.Goals as goal

pub returns-in_default : goal.returns-in_default
returns-in_default c = rw c.in_default.is (ungiven (rw c.in_default.is at c.read-answer.ensures))

pub returns-then-n-k : goal.returns-then-n-k
returns-then-n-k c = rw c.at.ensures (gives_past _ _ _ (rw c.in-Ok.is at c.read-answer.ensures) c.if-n-k.true)

pub place_of-requires : goal.place_of-requires
place_of-requires c = (_, _, rw c.in-Ok.is at c.read-answer.ensures, c.if-n-k.false)

pub returns : goal.returns
returns c = c.place_of.ensures _ _ (rw c.in-Ok.is at c.read-answer.ensures) c.if-n-k.false
