-- `note` meets its contract: the first place stays.
-- Assumes nothing.
use Rattle.firsts.proofs.Naming.{note_none, note_some}
use Rattle.firsts.proofs.note.Goals as goal

pub returns-then-l-i-eq0 : goal.returns-then-l-i-eq0
returns-then-l-i-eq0 c = let a = c.args in note_none a.l.now a.n a.at c.from-i.ensures
    c.if-l-i-eq0.true

pub returns-else-l-i-eq0 : goal.returns-else-l-i-eq0
returns-else-l-i-eq0 c = let a = c.args in note_some a.l.now a.n a.at c.from-i.ensures
    c.if-l-i-eq0.false
