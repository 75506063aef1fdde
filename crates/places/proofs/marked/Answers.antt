-- `marked` meets its contract: by the question that is asked.
-- Assumes nothing.
use Rattle.places.proofs.marked.Goals as goal

pub returns-then-zone : goal.returns-then-zone
returns-then-zone c = λ x ns h m. rw c.if-zone.true (c.zone_marked.ensures x ns h m)

pub returns : goal.returns
returns c = λ x ns h m. rw c.if-zone.false (c.string_marked.ensures x ns h m)
