-- `element_at` meets its contract: the bytes after the header are decoded as the record that stands there.
-- Assumes nothing.
use Rattle.walking.proofs.Bytes.{decoded_here}
use Rattle.walking.proofs.element_at.Goals as goal

pub element_of-requires : goal.element_of-requires
element_of-requires c =
    let p = c.requires in
    (p.0, decoded_here _ _ _ p.0 p.1 c.length_at.ensures)

pub returns : goal.returns
returns c =
    λ x h. c.element_of.ensures x (decoded_here _ _ _ x h c.length_at.ensures)
