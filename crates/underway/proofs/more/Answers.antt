-- `more` meets its contract, by the kind.
-- Assumes nothing.
use mathlib.Core.Path.{refl, sym, ◌∙◌}
use Rattle.underway.proofs.Growing.{grow_text, grow_cut, grow_plain}
use Rattle.underway.proofs.more.Goals as goal

pub returns-then-id-eq12 : goal.returns-then-id-eq12
returns-then-id-eq12 c = grow_text _ _ _ _ _ c.keep.ensures refl c.if-id-eq12.true c.text_on.ensures

pub returns-then-most-ne0 : goal.returns-then-most-ne0
returns-then-most-ne0 c =
    grow_cut _ _ _ _ _ c.keep.ensures refl c.if-id-eq12.false c.lead_of.ensures.0
    c.most_of-most.ensures.0 c.cut_on.ensures

pub returns : goal.returns
returns c =
    grow_plain _ _ _ _ _ c.keep.ensures refl c.if-id-eq12.false
    (sym c.most_of-most.ensures.0 ∙ c.if-most-ne0.false) c.so_many.ensures.0 c.so_many.ensures.1
