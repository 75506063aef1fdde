-- `label` meets its contract: the part of the slice that `find` told.
-- Assumes nothing.
use mathlib.Core.Path.{ap, ◌∙◌}
use native.Mathlib.Omega.{arith}
use Rattle.labels.specs.Called.{sourced, source_of}
use Rattle.labels.proofs.Giving.{found_room, text_labelled, lent_labelled, none_labelled}
use Rattle.labels.proofs.label.Goals as goal

pub overflow_add-end : goal.overflow_add-end
overflow_add-end c = omega (arith, found_room _ _ _ _ c.find.ensures (ap sourced c.in-Ok.is ∙ ap source_of c.in-Text.is))

pub returns-in-Text : goal.returns-in-Text
returns-in-Text c = text_labelled _ _ _ _ c.find.ensures (ap sourced c.in-Ok.is ∙ ap source_of c.in-Text.is) _

pub returns-in-Lent : goal.returns-in-Lent
returns-in-Lent c = lent_labelled _ _ _ _ c.find.ensures (ap sourced c.in-Ok.is ∙ ap source_of c.in-Lent.is) _

pub returns-in_default : goal.returns-in_default
returns-in_default c = none_labelled _ _ _ _ c.find.ensures (ap sourced c.in_default.is) _

pub slice_bounds-result-end-in-Text : goal.slice_bounds-result-end-in-Text
slice_bounds-result-end-in-Text c = omega (arith, found_room _ _ _ _ c.find.ensures (ap sourced c.in-Ok.is ∙ ap source_of c.in-Text.is))
