-- `element` meets its contract: element k of the one list, 17, or the table's refusal.
-- Assumes nothing.
use mathlib.Core.List.{[]}
use Rattle.format.proofs.Refusals.{handed}
use Rattle.reader.proofs.Asking.{element_there}
use Rattle.reader.proofs.element.Goals as goal

pub returns-in_err-at : goal.returns-in_err-at
returns-in_err-at c = rw (handed _ _ c.from_residual.ensures.1) (record { beside = []; gives = c.in_err-at.ensures })

pub element_at-requires : goal.element_at-requires
element_at-requires c = let l = c.in_ok-at.ensures in (l.r, l.here)

pub returns : goal.returns
returns c = let l = c.in_ok-at.ensures in element_there _ _ _ _ l (c.element_at.ensures l.r l.here)
