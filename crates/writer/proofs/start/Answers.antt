-- `start` meets its contract: the answer is known before a byte is written.
-- Assumes nothing.
use mathlib.Core.Path.{refl, sym}
use mathlib.Core.Path.{sym, ◌∙◌}
use Rattle.format.proofs.Refusals.{handed}
use Rattle.writer.proofs.Answering.{start_good, started, not_started}
use Rattle.writer.proofs.start.Goals as goal

pub returns-in_err-n : goal.returns-in_err-n
returns-in_err-n c = rw (handed _ _ c.from_residual.ensures.1) (not_started _ _ _ _ _ _ c.in_err-n.ensures refl)

pub put_description-requires : goal.put_description-requires
put_description-requires c =
    start_good _ _ _ _ (sym c.in_ok-n.ensures)

pub returns : goal.returns
returns c =
    started _ _ _ _ _ _ c.in_ok-n.ensures refl
    c.put_description.ensures
