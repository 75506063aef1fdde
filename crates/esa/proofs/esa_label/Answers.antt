-- `esa_label` meets its contract: no place is too large.
-- Assumes nothing.
use Rattle.labels.specs.Called.{sourced}
use Rattle.esa.proofs.Labels.{label_fits}
use Rattle.esa.proofs.esa_label.Goals as goal

pub label-requires : goal.label-requires
label-requires c = label_fits _ _ _ _ c.find.ensures

pub returns : goal.returns
returns c =
    rw (← c.settings_of.ensures)
    (record { answer = sourced c.find.result; found = c.find.ensures; number = c.label.ensures })
