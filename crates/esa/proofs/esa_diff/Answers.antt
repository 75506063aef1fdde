-- `esa_diff` meets its contract: no number is too large.
-- Assumes nothing.
use Rattle.comparing.specs.Outcomes.{outcome_of}
use Rattle.esa.proofs.Differences.{compares_fitted}
use Rattle.esa.proofs.esa_diff.Goals as goal

pub outcome-requires : goal.outcome-requires
outcome-requires c = compares_fitted _ _ _ _ _ _ c.compare.ensures

pub returns : goal.returns
returns c =
    rw (← c.chip_of.ensures)
    (record { answer = outcome_of c.compare.result; compares = c.compare.ensures; number = c.outcome.ensures })
