-- `esa_fan` meets its contract: no number is too large.
-- Assumes nothing.
use Rattle.format.specs.Answers.{told}
use Rattle.esa.proofs.Fans.{zones_bounded}
use Rattle.esa.proofs.esa_fan.Goals as goal

pub zoned-requires : goal.zoned-requires
zoned-requires c = zones_bounded _ _ _ _ c.in_zone.ensures

pub returns : goal.returns
returns c =
    rw (← c.settings_of.ensures)
    (record { answer = told c.in_zone.result; zones = c.in_zone.ensures; number = c.zoned.ensures })
