-- `judge` meets its contract: by the pass.
-- Assumes nothing.
use Rattle.sifting.proofs.Judging.{zone_judges, string_judges}
use Rattle.sifting.proofs.judge.Goals as goal

pub returns-in-Zones : goal.returns-in-Zones
returns-in-Zones c = zone_judges _ _ _ _ _ _ _ _ c.in-Zones.is c.by_zone.ensures c.fated.ensures

pub returns-in-Strings : goal.returns-in-Strings
returns-in-Strings c = string_judges _ _ _ _ _ _ _ _ c.in-Strings.is c.by_string.ensures c.fated-in-Strings.ensures
