-- The ordinary reader and the archive's, beside each other: other rules for the same chip, and a table that holds nothing retired.
-- Assumes nothing.
use Rattle.std.specs.Prelude.{◌≡◌, true, List, [], ◌∷◌}
use Rattle.format.specs.Records.{Record, element_of}
use Rattle.format.specs.Rules.{in_use}
use Rattle.format.specs.declared.settings.Settings.{Settings}
use Rattle.format.specs.declared.settings.Rules.{Rules}
use Rattle.format.specs.declared.settings.Rules.TheVariants.{Ordinary}

-- the settings with other rules
abbrev pub with_rules : Rules → Settings → Settings
with_rules k s = record { chip = s.chip; rules = k }

-- 'a table without them': each element is one that the ordinary rules have in use
abbrev pub NoneRetired : List Record → Type 0
NoneRetired [] = Unit {0}
NoneRetired (r ∷ rs) = (in_use Ordinary (element_of r) ≡ true) × NoneRetired rs
