-- The settings in one number: bit 0 set is the 321, bit 1 set the archive's rules; all other bits are ignored.
-- Assumes nothing.
use Rattle.std.specs.Prelude.{ℕ, ◌/◌, ◌%◌, Bool, true, false, eqb}
use Rattle.format.specs.declared.pins.Chip.{Chip}
use Rattle.format.specs.declared.pins.Chip.TheVariants.{C8051F320, C8051F321}
use Rattle.format.specs.declared.settings.Settings.{Settings}
use Rattle.format.specs.declared.settings.Rules.{Rules}
use Rattle.format.specs.declared.settings.Rules.TheVariants.{Ordinary, Archive}

abbrev pub pick_chip : Bool → Chip
pick_chip true = C8051F320
pick_chip false = C8051F321

abbrev pub pick_rules : Bool → Rules
pick_rules true = Ordinary
pick_rules false = Archive

-- what the writer takes of it
abbrev pub chip_of : ℕ → Chip
chip_of n = pick_chip (eqb (n % 2) 0)

abbrev pub rules_of : ℕ → Rules
rules_of n = pick_rules (eqb (n / 2 % 2) 0)

abbrev pub settings_of : ℕ → Settings
settings_of n = record { chip = chip_of n; rules = rules_of n }
