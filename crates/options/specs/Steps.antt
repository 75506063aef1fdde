-- What each word of a program changes, and what has come of all of them.
-- Assumes nothing.
use Rattle.std.specs.Prelude.{ℕ, List, Option, Some, None, Result, Ok, Err}
use Rattle.format.specs.declared.pins.Chip.{Chip as TheChip}
use Rattle.format.specs.declared.pins.Chip.TheVariants.{C8051F320}
use Rattle.format.specs.declared.settings.Rules.{Rules}
use Rattle.format.specs.declared.settings.Rules.TheVariants.{Ordinary, Archive as Old}
use Rattle.format.specs.declared.settings.Settings.{Settings}
use Rattle.options.specs.declared.Word.{Word}
use Rattle.options.specs.declared.Word.TheVariants.{Chip, Archive, End, Dashed, Plain}
use Rattle.options.specs.declared.Choice.{Choice}
use Rattle.options.specs.declared.Misuse.{Misuse}
use Rattle.options.specs.declared.Misuse.TheVariants.{Unknown, NoChip, ChipTwice, ArchiveTwice, NoArchive}
use Rattle.options.specs.declared.Stage.{Stage}
use Rattle.options.specs.declared.Stage.TheVariants.{Open, Wants, Ended, Others}
use Rattle.options.specs.declared.Chosen.{Chosen}
use Rattle.options.specs.Words.{word_of, chip_of}

-- '--chip' stands once
abbrev pub wanted_after : Option TheChip → Choice → Result Stage Misuse
wanted_after None c = Ok (Wants c)
wanted_after (Some x) c = Err ChipTwice

abbrev pub wanted : Choice → Result Stage Misuse
wanted c = wanted_after c.chip c

-- '--archive' stands once
abbrev pub archived_after : Rules → Choice → Result Stage Misuse
archived_after Ordinary c = Ok (Open (record { chip = c.chip; rules = Old }))
archived_after Old c = Err ArchiveTwice

abbrev pub archived_of : Choice → Result Stage Misuse
archived_of c = archived_after c.rules c

abbrev pub option_of : Choice → Word → Result Stage Misuse
option_of c Chip = wanted c
option_of c Archive = archived_of c
option_of c End = Ok (Ended c)
option_of c Dashed = Err Unknown
option_of c Plain = Ok (Others c)

abbrev pub number_of : Choice → Option TheChip → Result Stage Misuse
number_of c None = Err NoChip
number_of c (Some x) = Ok (Open (record { chip = Some x; rules = c.rules }))

-- one word more
abbrev pub step_of : Result Stage Misuse → List ℕ → Result Stage Misuse
step_of (Ok (Open c)) w = option_of c (word_of w)
step_of (Ok (Wants c)) w = number_of c (chip_of w)
step_of (Ok (Ended c)) w = Ok (Others c)
step_of (Ok (Others c)) w = Ok (Others c)
step_of (Err m) w = Err m

-- the 320 if no chip is named
abbrev pub settings_from : Option TheChip → Rules → Settings
settings_from None k = record { chip = C8051F320; rules = k }
settings_from (Some x) k = record { chip = x; rules = k }

abbrev pub settings_of : Choice → Settings
settings_of c = settings_from c.chip c.rules

abbrev pub last_of : Result Stage Misuse → ℕ → Result Chosen Misuse
last_of (Ok (Open c)) i = Ok (record { settings = settings_of c; next = i })
last_of (Ok (Wants c)) i = Err NoChip
last_of (Ok (Ended c)) i = Ok (record { settings = settings_of c; next = i })
last_of (Ok (Others c)) i = Ok (record { settings = settings_of c; next = i })
last_of (Err m) i = Err m

-- for a program that has the ordinary rules alone
abbrev pub ordinary_after : Rules → Chosen → Result Chosen Misuse
ordinary_after Ordinary c = Ok c
ordinary_after Old c = Err NoArchive

abbrev pub ordinary_of : Result Chosen Misuse → Result Chosen Misuse
ordinary_of (Ok c) = ordinary_after c.settings.rules c
ordinary_of (Err m) = Err m
