-- Each row of the table is that of its chip and use, which the match tells.
-- Assumes nothing.
use mathlib.Core.Path.{refl}
use Rattle.pinsets.specs.Sets.{row_of}
use Rattle.pinsets.proofs.row_of.Goals as goal

pub returns-in-FanPin : goal.returns-in-FanPin
unfolding row_of
returns-in-FanPin c = rw (c.in-FanPin.is, c.by_chip.ensures) refl

pub returns-in-AnaloguePin : goal.returns-in-AnaloguePin
unfolding row_of
returns-in-AnaloguePin c = rw (c.in-AnaloguePin.is, c.by_chip-in-AnaloguePin.ensures) refl

pub returns-in-ChipSelect : goal.returns-in-ChipSelect
unfolding row_of
returns-in-ChipSelect c = rw (c.in-ChipSelect.is, c.by_chip-in-ChipSelect.ensures) refl

pub returns-in-StatusLed : goal.returns-in-StatusLed
unfolding row_of
returns-in-StatusLed c = rw (c.in-StatusLed.is, c.by_chip-in-StatusLed.ensures) refl

pub returns-in-HardwareRevision : goal.returns-in-HardwareRevision
unfolding row_of
returns-in-HardwareRevision c = rw (c.in-HardwareRevision.is, c.by_chip-in-HardwareRevision.ensures) refl
