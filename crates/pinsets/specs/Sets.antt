-- Sets of pins as words: the place of each pin among the 25, and the rows of the constant table.
-- Assumes nothing.
use Rattle.std.specs.Prelude.{ℕ, ◌+◌, ◌*◌, ◌/◌, ◌%◌, ◌^◌, Bool, true, false, ◌&&◌, eqb, ltb}
use Rattle.format.specs.declared.pins.Chip.{Chip}
use Rattle.format.specs.declared.pins.Chip.TheVariants.{C8051F320, C8051F321}
use Rattle.format.specs.declared.pins.Use.{Use}
use Rattle.format.specs.declared.pins.Use.TheVariants.{FanPin, AnaloguePin, ChipSelect, StatusLed, HardwareRevision}

abbrev pub pick : Bool → ℕ → ℕ → ℕ
pick true a b = a
pick false a b = b

-- a pin byte's place among the 25 pins, 0 to 24; 31 where there is no such pin
unfoldable pub pin_index : ℕ → ℕ
pin_index b =
    let c = pick (ltb (b % 16) 8 && ltb b 49) b 55 in
    c / 16 * 8 + c % 8

-- its bit
unfoldable pub pin_bit : ℕ → ℕ
pin_bit b = 2 ^ pin_index b

-- the row of a chip and a use: pin i of the 25 in bit i
abbrev pub by_chip : Chip → ℕ → ℕ → ℕ
by_chip C8051F320 large small = large
by_chip C8051F321 large small = small

unfoldable pub row_of : Chip → Use → ℕ
row_of c FanPin = by_chip c 0xe60 0xe60
row_of c AnaloguePin = by_chip c 0x1fff000 0x10ff000
row_of c ChipSelect = by_chip c 0x1fffe60 0x10ffe60
row_of c StatusLed = by_chip c 0x1fff01f 0x10ff01f
row_of c HardwareRevision = by_chip c 0x1ffffff 0x10fffff

-- a word has a bit
unfoldable pub has_bit : ℕ → ℕ → Bool
has_bit w i = eqb (w / 2 ^ i % 2) 1
