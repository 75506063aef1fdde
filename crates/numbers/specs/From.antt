-- The records in the 32 bytes that hold their numbers at the C face: each number as wide as the record's type, lowest byte first.
-- Assumes nothing.
use Rattle.std.specs.Prelude.{ℕ, ◌+◌, Bool, true, false, ◌&&◌, not, cond, List, eqb, leb, Option, Some, None}
use Rattle.format.specs.Slots.{byte}
use Rattle.format.specs.Decode.{pin_of, optional_of, digital_of, analogue_of, lamp_of, led_of, current_of, device_of, external_of, description_of}
use Rattle.format.specs.Decode.{word_at, read_placement, read_fan, read_water, read_voltage, read_rgb}
use Rattle.format.specs.declared.pins.Chip.{Chip}
use Rattle.format.specs.declared.pins.Chip.TheVariants.{C8051F320, C8051F321}
use Rattle.format.specs.declared.records.Description.{Description}
use Rattle.format.specs.declared.records.DigitalSensor.{DigitalSensor}
use Rattle.format.specs.declared.records.AnalogueSensor.{AnalogueSensor}
use Rattle.format.specs.declared.records.Lamp.{Lamp}
use Rattle.format.specs.declared.records.StatusLed.{StatusLed}
use Rattle.format.specs.declared.records.CurrentSensor.{CurrentSensor}
use Rattle.format.specs.declared.records.BusDevice.{BusDevice}
use Rattle.format.specs.declared.records.ExternalRgb.{ExternalRgb}
use Rattle.format.specs.declared.records.Address.{Address}
use Rattle.format.specs.declared.records.Address.TheVariants.{Bus, Select}
use Rattle.format.specs.declared.records.Element.{Element}
use Rattle.format.specs.declared.records.Element.TheVariants.{Digital, Analogue, Fan, Led, Water, Pump, Voltage, Current, Controller}
use Rattle.format.specs.declared.records.Element.TheVariants.{Tachometer, Zone, Text, External, Rgb}
use Rattle.words.specs.Widths.{long_at}

-- byte 31 names the chip of the record's pins: 0 the 320, any other number the 321
abbrev pub pick_chip : Bool → Chip
pick_chip true = C8051F320
pick_chip false = C8051F321

abbrev pub chip_from : (ℕ → ℕ) → Chip
chip_from f = pick_chip (eqb (f 31) 0)

-- kind 0: a bus address; any other: a chip select pin
abbrev pub address_from : Chip → Bool → ℕ → Address
address_from c true a = Bus a
address_from c false a = Select (pin_of c a)

-- the numbers of each kind, given byte by byte; 0-4 are its placement. Those of 03h, 05h, 06h, 07h and 0Eh are the bytes after the
-- header, which `read_fan`, `read_water`, `read_voltage` and `read_rgb` of `format` read
abbrev pub digital_from : Chip → (ℕ → ℕ) → DigitalSensor
digital_from c f =
    digital_of (read_placement f) (f 5) (address_from c (eqb (f 6) 0) (f 7)) (word_at f 8) (word_at f 10) (word_at f 12) (f 14) (word_at f 15)
    (f 17)

abbrev pub analogue_from : Chip → (ℕ → ℕ) → AnalogueSensor
analogue_from c f =
    analogue_of (read_placement f) (f 5) (pin_of c (f 6)) (word_at f 7) (word_at f 9) (word_at f 11) (word_at f 13) (word_at f 15)

abbrev pub lamp_from : Chip → (ℕ → ℕ) → ℕ → Lamp
lamp_from c f i = lamp_of (optional_of c (f i)) (f (i + 1)) (f (i + 2))

abbrev pub led_from : Chip → (ℕ → ℕ) → StatusLed
led_from c f = led_of (read_placement f) (lamp_from c f 5) (lamp_from c f 8) (lamp_from c f 11)

abbrev pub current_from : Chip → (ℕ → ℕ) → CurrentSensor
current_from c f = current_of (read_placement f) (pin_of c (f 5)) (word_at f 6) (word_at f 8)

abbrev pub device_from : Chip → (ℕ → ℕ) → BusDevice
device_from c f = device_of (read_placement f) (f 5) (address_from c (eqb (f 6) 0) (f 7))

abbrev pub external_from : Chip → (ℕ → ℕ) → ExternalRgb
external_from c f = external_of (device_from c f) (f 8)

abbrev pub described_from : Chip → (ℕ → ℕ) → Description
described_from c f =
    description_of (f 0) (f 1) (long_at f 2) (not (eqb (f 6) 0)) (f 7) (optional_of c (f 8)) (optional_of c (f 9)) (optional_of c (f 10))

-- the description in the numbers
abbrev pub description_from : List ℕ → Description
description_from n = described_from (chip_from (byte n)) (byte n)

-- the element of one of the fourteen identifiers in the numbers n, its pins of the chip c
abbrev pub kind_from : ℕ → Chip → (ℕ → ℕ) → Element
kind_from id c n =
    cond (eqb id 0x01) (Digital (digital_from c n))
    (cond (eqb id 0x02) (Analogue (analogue_from c n))
    (cond (eqb id 0x03) (Fan (read_fan c n))
    (cond (eqb id 0x04) (Led (led_from c n))
    (cond (eqb id 0x05) (Water (read_water c n))
    (cond (eqb id 0x06) (Pump (read_fan c n))
    (cond (eqb id 0x07) (Voltage (read_voltage c n))
    (cond (eqb id 0x08) (Current (current_from c n))
    (cond (eqb id 0x09) (Controller (device_from c n))
    (cond (eqb id 0x0a) (Tachometer (device_from c n))
    (cond (eqb id 0x0b) Zone
    (cond (eqb id 0x0c) Text
    (cond (eqb id 0x0d) (External (external_from c n)) (Rgb (read_rgb c n))))))))))))))

-- the element of an identifier in the numbers, and none where it is not 01h to 0Eh
abbrev pub element_from : ℕ → List ℕ → Option Element
element_from id n = cond (leb 1 id && leb id 0x0e) (Some (kind_from id (chip_from (byte n)) (byte n))) None
