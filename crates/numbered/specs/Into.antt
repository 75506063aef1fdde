-- The numbers of a record in the 32 bytes that hold them at the C face, in the order that docs/CALLS.md lists; the other bytes are 0.
-- Assumes nothing.
use Rattle.std.specs.Prelude.{ℕ, zero, suc, ◌-◌, List, [], ◌∷◌, ◌++◌, length}
use Rattle.format.specs.Slots.{bit}
use Rattle.format.specs.Records.{zone_number, zone_string, string_number}
use Rattle.format.specs.Layout.{optional_byte}
use Rattle.format.specs.declared.pins.Chip.{Chip}
use Rattle.format.specs.declared.pins.Chip.TheVariants.{C8051F320, C8051F321}
use Rattle.format.specs.declared.records.Description.{Description}
use Rattle.format.specs.declared.records.Placement.{Placement}
use Rattle.format.specs.declared.records.Lamp.{Lamp}
use Rattle.format.specs.declared.records.PwmFan.{PwmFan}
use Rattle.format.specs.declared.records.BusDevice.{BusDevice}
use Rattle.format.specs.declared.records.Address.{Address}
use Rattle.format.specs.declared.records.Address.TheVariants.{Bus, Select}
use Rattle.format.specs.declared.records.Element.{Element}
use Rattle.format.specs.declared.records.Element.TheVariants.{Digital, Analogue, Fan, Led, Water, Pump, Voltage, Current, Controller}
use Rattle.format.specs.declared.records.Element.TheVariants.{Tachometer, Zone, Text, External, Rgb}
use Rattle.words.specs.Widths.{two_bytes, four_bytes}

abbrev pub zeros : ℕ → List ℕ
zeros zero = []
zeros (suc n) = 0 ∷ zeros n

-- the numbers, zeros behind them, and the last of the 32 bytes
abbrev pub padded : List ℕ → ℕ → List ℕ
padded ns last = ns ++ zeros (31 - length ns) ++ last ∷ []

-- 31: the chip of the record's pins
abbrev pub chip_number : Chip → ℕ
chip_number C8051F320 = 0
chip_number C8051F321 = 1

-- 0-4: string, x, y, z, zone
abbrev pub placement_numbers : Placement → List ℕ
placement_numbers p = p.string ∷ p.x.0 ∷ p.y.0 ∷ p.z.0 ∷ p.zone ∷ []

-- the kind of an address, 0 a bus address and 1 a chip select pin, and the address
abbrev pub kind_of : Address → ℕ
kind_of (Bus a) = 0
kind_of (Select p) = 1

abbrev pub address_of : Address → ℕ
address_of (Bus a) = a
address_of (Select p) = p.0

-- pin, colour, purpose
abbrev pub lamp_numbers : Lamp → List ℕ
lamp_numbers l = optional_byte l.pin ∷ l.colour ∷ l.purpose ∷ []

-- 5 PWM pin, 6 tachometer pin, 7 PPR, 8-9 minimum, 10-11 maximum RPM, 12 minimum duty cycle
abbrev pub motor_numbers : PwmFan → List ℕ
motor_numbers f =
    placement_numbers f.placement
    ++ f.pwm.0
    ∷ optional_byte f.tachometer
    ∷ f.ppr
    ∷ two_bytes f.minrpm.0
    ++ two_bytes f.maxrpm.0
    ++ f.duty
    ∷ []

-- 5 bus type, 6 kind of address, 7 address
abbrev pub device_numbers : BusDevice → List ℕ
device_numbers d = placement_numbers d.placement ++ d.bus ∷ kind_of d.address ∷ address_of d.address ∷ []

-- of an element, beside its variable part
abbrev pub element_numbers : Element → List ℕ → List ℕ
-- 5 bus type, 6 kind of address, 7 address, 8-9 LSB, 10-11 MSB register, 12-13 and 14 minimum, 15-16 and 17 maximum
element_numbers (Digital d) p =
    placement_numbers d.placement
    ++ d.bus
    ∷ kind_of d.address
    ∷ address_of d.address
    ∷ two_bytes d.lsb
    ++ two_bytes d.msb
    ++ two_bytes d.minvalue
    ++ d.mintemp.0
    ∷ two_bytes d.maxvalue
    ++ d.maxtemp.0
    ∷ []
-- 5 thermal type, 6 pin, 7-8 and on the counts at 0, 25, 50, 75, 100 degrees
element_numbers (Analogue a) p =
    placement_numbers a.placement
    ++ a.thermal
    ∷ a.pin.0
    ∷ two_bytes a.at0.0
    ++ two_bytes a.at25.0
    ++ two_bytes a.at50.0
    ++ two_bytes a.at75.0
    ++ two_bytes a.at100.0
element_numbers (Fan f) p = motor_numbers f
-- 5-7, 8-10, 11-13 the three lamps
element_numbers (Led l) p =
    placement_numbers l.placement ++ lamp_numbers l.one ++ lamp_numbers l.two ++ lamp_numbers l.three
-- 5 pin, 6-7 FULL, 8-9 EMPTY, 10-11 WARNING
element_numbers (Water w) p =
    placement_numbers w.placement ++ w.pin.0 ∷ two_bytes w.full.0 ++ two_bytes w.empty.0 ++ two_bytes w.warning.0
element_numbers (Pump f) p = motor_numbers f
-- 5 pin, 6 VMAX, 7 VMIN
element_numbers (Voltage v) p = placement_numbers v.placement ++ v.pin.0 ∷ v.vmax.0 ∷ v.vmin.0 ∷ []
-- 5 pin, 6-7 IMIN, 8-9 IMAX
element_numbers (Current c) p =
    placement_numbers c.placement ++ c.pin.0 ∷ two_bytes c.imin.0 ++ two_bytes c.imax.0
element_numbers (Controller d) p = device_numbers d
element_numbers (Tachometer d) p = device_numbers d
-- 0 the zone's number, 1 its string index
element_numbers Zone p = zone_number p ∷ zone_string p ∷ []
-- 0 the string's number
element_numbers Text p = string_number p ∷ []
-- a device's, and 8 the identifier of its chip
element_numbers (External x) p = device_numbers x.device ++ x.identifier ∷ []
-- 5 red, 6 green, 7 blue pin
element_numbers (Rgb r) p = placement_numbers r.placement ++ r.red.0 ∷ r.green.0 ∷ r.blue.0 ∷ []

-- 0 device type, 1 string, 2-5 serial number, 6 SPWR, 7 power units, 8, 9, 10 hardware revision pins
abbrev pub description_numbers : Description → List ℕ
description_numbers d =
    d.device
    ∷ d.string
    ∷ four_bytes d.serial
    ++ bit d.spwr
    ∷ d.power.0
    ∷ optional_byte d.revision0
    ∷ optional_byte d.revision1
    ∷ optional_byte d.revision2
    ∷ []

-- the 32 bytes; a zone descriptor and a string have no pins
abbrev pub last_of : Chip → Element → ℕ
last_of c (Digital d) = chip_number c
last_of c (Analogue a) = chip_number c
last_of c (Fan f) = chip_number c
last_of c (Led l) = chip_number c
last_of c (Water w) = chip_number c
last_of c (Pump f) = chip_number c
last_of c (Voltage v) = chip_number c
last_of c (Current x) = chip_number c
last_of c (Controller d) = chip_number c
last_of c (Tachometer d) = chip_number c
last_of c Zone = 0
last_of c Text = 0
last_of c (External x) = chip_number c
last_of c (Rgb r) = chip_number c

abbrev pub element_into : Chip → Element → List ℕ → List ℕ
element_into c e p = padded (element_numbers e p) (last_of c e)

abbrev pub description_into : Chip → Description → List ℕ
description_into c d = padded (description_numbers d) (chip_number c)
