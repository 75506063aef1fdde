-- The layout of a table: from its records to the slots of its bytes. Offsets count from the element's start.
-- Assumes nothing.
use Rattle.std.specs.Prelude.{ℕ, ◌+◌, List, [], ◌∷◌, ◌++◌, map, length}
use Rattle.format.specs.Slots.{Slot, whole, low, high, halves, flag, reserved, word, triple}
use Rattle.format.specs.Records.{Block, Record, digital, analogue, fan, led, water, pump, voltage, current, controller, tachometer}
use Rattle.format.specs.Records.{zone, string, external, rgb, element_of}
use Rattle.format.specs.declared.pins.Pin.{Pin}
use Rattle.std.specs.Prelude.{Option}
use Rattle.format.specs.declared.pins.Pin.{Pin}
use Rattle.std.specs.Prelude.{None, Some}
use Rattle.format.specs.declared.records.Description.{Description}
use Rattle.format.specs.declared.records.Placement.{Placement}
use Rattle.format.specs.declared.records.PwmFan.{PwmFan}
use Rattle.format.specs.declared.records.Lamp.{Lamp}
use Rattle.format.specs.declared.records.RegisterPair.{RegisterPair}
use Rattle.format.specs.declared.records.Address.{Address}
use Rattle.format.specs.declared.records.Address.TheVariants.{Bus, Select}
use Rattle.format.specs.declared.records.Element.{Element}
use Rattle.format.specs.declared.records.Element.TheVariants.{Digital, Analogue, Fan, Led, Water, Pump, Voltage, Current}
use Rattle.format.specs.declared.records.Element.TheVariants.{Controller, Tachometer, Zone, Text, External, Rgb}

-- a pin byte: 'the port in bits 7-4 and the pin in bits 3-0', which a record holds as one number; the
-- layout does not say the chip
abbrev pub pin_slot : Pin → Slot
pin_slot p = whole p.0

-- FFh where the place is unused
abbrev pub optional_byte : Option Pin → ℕ
optional_byte None = 0xff
optional_byte (Some p) = p.0

abbrev pub optional_pin_slot : Option Pin → Slot
optional_pin_slot p = whole (optional_byte p)

-- Table 4, the description, in a table of so many bytes
abbrev pub opening : Description → ℕ → List Slot
opening d n =
    whole 1
    ∷ word n
    ++ whole d.device
    ∷ whole d.string
    ∷ triple d.serial
    ++ flag d.spwr d.power.0
    ∷ optional_pin_slot d.revision0
    ∷ optional_pin_slot d.revision1
    ∷ optional_pin_slot d.revision2
    ∷ reserved
    ∷ reserved
    ∷ reserved
    ∷ reserved
    ∷ []

-- bytes 3 to 7 of every element but a zone descriptor and a string
abbrev pub placement : Placement → List Slot
placement p = whole p.string ∷ whole p.x.0 ∷ whole p.y.0 ∷ whole p.z.0 ∷ whole p.zone ∷ []

-- Tables 9 and 10: the first byte of a device address; the second is reserved
abbrev pub address : Address → Slot
address (Bus a) = high a
address (Select p) = pin_slot p

-- bytes 8 to 10 of a device on a bus: BUS TYPE, DEVICE ADDRESS
abbrev pub device : ℕ → Address → List Slot
device bus a = low bus ∷ address a ∷ reserved ∷ []

-- PORT and PIN, COLOR and PURPOSE of one lamp
abbrev pub lamp : Lamp → List Slot
lamp l = optional_pin_slot l.pin ∷ halves l.colour l.purpose ∷ []

-- Table 14, from byte 3 on
abbrev pub motor : PwmFan → List Slot
motor f =
    placement f.placement
    ++ pin_slot f.pwm
    ∷ optional_pin_slot f.tachometer
    ∷ whole f.ppr
    ∷ word f.minrpm.0
    ++ word f.maxrpm.0
    ++ whole f.duty
    ∷ []

-- what follows the header and does not vary in length
abbrev pub fixed : Element → List Slot
-- Table 11
fixed (Digital d) =
    placement d.placement
    ++ device d.bus d.address
    ++ word d.lsb
    ++ word d.msb
    ++ word d.minvalue
    ++ whole d.mintemp.0
    ∷ word d.maxvalue
    ++ whole d.maxtemp.0
    ∷ []
-- Table 12
fixed (Analogue a) =
    placement a.placement
    ++ low a.thermal
    ∷ pin_slot a.pin
    ∷ word a.at0.0
    ++ word a.at25.0
    ++ word a.at50.0
    ++ word a.at75.0
    ++ word a.at100.0
-- Table 14
fixed (Fan f) = motor f
-- Table 15
fixed (Led l) = placement l.placement ++ lamp l.one ++ lamp l.two ++ lamp l.three
-- Table 18
fixed (Water w) =
    placement w.placement ++ pin_slot w.pin ∷ word w.full.0 ++ word w.empty.0 ++ word w.warning.0
-- 8.9: Table 14 with another identifier
fixed (Pump f) = motor f
-- Table 19, each voltage a whole byte
fixed (Voltage v) =
    placement v.placement ++ pin_slot v.pin ∷ whole v.vmax.0 ∷ whole v.vmin.0 ∷ []
-- Table 20
fixed (Current c) =
    placement c.placement ++ pin_slot c.pin ∷ reserved ∷ word c.imin.0 ++ word c.imax.0
-- Table 21
fixed (Controller d) = placement d.placement ++ device d.bus d.address
-- Table 24
fixed (Tachometer d) = placement d.placement ++ device d.bus d.address ++ reserved ∷ []
-- Table 30, Table 29
fixed Zone = []
fixed Text = []
-- Table 27
fixed (External x) =
    placement x.device.placement ++ device x.device.bus x.device.address ++ whole x.identifier ∷ []
-- Table 26
fixed (Rgb r) =
    placement r.placement ++ pin_slot r.red ∷ pin_slot r.green ∷ pin_slot r.blue ∷ []

-- Table 23, each pair in turn
abbrev pub pairs : List RegisterPair → List Slot
pairs [] = []
pairs (p ∷ ps) = word p.address ++ word p.«data» ++ pairs ps

-- Table 25, and each colour of Table 27: ENTRIES and that many pairs
abbrev pub entries : List RegisterPair → List Slot
entries ps = whole (length ps) ∷ pairs ps

-- Table 22, each speed block in turn: SPEED, ENTRIES and that many pairs
abbrev pub blocks : List Block → List Slot
blocks [] = []
blocks (b ∷ bs) = whole b.speed.0 ∷ entries b.pairs ++ blocks bs

-- the variable part, which follows the fixed fields
abbrev pub part : Record → List Slot
part (digital d) = []
part (analogue a) = []
part (fan f) = []
part (led l) = []
part (water w) = []
part (pump f) = []
part (voltage v) = []
part (current c) = []
part (controller d bs) = blocks bs
part (tachometer d a b) = entries a ++ entries b
part (zone bytes) = map whole bytes
part (string bytes) = map whole bytes
part (external x r g b) = entries r ++ (entries g ++ entries b)
part (rgb r) = []

-- the identifiers, as the text under each table gives them
abbrev pub id_of : Element → ℕ
id_of (Digital d) = 0x01
id_of (Analogue a) = 0x02
id_of (Fan f) = 0x03
id_of (Led l) = 0x04
id_of (Water w) = 0x05
id_of (Pump f) = 0x06
id_of (Voltage v) = 0x07
id_of (Current c) = 0x08
id_of (Controller d) = 0x09
id_of (Tachometer d) = 0x0a
id_of Zone = 0x0b
id_of Text = 0x0c
id_of (External x) = 0x0d
id_of (Rgb r) = 0x0e

-- Table 7: 'an identifier and a two-byte length that counts the header', and what follows
abbrev pub headed : ℕ → List Slot → List Slot
headed id ss = whole id ∷ word (3 + length ss) ++ ss

abbrev pub body : Record → List Slot
body r = fixed (element_of r) ++ part r

abbrev pub layout : Record → List Slot
layout r = headed (id_of (element_of r)) (body r)

-- 'elements end to end'
abbrev pub layouts : List Record → List Slot
layouts [] = []
layouts (r ∷ rs) = layout r ++ layouts rs

-- 'a description of 16 bytes, then 0 to 96 elements end to end'
abbrev pub table : Description → List Record → List Slot
table d rs = opening d (16 + length (layouts rs)) ++ layouts rs

-- '"Element" is the offset where that element starts': where the next one starts, after these
abbrev pub place_after : List Record → ℕ
place_after rs = 16 + length (layouts rs)
