-- The rules of one record alone: 4, 5 and 10 of the description, 8, 9, 23 and 10 of an element. Each test is true where its
-- rule is kept; a number names the rule as 'What comes back' does.
-- Assumes nothing.
use Rattle.std.specs.Prelude.{ℕ, ◌+◌, Bool, true, false, ◌&&◌, ◌||◌, not, List, [], ◌∷◌, length, eqb, ltb, leb}
use Rattle.std.proofs.Math.Option.{Option, none, some}
use Rattle.format.specs.Records.{Block, Record, digital, analogue, fan, led, water, pump, voltage, current, controller, tachometer}
use Rattle.format.specs.Records.{zone, string, external, rgb, string_number, text_of, element_of}
use Rattle.format.specs.Slots.{all_roomy}
use Rattle.format.specs.Layout.{opening, fixed}
use Rattle.format.specs.Pins.{among, of_chip, allowed, unused, allowed_or_unused, standing}
use Rattle.format.specs.Utf16.{well_formed}
use Rattle.format.specs.declared.units.Counts.{Counts}
use Rattle.format.specs.declared.pins.Use.TheVariants.{FanPin, AnaloguePin, ChipSelect, StatusLed, HardwareRevision}
use Rattle.format.specs.declared.pins.Pin.{Pin}
use Rattle.std.specs.Prelude.{Option as Optional}
use Rattle.format.specs.declared.pins.Pin.{Pin}
use Rattle.std.specs.Prelude.{None, Some}
use Rattle.format.specs.declared.pins.Chip.{Chip}
use Rattle.format.specs.declared.settings.Settings.{Settings}
use Rattle.format.specs.declared.settings.Rules.{Rules}
use Rattle.format.specs.declared.settings.Rules.TheVariants.{Ordinary, Archive}
use Rattle.format.specs.declared.records.Description.{Description}
use Rattle.format.specs.declared.records.Lamp.{Lamp}
use Rattle.format.specs.declared.records.PwmFan.{PwmFan}
use Rattle.format.specs.declared.records.Element.{Element}
use Rattle.format.specs.declared.records.Element.TheVariants.{Digital, Analogue, Fan, Led, Water, Pump, Voltage, Current}
use Rattle.format.specs.declared.records.Element.TheVariants.{Controller, Tachometer, Zone, Text, External, Rgb}
use Rattle.format.specs.declared.records.Address.{Address}
use Rattle.format.specs.declared.records.Address.TheVariants.{Bus, Select}

pub record Rule : Type 0 where
  pub number : ℕ
  pub kept : Bool

abbrev pub rule : ℕ → Bool → Rule
rule k t = record { number = k; kept = t }

-- what comes later where a test holds, and this number, a rule's or a place, where it does not
abbrev pub unless_kept : Bool → ℕ → Option ℕ → Option ℕ
unless_kept true k later = later
unless_kept false k later = some k

-- the number of the first rule that is not kept
abbrev pub first_broken : List Rule → Option ℕ
first_broken [] = none
first_broken (r ∷ rs) = unless_kept r.kept r.number (first_broken rs)

-- a rule's number; 0 where none is broken
abbrev pub numbered : Option ℕ → ℕ
numbered none = 0
numbered (some k) = k

-- The description. 4: 'device type not 1, 2 or 3'
abbrev pub typed : Description → Bool
typed d = among d.device (1 ∷ 2 ∷ 3 ∷ [])

-- 5: 'SPWR 0 and power units over 125'
abbrev pub powered : Description → Bool
powered d = d.spwr || leb d.power.0 125

-- 10, of the hardware revision pins
abbrev pub strapped : Chip → Description → Bool
strapped c d =
    allowed_or_unused c HardwareRevision d.revision0
    && (allowed_or_unused c HardwareRevision d.revision1 && allowed_or_unused c HardwareRevision d.revision2)

unfoldable pub description_rules : Chip → Description → List Rule
description_rules c d = rule 4 (typed d) ∷ rule 5 (powered d) ∷ rule 10 (strapped c d) ∷ []

-- An element. 8: '.. the blocks do not fill it exactly, or 09h has over 6 blocks or none'. A record's blocks always fill it;
-- 'length differs from the layout' can meet a zone descriptor (Table 30: 30 bytes) and a string (Table 29: 6 or more)
abbrev pub shaped : Record → Bool
shaped (digital d) = true
shaped (analogue a) = true
shaped (fan f) = true
shaped (led l) = true
shaped (water w) = true
shaped (pump f) = true
shaped (voltage v) = true
shaped (current c) = true
shaped (controller d bs) = leb 1 (length bs) && leb (length bs) 6
shaped (tachometer d a b) = true
shaped (zone bytes) = eqb (3 + length bytes) 30
shaped (string bytes) = leb 6 (3 + length bytes)
shaped (external x r g b) = true
shaped (rgb r) = true

-- 9: 'a reserved code in bus type' (Table 8), and 'an address of the other kind than its bus type has': SPI, 3h, has a chip
-- select, and every other code a bus address
abbrev pub bus_types : List ℕ
bus_types = 0 ∷ 1 ∷ 2 ∷ 3 ∷ []

abbrev pub of_its_bus : ℕ → Address → Bool
of_its_bus bus (Bus a) = not (eqb bus 3)
of_its_bus bus (Select p) = eqb bus 3

abbrev pub addressed : ℕ → Address → Bool
addressed bus a = among bus bus_types && of_its_bus bus a

-- 9: '.. thermal type' (Table 13: an NTC thermistor only)
abbrev pub thermal_types : List ℕ
thermal_types = 1 ∷ []

-- 9: 'a calibration value over 1023', a water level being one (8.8: 'calibration fields on a ten bit scale')
abbrev pub scaled : Counts → Bool
scaled c = leb c.0 1023

-- 9: '.. LED colour or purpose' (Tables 16 and 17); 'colour and purpose beside an unused LED pin, unchecked'
abbrev pub coloured : Lamp → Bool
coloured l = unused l.pin || among l.colour (1 ∷ 2 ∷ 3 ∷ 4 ∷ 5 ∷ []) && among l.purpose (0 ∷ 1 ∷ 2 ∷ 3 ∷ 4 ∷ [])

-- 9: 'ENTRIES 0 in a speed block'
abbrev pub filled : List Block → Bool
filled [] = true
filled (b ∷ bs) = leb 1 (length b.pairs) && filled bs

-- 9: a chip identifier that is not 'coded in Table 28'
abbrev pub chip_identifiers : List ℕ
chip_identifiers = 1 ∷ 2 ∷ 3 ∷ []

-- 9: 'no tachometer but PPR not 0', of a fan and of a pump
abbrev pub counted : PwmFan → Bool
counted f = not (unused f.tachometer) || eqb f.ppr 0

-- 9: 'a string numbered 0', 'malformed text, an odd number of bytes included', and those above
abbrev pub coded : Record → Bool
coded (digital d) = addressed d.bus d.address
coded (analogue a) =
    among a.thermal thermal_types
    && (scaled a.at0 && (scaled a.at25 && (scaled a.at50 && (scaled a.at75 && scaled a.at100))))
coded (fan f) = counted f
coded (led l) = coloured l.one && (coloured l.two && coloured l.three)
coded (water w) = scaled w.full && (scaled w.empty && scaled w.warning)
coded (pump f) = counted f
coded (voltage v) = true
coded (current c) = true
coded (controller d bs) = addressed d.bus d.address && filled bs
coded (tachometer d a b) = addressed d.bus d.address
coded (zone bytes) = true
coded (string bytes) = not (eqb (string_number bytes) 0) && well_formed (text_of bytes)
coded (external x r g b) = addressed x.device.bus x.device.address && among x.identifier chip_identifiers
coded (rgb r) = true

-- 23 (12/14): which bus types are in use, by the rules that the caller names: 2h, 'SMBUS block mode', 'is retired', and 'an archive
-- reader keeps the old rules'
abbrev pub bus_types_in_use : Rules → List ℕ
bus_types_in_use Ordinary = 0 ∷ 1 ∷ 3 ∷ []
bus_types_in_use Archive = bus_types

-- 23: a bus type that has a code (9 meets the others) and is not in use
abbrev pub type_in_use : Rules → ℕ → Bool
type_in_use k bus = not (among bus bus_types) || among bus (bus_types_in_use k)

abbrev pub in_use : Rules → Element → Bool
in_use k (Digital d) = type_in_use k d.bus
in_use k (Analogue a) = true
in_use k (Fan f) = true
in_use k (Led l) = true
in_use k (Water w) = true
in_use k (Pump f) = true
in_use k (Voltage v) = true
in_use k (Current c) = true
in_use k (Controller d) = type_in_use k d.bus
in_use k (Tachometer d) = type_in_use k d.bus
in_use k Zone = true
in_use k Text = true
in_use k (External x) = type_in_use k x.device.bus
in_use k (Rgb r) = true

-- 10, of a chip select
abbrev pub selected : Chip → Address → Bool
selected c (Bus a) = true
selected c (Select p) = allowed c ChipSelect p

-- 'PWM before tachometer .. in strictly rising order of the fan list'
abbrev pub rises : Pin → Optional Pin → Bool
rises p None = true
rises p (Some q) = ltb p.0 q.0

-- 10 of a fan and of a pump
abbrev pub fanned : Chip → PwmFan → Bool
fanned c f = allowed c FanPin f.pwm && (allowed_or_unused c FanPin f.tachometer && rises f.pwm f.tachometer)

-- 10: 'a used pin that does not exist, is not permitted, or breaks the rising order'; red, green, blue rise too
abbrev pub pinned : Chip → Record → Bool
pinned c (digital d) = selected c d.address
pinned c (analogue a) = allowed c AnaloguePin a.pin
pinned c (fan f) = fanned c f
pinned c (led l) =
    allowed_or_unused c StatusLed l.one.pin
    && (allowed_or_unused c StatusLed l.two.pin && allowed_or_unused c StatusLed l.three.pin)
pinned c (water w) = allowed c AnaloguePin w.pin
pinned c (pump f) = fanned c f
pinned c (voltage v) = allowed c AnaloguePin v.pin
pinned c (current x) = allowed c AnaloguePin x.pin
pinned c (controller d bs) = selected c d.address
pinned c (tachometer d a b) = selected c d.address
pinned c (zone bytes) = true
pinned c (string bytes) = true
pinned c (external x r g b) = selected c x.device.address
pinned c (rgb r) =
    allowed c FanPin r.red
    && (allowed c FanPin r.green
    && (allowed c FanPin r.blue && (ltb r.red.0 r.green.0 && ltb r.green.0 r.blue.0)))

-- the rules that an element keeps or breaks by itself, in their order: the reader and the writer share them
unfoldable pub own_rules : Settings → Record → List Rule
own_rules s r = rule 8 (shaped r) ∷ rule 9 (coded r) ∷ rule 23 (in_use s.rules (element_of r)) ∷ rule 10 (pinned s.chip r) ∷ []

-- Rule 25, of the description and of an element's fields: 'a number in the record is too large for its field'; here, that none
-- is. Lengths and ENTRIES are the layout's and not the record's, so that a part that is too long for them is none of 25's.
abbrev pub description_roomy : Description → Bool
description_roomy d = all_roomy (opening d 16)

abbrev pub element_roomy : Element → Bool
element_roomy e = all_roomy (fixed e)

-- What leaves no trace in the bytes, and so is asked of a record that stands there: its address is of the kind that its bus type
-- has, its pins are of the named chip, and what FFh stands for is unused.
abbrev pub chosen : Chip → Address → Bool
chosen c (Bus a) = true
chosen c (Select p) = of_chip c p

abbrev pub of_its_device : Chip → ℕ → Address → Bool
of_its_device c bus a = of_its_bus bus a && chosen c a

abbrev pub of_its_motor : Chip → PwmFan → Bool
of_its_motor c f = of_chip c f.pwm && standing c f.tachometer

abbrev pub of_its_kind : Chip → Record → Bool
of_its_kind c (digital d) = of_its_device c d.bus d.address
of_its_kind c (analogue a) = of_chip c a.pin
of_its_kind c (fan f) = of_its_motor c f
of_its_kind c (led l) = standing c l.one.pin && (standing c l.two.pin && standing c l.three.pin)
of_its_kind c (water w) = of_chip c w.pin
of_its_kind c (pump f) = of_its_motor c f
of_its_kind c (voltage v) = of_chip c v.pin
of_its_kind c (current x) = of_chip c x.pin
of_its_kind c (controller d bs) = of_its_device c d.bus d.address
of_its_kind c (tachometer d a b) = of_its_device c d.bus d.address
of_its_kind c (zone bytes) = true
of_its_kind c (string bytes) = true
of_its_kind c (external x r g b) = of_its_device c x.device.bus x.device.address
of_its_kind c (rgb r) = of_chip c r.red && (of_chip c r.green && of_chip c r.blue)

abbrev pub description_kind : Chip → Description → Bool
description_kind c d = standing c d.revision0 && (standing c d.revision1 && standing c d.revision2)
