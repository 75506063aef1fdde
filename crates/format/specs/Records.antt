-- The record of an element: its fixed fields and, taken apart, its variable part. One case for each of the fourteen kinds.
-- Assumes nothing.
use Rattle.std.specs.Prelude.{ℕ, Bool, ◌&&◌, List, get_or, drop, eqb}
use Rattle.format.specs.declared.units.HundredRpm.{HundredRpm}
use Rattle.format.specs.declared.records.Placement.{Placement}
use Rattle.format.specs.declared.records.DigitalSensor.{DigitalSensor}
use Rattle.format.specs.declared.records.AnalogueSensor.{AnalogueSensor}
use Rattle.format.specs.declared.records.PwmFan.{PwmFan}
use Rattle.format.specs.declared.records.StatusLed.{StatusLed}
use Rattle.format.specs.declared.records.WaterLevel.{WaterLevel}
use Rattle.format.specs.declared.records.VoltageSensor.{VoltageSensor}
use Rattle.format.specs.declared.records.CurrentSensor.{CurrentSensor}
use Rattle.format.specs.declared.records.BusDevice.{BusDevice}
use Rattle.format.specs.declared.records.ExternalRgb.{ExternalRgb}
use Rattle.format.specs.declared.records.RgbLed.{RgbLed}
use Rattle.format.specs.declared.records.RegisterPair.{RegisterPair}
use Rattle.format.specs.declared.records.Element.{Element}
use Rattle.format.specs.declared.records.Element.TheVariants.{Digital, Analogue, Fan, Led, Water, Pump, Voltage, Current}
use Rattle.format.specs.declared.records.Element.TheVariants.{Controller, Tachometer, Zone, Text, External, Rgb}

-- 01: 'A speed block is SPEED (in units of 100 RPM), ENTRIES and that many pairs'; the layout supplies ENTRIES
pub record Block : Type 0 where
  pub speed : HundredRpm
  pub pairs : List RegisterPair

pub data Record : Type 0 where
  digital : DigitalSensor → Record
  analogue : AnalogueSensor → Record
  fan : PwmFan → Record
  led : StatusLed → Record
  water : WaterLevel → Record
  -- 8.9: 'shares the same format'; a kind of its own
  pump : PwmFan → Record
  voltage : VoltageSensor → Record
  current : CurrentSensor → Record
  -- 'Element 09h holds the default block and then 0 to 5 more'
  controller : BusDevice → List Block → Record
  -- 'Element 0Ah holds two blocks of one ENTRIES byte and its pairs'
  tachometer : BusDevice → List RegisterPair → List RegisterPair → Record
  -- 'of a string or zone all bytes after the header, which are its whole record'
  zone : List ℕ → Record
  string : List ℕ → Record
  -- Table 27: RED, GREEN and BLUE ENTRIES, each with its register pairs
  external : ExternalRgb → List RegisterPair → List RegisterPair → List RegisterPair → Record
  rgb : RgbLed → Record

-- Table 30: the zone's number and its string index; Table 29: the string's number and its text
abbrev pub zone_number : List ℕ → ℕ
zone_number bytes = get_or bytes 0 0

abbrev pub zone_string : List ℕ → ℕ
zone_string bytes = get_or bytes 1 0

abbrev pub string_number : List ℕ → ℕ
string_number bytes = get_or bytes 0 0

abbrev pub text_of : List ℕ → List ℕ
text_of bytes = drop 3 bytes

-- 000, 8.4 and every kind with a position: 'If measurement is not possible or is not meaningful for the device, all three fields
-- shall be set to FFh'
abbrev pub unknown_position : Placement → Bool
unknown_position p = eqb p.x.0 0xff && eqb p.y.0 0xff && eqb p.z.0 0xff

-- the element that a record is of, as the code holds it: the record but for its variable part
abbrev pub element_of : Record → Element
element_of (digital d) = Digital d
element_of (analogue a) = Analogue a
element_of (fan f) = Fan f
element_of (led l) = Led l
element_of (water w) = Water w
element_of (pump f) = Pump f
element_of (voltage v) = Voltage v
element_of (current c) = Current c
element_of (controller d bs) = Controller d
element_of (tachometer d a b) = Tachometer d
element_of (zone bytes) = Zone
element_of (string bytes) = Text
element_of (external x r g b) = External x
element_of (rgb r) = Rgb r
