-- The named fields of a description and of each kind of element, in layout order (ruling 5/14).
-- Assumes nothing.
use Rattle.std.specs.Prelude.{ℕ, cond, List, [], ◌∷◌, ◌++◌, map, eqb}
use Prim.Native.Char.{code}
use Prim.Native.String.{String}
use Rattle.format.specs.Slots.{bit, written}
use Rattle.format.specs.Records.{Record, element_of}
use Rattle.format.specs.Layout.{optional_byte, part}
use Rattle.format.specs.declared.records.Description.{Description}
use Rattle.format.specs.declared.records.Placement.{Placement}
use Rattle.format.specs.declared.records.Lamp.{Lamp}
use Rattle.format.specs.declared.records.PwmFan.{PwmFan}
use Rattle.format.specs.declared.records.Address.{Address}
use Rattle.format.specs.declared.records.Address.TheVariants.{Bus, Select}
use Rattle.format.specs.declared.records.Element.{Element}
use Rattle.format.specs.declared.records.Element.TheVariants.{Digital, Analogue, Fan, Led, Water, Pump, Voltage, Current, Controller}
use Rattle.format.specs.declared.records.Element.TheVariants.{Tachometer, Zone, Text, External, Rgb}
use Rattle.spelling.specs.Spelling.{decimal, hex_pair, pin_or_dash}

-- what a field holds: a number or a pin byte, of which FFh is unused
pub data Content : Type 0 where
  number : ℕ → Content
  pin : ℕ → Content

-- 'Contents are decimal, pins as in the listing'
abbrev pub shown : Content → List ℕ
shown (number v) = decimal v
shown (pin p) = pin_or_dash p

-- '.. variable parts hex': 'whole, capitals without spaces, an empty one an empty field'
abbrev pub hex : List ℕ → List ℕ
hex [] = []
hex (b ∷ bs) = hex_pair b ++ hex bs

-- the description's fields
abbrev pub described : Description → List Content
described d =
    number d.device
    ∷ number d.string
    ∷ number d.serial
    ∷ number (bit d.spwr)
    ∷ number d.power.0
    ∷ pin (optional_byte d.revision0)
    ∷ pin (optional_byte d.revision1)
    ∷ pin (optional_byte d.revision2)
    ∷ []

-- 'The device address is one field: the seven-bit number in decimal, or the pin'
abbrev pub addressed : Address → Content
addressed (Bus a) = number a
addressed (Select p) = pin p.0

-- the fields that 'elements but zones and strings' begin with, and then those of the kind
abbrev pub placed : Placement → List Content → List Content
placed p cs = number p.string ∷ number p.x.0 ∷ number p.y.0 ∷ number p.z.0 ∷ number p.zone ∷ cs

-- one lamp of a status LED, and what follows it
abbrev pub lit : Lamp → List Content → List Content
lit l cs = pin (optional_byte l.pin) ∷ number l.colour ∷ number l.purpose ∷ cs

-- a fan's or a pump's
abbrev pub driven : PwmFan → List Content
driven f =
    placed f.placement
    (pin f.pwm.0
    ∷ pin (optional_byte f.tachometer)
    ∷ number f.ppr
    ∷ number f.minrpm.0
    ∷ number f.maxrpm.0
    ∷ number f.duty
    ∷ [])

-- an element's fields but for its variable part
abbrev pub contents : Element → List Content
contents (Digital d) =
    placed d.placement
    (number d.bus
    ∷ addressed d.address
    ∷ number d.lsb
    ∷ number d.msb
    ∷ number d.minvalue
    ∷ number d.mintemp.0
    ∷ number d.maxvalue
    ∷ number d.maxtemp.0
    ∷ [])
contents (Analogue a) =
    placed a.placement
    (number a.thermal
    ∷ pin a.pin.0
    ∷ number a.at0.0
    ∷ number a.at25.0
    ∷ number a.at50.0
    ∷ number a.at75.0
    ∷ number a.at100.0
    ∷ [])
contents (Fan f) = driven f
contents (Led l) = placed l.placement (lit l.one (lit l.two (lit l.three [])))
contents (Water w) =
    placed w.placement (pin w.pin.0 ∷ number w.full.0 ∷ number w.empty.0 ∷ number w.warning.0 ∷ [])
contents (Pump f) = driven f
contents (Voltage v) = placed v.placement (pin v.pin.0 ∷ number v.vmax.0 ∷ number v.vmin.0 ∷ [])
contents (Current c) = placed c.placement (pin c.pin.0 ∷ number c.imin.0 ∷ number c.imax.0 ∷ [])
contents (Controller d) = placed d.placement (number d.bus ∷ addressed d.address ∷ [])
contents (Tachometer d) = placed d.placement (number d.bus ∷ addressed d.address ∷ [])
contents Zone = []
contents Text = []
contents (External x) =
    placed x.device.placement (number x.device.bus ∷ addressed x.device.address ∷ number x.identifier ∷ [])
contents (Rgb r) = placed r.placement (pin r.red.0 ∷ pin r.green.0 ∷ pin r.blue.0 ∷ [])

-- the fields of a record as text; every element has a variable part, which of nine kinds is empty and so never differs
abbrev pub texts : Record → List (List ℕ)
texts r = map shown (contents (element_of r)) ++ hex (written (part r)) ∷ []

-- the names: 'field names are 000's in small letters, in layout order'
abbrev pub description_names : List String
description_names =
    "esa device type" ∷ "string index" ∷ "serial number" ∷ "spwr" ∷ "power units"
    ∷ "hardware revision 0" ∷ "hardware revision 1" ∷ "hardware revision 2" ∷ []

-- of elements but zones and strings the first five, and then those of the kind
abbrev pub placed_names : List String → List String
placed_names ns = "string index" ∷ "x pos" ∷ "y pos" ∷ "z pos" ∷ "zone identifier" ∷ ns

abbrev pub driven_names : List String
driven_names = placed_names ("pwm" ∷ "tach" ∷ "ppr" ∷ "minimum rpm" ∷ "maximum rpm" ∷ "minimum duty cycle" ∷ [])

-- those of each identifier, in the ruling's order; what is none of the other thirteen is 0Eh
abbrev pub own_names : ℕ → List String
own_names id =
    cond (eqb id 0x01)
    (placed_names ("bus type" ∷ "device address" ∷ "temperature lsb read register" ∷ "temperature msb read register"
    ∷ "minimum value" ∷ "minimum temp" ∷ "maximum value" ∷ "maximum temp" ∷ []))
    (cond (eqb id 0x02)
    (placed_names ("thermal analog type" ∷ "pin" ∷ "value0" ∷ "value25" ∷ "value50" ∷ "value75" ∷ "value100" ∷ []))
    (cond (eqb id 0x03) driven_names
    (cond (eqb id 0x04)
    (placed_names ("pin1" ∷ "color1" ∷ "purpose1" ∷ "pin2" ∷ "color2" ∷ "purpose2" ∷ "pin3" ∷ "color3" ∷ "purpose3" ∷ []))
    (cond (eqb id 0x05) (placed_names ("pin" ∷ "full" ∷ "empty" ∷ "warning" ∷ []))
    (cond (eqb id 0x06) driven_names
    (cond (eqb id 0x07) (placed_names ("pin" ∷ "vmax" ∷ "vmin" ∷ []))
    (cond (eqb id 0x08) (placed_names ("pin" ∷ "imin" ∷ "imax" ∷ []))
    (cond (eqb id 0x09) (placed_names ("bus type" ∷ "device address" ∷ []))
    (cond (eqb id 0x0a) (placed_names ("bus type" ∷ "device address" ∷ []))
    (cond (eqb id 0x0b) [] (cond (eqb id 0x0c) []
    (cond (eqb id 0x0d) (placed_names ("bus type" ∷ "device address" ∷ "chip identifier" ∷ []))
    (placed_names ("red" ∷ "green" ∷ "blue" ∷ []))))))))))))))

-- the names of an element's fields, its variable part last
abbrev pub element_names : ℕ → List String
element_names id = own_names id ++ "variable part" ∷ []

-- a name in ASCII codes
abbrev pub ascii : String → List ℕ
ascii String.[] = []
ascii (String.◌∷◌ c s) = code c ∷ ascii s
