-- What an element says of itself: its own pins and its zone.
-- Assumes nothing.
use Rattle.std.specs.Prelude.{ℕ, List}
use Rattle.std.specs.declared.option.Option.{Option}
use Rattle.std.specs.declared.option.Option.TheVariants.{Some, None}
use Rattle.format.specs.Records.{zone_number}
use Rattle.format.specs.Layout.{optional_byte}
use Rattle.format.specs.declared.records.Address.{Address}
use Rattle.format.specs.declared.records.Address.TheVariants.{Bus, Select}
use Rattle.format.specs.declared.records.PwmFan.{PwmFan}
use Rattle.format.specs.declared.records.StatusLed.{StatusLed}
use Rattle.format.specs.declared.records.Element.{Element}
use Rattle.format.specs.declared.records.Element.TheVariants.{Digital, Analogue, Fan, Led, Water, Pump, Voltage, Current, Controller}
use Rattle.format.specs.declared.records.Element.TheVariants.{Tachometer, Zone, Text, External, Rgb}
use Rattle.shown.specs.declared.OwnPins.{OwnPins}

-- an element's 'own .. pins' in field order, FFh where there is none; a chip select is one, shared pins are not
abbrev pub three : ℕ → ℕ → ℕ → OwnPins
three a b c = record { one = a; two = b; three = c }

abbrev pub no_pins : OwnPins
no_pins = three 0xff 0xff 0xff

abbrev pub select_of : Address → ℕ
select_of (Bus a) = 0xff
select_of (Select p) = p.0

abbrev pub fan_pins : PwmFan → OwnPins
fan_pins f = three f.pwm.0 (optional_byte f.tachometer) 0xff

abbrev pub lamp_pins : StatusLed → OwnPins
lamp_pins l = three (optional_byte l.one.pin) (optional_byte l.two.pin) (optional_byte l.three.pin)

abbrev pub own_pins : Element → OwnPins
own_pins (Digital d) = three (select_of d.address) 0xff 0xff
own_pins (Analogue a) = three a.pin.0 0xff 0xff
own_pins (Fan f) = fan_pins f
own_pins (Led l) = lamp_pins l
own_pins (Water w) = three w.pin.0 0xff 0xff
own_pins (Pump f) = fan_pins f
own_pins (Voltage v) = three v.pin.0 0xff 0xff
own_pins (Current c) = three c.pin.0 0xff 0xff
own_pins (Controller d) = three (select_of d.address) 0xff 0xff
own_pins (Tachometer d) = three (select_of d.address) 0xff 0xff
own_pins Zone = no_pins
own_pins Text = no_pins
own_pins (External x) = three (select_of x.device.address) 0xff 0xff
own_pins (Rgb r) = three r.red.0 r.green.0 r.blue.0

-- 'zone (of a zone descriptor its own number)', from the element and its variable part; a string has none
abbrev pub zone_of : Element → List ℕ → Option ℕ
zone_of (Digital d) p = Some d.placement.zone
zone_of (Analogue a) p = Some a.placement.zone
zone_of (Fan f) p = Some f.placement.zone
zone_of (Led l) p = Some l.placement.zone
zone_of (Water w) p = Some w.placement.zone
zone_of (Pump f) p = Some f.placement.zone
zone_of (Voltage v) p = Some v.placement.zone
zone_of (Current c) p = Some c.placement.zone
zone_of (Controller d) p = Some d.placement.zone
zone_of (Tachometer d) p = Some d.placement.zone
zone_of Zone p = Some (zone_number p)
zone_of Text p = None
zone_of (External x) p = Some x.device.placement.zone
zone_of (Rgb r) p = Some r.placement.zone
