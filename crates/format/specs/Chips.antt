-- A record and a table as they would be on another chip: each pin carries that chip, and nothing else changes.
-- Assumes nothing.
use Rattle.std.specs.Prelude.{List, map}
use Rattle.format.specs.Records.{Record, digital, analogue, fan, led, water, pump, voltage, current, controller, tachometer, zone}
use Rattle.format.specs.Records.{string, external, rgb}
use Rattle.format.specs.Decode.{pin_of, digital_of, analogue_of, fan_of, lamp_of, led_of, water_of, voltage_of, current_of, device_of}
use Rattle.format.specs.Decode.{external_of, rgb_of, description_of}
use Rattle.format.specs.declared.pins.Chip.{Chip}
use Rattle.format.specs.declared.pins.Pin.{Pin}
use Rattle.std.specs.Prelude.{Option}
use Rattle.format.specs.declared.pins.Pin.{Pin}
use Rattle.std.specs.Prelude.{None, Some}
use Rattle.format.specs.declared.settings.Settings.{Settings}
use Rattle.format.specs.declared.records.Description.{Description}
use Rattle.format.specs.declared.records.Lamp.{Lamp}
use Rattle.format.specs.declared.records.BusDevice.{BusDevice}
use Rattle.format.specs.declared.records.PwmFan.{PwmFan}
use Rattle.format.specs.declared.records.Address.{Address}
use Rattle.format.specs.declared.records.Address.TheVariants.{Bus, Select}

-- the settings with another chip
abbrev pub with_chip : Chip → Settings → Settings
with_chip c s = record { chip = c; rules = s.rules }

abbrev pub pin_on : Chip → Pin → Pin
pin_on c p = pin_of c p.0

abbrev pub optional_on : Chip → Option Pin → Option Pin
optional_on c None = None
optional_on c (Some p) = Some (pin_on c p)

abbrev pub address_on : Chip → Address → Address
address_on c (Bus a) = Bus a
address_on c (Select p) = Select (pin_on c p)

abbrev pub device_on : Chip → BusDevice → BusDevice
device_on c d = device_of d.placement d.bus (address_on c d.address)

abbrev pub lamp_on : Chip → Lamp → Lamp
lamp_on c l = lamp_of (optional_on c l.pin) l.colour l.purpose

abbrev pub motor_on : Chip → PwmFan → PwmFan
motor_on c f =
    fan_of f.placement (pin_on c f.pwm) (optional_on c f.tachometer) f.ppr f.minrpm.0 f.maxrpm.0 f.duty

abbrev pub record_on : Chip → Record → Record
record_on c (digital d) =
    digital
    (digital_of d.placement d.bus (address_on c d.address) d.lsb d.msb d.minvalue d.mintemp.0 d.maxvalue
    d.maxtemp.0)
record_on c (analogue a) =
    analogue
    (analogue_of a.placement a.thermal (pin_on c a.pin) a.at0.0 a.at25.0 a.at50.0 a.at75.0 a.at100.0)
record_on c (fan f) = fan (motor_on c f)
record_on c (led l) = led (led_of l.placement (lamp_on c l.one) (lamp_on c l.two) (lamp_on c l.three))
record_on c (water w) = water (water_of w.placement (pin_on c w.pin) w.full.0 w.empty.0 w.warning.0)
record_on c (pump f) = pump (motor_on c f)
record_on c (voltage v) = voltage (voltage_of v.placement (pin_on c v.pin) v.vmax.0 v.vmin.0)
record_on c (current x) = current (current_of x.placement (pin_on c x.pin) x.imin.0 x.imax.0)
record_on c (controller d bs) = controller (device_on c d) bs
record_on c (tachometer d a b) = tachometer (device_on c d) a b
record_on c (zone bytes) = zone bytes
record_on c (string bytes) = string bytes
record_on c (external x r g b) = external (external_of (device_on c x.device) x.identifier) r g b
record_on c (rgb r) = rgb (rgb_of r.placement (pin_on c r.red) (pin_on c r.green) (pin_on c r.blue))

abbrev pub records_on : Chip → List Record → List Record
records_on c rs = map (record_on c) rs

abbrev pub description_on : Chip → Description → Description
description_on c d =
    description_of d.device d.string d.serial d.spwr d.power.0 (optional_on c d.revision0) (optional_on c d.revision1)
    (optional_on c d.revision2)
