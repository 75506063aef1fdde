-- A record with another placement: what else it holds stays.
-- Assumes nothing.
use Rattle.format.specs.Records.{Record, digital, analogue, fan, led, water, pump, voltage, current, controller, tachometer, zone}
use Rattle.format.specs.Records.{string, external, rgb}
use Rattle.format.specs.declared.records.Placement.{Placement}
use Rattle.format.specs.declared.records.PwmFan.{PwmFan}
use Rattle.format.specs.declared.records.BusDevice.{BusDevice}

abbrev pub placed_device : Placement → BusDevice → BusDevice
placed_device p d = record { placement = p; bus = d.bus; address = d.address }

abbrev pub placed_motor : Placement → PwmFan → PwmFan
placed_motor p f =
    record {
      placement = p;
      pwm = f.pwm;
      tachometer = f.tachometer;
      ppr = f.ppr;
      minrpm = f.minrpm;
      maxrpm = f.maxrpm;
      duty = f.duty;
    }

-- a zone descriptor and a string have no placement
abbrev pub with_placement : Placement → Record → Record
with_placement p (digital d) =
    digital
    (record {
      placement = p;
      bus = d.bus;
      address = d.address;
      lsb = d.lsb;
      msb = d.msb;
      minvalue = d.minvalue;
      mintemp = d.mintemp;
      maxvalue = d.maxvalue;
      maxtemp = d.maxtemp;
    })
with_placement p (analogue a) =
    analogue
    (record {
      placement = p;
      thermal = a.thermal;
      pin = a.pin;
      at0 = a.at0;
      at25 = a.at25;
      at50 = a.at50;
      at75 = a.at75;
      at100 = a.at100;
    })
with_placement p (fan f) = fan (placed_motor p f)
with_placement p (led l) = led (record { placement = p; one = l.one; two = l.two; three = l.three })
with_placement p (water w) =
    water (record { placement = p; pin = w.pin; full = w.full; empty = w.empty; warning = w.warning })
with_placement p (pump f) = pump (placed_motor p f)
with_placement p (voltage v) = voltage (record { placement = p; pin = v.pin; vmax = v.vmax; vmin = v.vmin })
with_placement p (current c) = current (record { placement = p; pin = c.pin; imin = c.imin; imax = c.imax })
with_placement p (controller d bs) = controller (placed_device p d) bs
with_placement p (tachometer d a b) = tachometer (placed_device p d) a b
with_placement p (zone bytes) = zone bytes
with_placement p (string bytes) = string bytes
with_placement p (external x r g b) =
    external (record { device = placed_device p x.device; identifier = x.identifier }) r g b
with_placement p (rgb r) = rgb (record { placement = p; red = r.red; green = r.green; blue = r.blue })
