-- A record of an element without its variable part, in which no pin stands.
-- Assumes nothing.
use Rattle.std.specs.Prelude.{[]}
use Rattle.format.specs.Records.{Record, digital, analogue, fan, led, water, pump, voltage, current, controller, tachometer, zone, string}
use Rattle.format.specs.Records.{external, rgb}
use Rattle.format.specs.declared.records.Element.{Element}
use Rattle.format.specs.declared.records.Element.TheVariants.{Digital, Analogue, Fan, Led, Water, Pump, Voltage, Current, Controller}
use Rattle.format.specs.declared.records.Element.TheVariants.{Tachometer, Zone, Text, External, Rgb}

abbrev pub bare : Element → Record
bare (Digital d) = digital d
bare (Analogue a) = analogue a
bare (Fan f) = fan f
bare (Led l) = led l
bare (Water w) = water w
bare (Pump f) = pump f
bare (Voltage v) = voltage v
bare (Current c) = current c
bare (Controller d) = controller d []
bare (Tachometer d) = tachometer d [] []
bare Zone = zone []
bare Text = string []
bare (External x) = external x [] [] []
bare (Rgb r) = rgb r
