-- What keeps 9 and is not in use has no pin of its own: its bus type is not SPI, and so it has no chip select.
-- Assumes nothing.
use Prim.Native.Nat.{ℕ}
use mathlib.Core.Path.{◌≡◌, refl, sym, ◌∙◌}
use mathlib.Core.Bool.{true, false, false≢true}
use lib.Dec.{eqb}
use borrow.Author.Tests.{eqb-true}
use Rattle.format.specs.Records.{Record, digital, analogue, fan, led, water, pump, voltage, current, controller, tachometer, zone, string}
use Rattle.format.specs.Records.{external, rgb, element_of}
use Rattle.format.specs.Pins.{among}
use Rattle.format.specs.Rules.{bus_types, type_in_use, in_use, addressed, filled, chip_identifiers, coded}
use Rattle.format.specs.declared.records.Address.{Address}
use Rattle.format.specs.declared.records.Address.TheVariants.{Bus, Select}
use Rattle.format.specs.declared.settings.Rules.TheVariants.{Ordinary}
use Rattle.format.proofs.Kept.{and-true}
use Rattle.shown.specs.Own.{three, no_pins, select_of, own_pins}

bare_device :
    (bus : ℕ) (a : Address)
    → addressed bus a ≡ true
    → type_in_use Ordinary bus ≡ false
    → three (select_of a) 0xff 0xff ≡ no_pins
bare_device bus (Bus a) h u = refl
bare_device bus (Select p) h u =
    let q : bus ≡ 3 = eqb-true bus 3 (and-true (among bus bus_types) (eqb bus 3) h).1 in
    absurd (false≢true (sym u ∙ rw q refl))

pub bare : (r : Record) → coded r ≡ true → in_use Ordinary (element_of r) ≡ false → own_pins (element_of r) ≡ no_pins
bare (digital d) h u = bare_device d.bus d.address h u
bare (analogue a) h u = absurd (false≢true (sym u))
bare (fan f) h u = absurd (false≢true (sym u))
bare (led l) h u = absurd (false≢true (sym u))
bare (water w) h u = absurd (false≢true (sym u))
bare (pump f) h u = absurd (false≢true (sym u))
bare (voltage v) h u = absurd (false≢true (sym u))
bare (current c) h u = absurd (false≢true (sym u))
bare (controller d bs) h u = bare_device d.bus d.address (and-true (addressed d.bus d.address) (filled bs) h).0 u
bare (tachometer d a b) h u = bare_device d.bus d.address h u
bare (zone bytes) h u = refl
bare (string bytes) h u = refl
bare (external x r g b) h u =
    let d = x.device in
    bare_device d.bus d.address (and-true (addressed d.bus d.address) (among x.identifier chip_identifiers) h).0 u
bare (rgb r) h u = absurd (false≢true (sym u))
