-- What was put into the numbers is read back from them: every element and every description of the named chip, whatever its fields.
-- Of its kind: FFh is an unused place, and all pins are of one chip.
-- Assumes nothing.
use Prim.Native.Nat.{ℕ, ◌+◌, ◌*◌, ◌/◌, ◌%◌}
use native.Mathlib.Omega.{arith}
use mathlib.Core.Path.{◌≡◌, refl, sym, ◌∙◌, ap}
use mathlib.Core.Bool.{Bool, true, false, ◌&&◌, not}
use borrow.Author.Tests.{not-true}
use mathlib.Core.List.{List}
use lib.Dec.{eqb}
use Rattle.format.specs.Slots.{bit, byte}
use Rattle.format.specs.Records.{Record, digital, analogue, fan, led, water, pump, voltage, current, controller, tachometer, zone, string}
use Rattle.format.specs.Records.{external, rgb, element_of}
use Rattle.format.specs.Layout.{id_of, optional_byte}
use Rattle.format.specs.Pins.{of_chip, standing}
use Rattle.format.specs.Rules.{of_its_bus, chosen, of_its_motor, of_its_kind, description_kind}
use Rattle.format.specs.Decode.{pin_of, optional_of, digital_of, analogue_of, fan_of, lamp_of, led_of, water_of, voltage_of, current_of, device_of}
use Rattle.format.specs.Decode.{external_of, rgb_of, description_of, read_fan}
use Rattle.format.specs.declared.pins.Chip.{Chip}
use Rattle.format.specs.declared.pins.Chip.TheVariants.{C8051F320, C8051F321}
use Rattle.format.specs.declared.pins.Pin.{Pin}
use Rattle.std.specs.Prelude.{Option}
use Rattle.format.specs.declared.pins.Pin.{Pin}
use Rattle.std.specs.Prelude.{None, Some}
use Rattle.format.specs.declared.records.Description.{Description}
use Rattle.format.specs.declared.records.Address.{Address}
use Rattle.format.specs.declared.records.Address.TheVariants.{Bus, Select}
use Rattle.format.specs.declared.records.Lamp.{Lamp}
use Rattle.format.specs.declared.records.PwmFan.{PwmFan}
use Rattle.format.specs.declared.records.Element.TheVariants.{Digital, Analogue, Fan, Led, Water, Pump, Voltage, Current, Controller}
use Rattle.format.specs.declared.records.Element.TheVariants.{Tachometer, External, Rgb}
use Rattle.format.proofs.Kept.{and-true}
use Rattle.format.proofs.EachKind.{pin_only}
use Rattle.std.specs.Prelude.{Some as Found}
use Rattle.numbers.specs.From.{pick_chip, address_from, element_from, description_from}
use Rattle.numbered.specs.Into.{padded, chip_number, kind_of, address_of, motor_numbers, element_into, description_into}

-- the number in the bytes that it was put into
two : (v : ℕ) → v % 256 + 256 * (v / 256) ≡ v
two v = omega arith

four : (v : ℕ) → v % 256 + 256 * (v / 256 % 256) + 65536 * (v / 65536 % 256) + 16777216 * (v / 16777216) ≡ v
four v = omega arith

flag : (t : Bool) → not (eqb (bit t) 0) ≡ t
flag true = refl
flag false = refl

-- the chip in byte 31, and what carries it
abbrev named : Chip → Chip
named c = pick_chip (eqb (chip_number c) 0)

chip_back : (c : Chip) → named c ≡ c
chip_back C8051F320 = refl
chip_back C8051F321 = refl

module _ (c : Chip) where
  pin_back : (p : Pin) → of_chip c p ≡ true → pin_of (named c) p.0 ≡ p
  pin_back p h = ap (λ (k : Chip). pin_of k p.0) (chip_back c) ∙ sym (pin_only c p.0 p refl h)

  optional_back : (p : Option Pin) → standing c p ≡ true → optional_of (named c) (optional_byte p) ≡ p
  optional_back None h = refl
  optional_back (Some p) h =
      let q = and-true (of_chip c p) (not (eqb p.0 0xff)) h in
      rw (not-true (eqb p.0 0xff) q.1) (ap Some (pin_back p q.0))

  back : (a : Address) → chosen c a ≡ true → address_from (named c) (eqb (kind_of a) 0) (address_of a) ≡ a
  back (Bus a) h = refl
  back (Select p) h = ap Select (pin_back p h)

  address_back :
      (bus : ℕ) (a : Address) → of_its_bus bus a && chosen c a ≡ true → address_from (named c) (eqb (kind_of a) 0) (address_of a) ≡ a
  address_back bus a h = back a (and-true (of_its_bus bus a) (chosen c a) h).1

  lamp_back : (l : Lamp) → standing c l.pin ≡ true → lamp_of (optional_of (named c) (optional_byte l.pin)) l.colour l.purpose ≡ l
  lamp_back l h = ap (λ (p : Option Pin). lamp_of p l.colour l.purpose) (optional_back l.pin h)

  -- the numbers of a fan and of a pump
  motor_back : (f : PwmFan) → of_its_motor c f ≡ true → read_fan (named c) (byte (padded (motor_numbers f) (chip_number c))) ≡ f
  motor_back f h =
      let q = and-true (of_chip c f.pwm) (standing c f.tachometer) h in
      λ i. fan_of f.placement (pin_back f.pwm q.0 i) (optional_back f.tachometer q.1 i) f.ppr (two f.minrpm.0 i)
      (two f.maxrpm.0 i) f.duty

  pub from_into :
      (x : Record) (p : List ℕ)
      → of_its_kind c x ≡ true
      → element_from (id_of (element_of x)) (element_into c (element_of x) p) ≡ Found (element_of x)
  from_into (digital d) p h =
      λ i. Found (Digital (digital_of d.placement d.bus (address_back d.bus d.address h i) (two d.lsb i) (two d.msb i)
      (two d.minvalue i) d.mintemp.0 (two d.maxvalue i) d.maxtemp.0))
  from_into (analogue a) p h =
      λ i. Found (Analogue (analogue_of a.placement a.thermal (pin_back a.pin h i) (two a.at0.0 i) (two a.at25.0 i)
      (two a.at50.0 i) (two a.at75.0 i) (two a.at100.0 i)))
  from_into (fan f) p h = λ i. Found (Fan (motor_back f h i))
  from_into (led l) p h =
      let q = and-true (standing c l.one.pin) (standing c l.two.pin && standing c l.three.pin) h in
      let r = and-true (standing c l.two.pin) (standing c l.three.pin) q.1 in
      λ i. Found (Led (led_of l.placement (lamp_back l.one q.0 i) (lamp_back l.two r.0 i) (lamp_back l.three r.1 i)))
  from_into (water w) p h =
      λ i. Found (Water (water_of w.placement (pin_back w.pin h i) (two w.full.0 i) (two w.empty.0 i) (two w.warning.0 i)))
  from_into (pump f) p h = λ i. Found (Pump (motor_back f h i))
  from_into (voltage v) p h = λ i. Found (Voltage (voltage_of v.placement (pin_back v.pin h i) v.vmax.0 v.vmin.0))
  from_into (current x) p h =
      λ i. Found (Current (current_of x.placement (pin_back x.pin h i) (two x.imin.0 i) (two x.imax.0 i)))
  from_into (controller d bs) p h =
      λ i. Found (Controller (device_of d.placement d.bus (address_back d.bus d.address h i)))
  from_into (tachometer d a b) p h =
      λ i. Found (Tachometer (device_of d.placement d.bus (address_back d.bus d.address h i)))
  from_into (zone bytes) p h = refl
  from_into (string bytes) p h = refl
  from_into (external x r g b) p h =
      let d = x.device in
      λ i. Found (External (external_of (device_of d.placement d.bus (address_back d.bus d.address h i)) x.identifier))
  from_into (rgb r) p h =
      let q = and-true (of_chip c r.red) (of_chip c r.green && of_chip c r.blue) h in
      let t = and-true (of_chip c r.green) (of_chip c r.blue) q.1 in
      λ i. Found (Rgb (rgb_of r.placement (pin_back r.red q.0 i) (pin_back r.green t.0 i) (pin_back r.blue t.1 i)))

  pub description_from_into : (d : Description) → description_kind c d ≡ true → description_from (description_into c d) ≡ d
  description_from_into d h =
      let q = and-true (standing c d.revision0) (standing c d.revision1 && standing c d.revision2) h in
      let r = and-true (standing c d.revision1) (standing c d.revision2) q.1 in
      λ i.
      description_of d.device d.string (four d.serial i) (flag d.spwr i) d.power.0 (optional_back d.revision0 q.0 i)
      (optional_back d.revision1 r.0 i) (optional_back d.revision2 r.1 i)
