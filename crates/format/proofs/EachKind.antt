-- For each kind of element and each chip: a record that fits the bytes and is of its kind is the one that is read, and the one that is
-- read fits.
-- Assumes nothing.
use Prim.Native.Nat.{ℕ, ◌+◌, ◌*◌, ◌/◌, ◌%◌, ◌<◌}
use native.Mathlib.Omega.{arith}
use mathlib.Core.Path.{◌≡◌, refl, sym, ap}
use mathlib.Core.Bool.{Bool, true, false, ◌&&◌, not, false≢true}
use mathlib.Core.List.{List, [], ◌∷◌, ◌++◌, map}
use lib.Dec.{eqb, leb}
use borrow.Author.Tests.{eqb-true, not-true, leb-true, leb-false, le-leb, lt-leb}
use Rattle.format.specs.Slots.{Slot, whole, bit, Holds, Fits}
use Rattle.format.specs.Layout.{pin_slot, optional_pin_slot, address, fixed, opening}
use Rattle.format.specs.Pins.{same_chip, of_chip, standing}
use Rattle.format.specs.Rules.{of_its_bus, of_its_device, of_its_kind, description_kind}
use Rattle.format.specs.Records.{digital, analogue, fan, led, water, voltage, current, rgb}
use Rattle.format.specs.Decode.{pin_of, pick_pin, optional_of, placement_of, digital_of, analogue_of, fan_of, lamp_of, led_of, water_of}
use Rattle.format.specs.Decode.{voltage_of, current_of, device_of, external_of, rgb_of, description_of, word_at, pick_address, read_address}
use Rattle.format.specs.Decode.{read_digital, read_analogue, read_fan, read_led, read_water, read_voltage, read_current, read_device}
use Rattle.format.specs.Decode.{read_external, read_rgb, read_description}
use Rattle.format.specs.declared.pins.Chip.{Chip}
use Rattle.format.specs.declared.pins.Chip.TheVariants.{C8051F320, C8051F321}
use Rattle.format.specs.declared.pins.Pin.{Pin}
use Rattle.std.specs.Prelude.{Option}
use Rattle.format.specs.declared.pins.Pin.{Pin}
use Rattle.std.specs.Prelude.{None, Some}
use Rattle.format.specs.declared.records.Description.{Description}
use Rattle.format.specs.declared.records.Placement.{Placement}
use Rattle.format.specs.declared.records.DigitalSensor.{DigitalSensor}
use Rattle.format.specs.declared.records.AnalogueSensor.{AnalogueSensor}
use Rattle.format.specs.declared.records.PwmFan.{PwmFan}
use Rattle.format.specs.declared.records.Lamp.{Lamp}
use Rattle.format.specs.declared.records.StatusLed.{StatusLed}
use Rattle.format.specs.declared.records.WaterLevel.{WaterLevel}
use Rattle.format.specs.declared.records.VoltageSensor.{VoltageSensor}
use Rattle.format.specs.declared.records.CurrentSensor.{CurrentSensor}
use Rattle.format.specs.declared.records.BusDevice.{BusDevice}
use Rattle.format.specs.declared.records.ExternalRgb.{ExternalRgb}
use Rattle.format.specs.declared.records.RgbLed.{RgbLed}
use Rattle.format.specs.declared.records.Address.{Address}
use Rattle.format.specs.declared.records.Address.TheVariants.{Bus, Select}
use Rattle.format.specs.declared.records.Element.TheVariants.{Digital, Analogue, Fan, Led, Water, Voltage, Current, Controller}
use Rattle.format.specs.declared.records.Element.TheVariants.{Tachometer, External, Rgb}
use Rattle.format.proofs.Slots.{Over, over_at}
use Rattle.format.proofs.Kept.{and-true}

abbrev pub Small : (ℕ → ℕ) → Type 0
Small f = (i : ℕ) → f i < 256

-- a part by its fields: the same by η, and open to `cc`
abbrev again : Placement → Placement
again p = placement_of p.string p.x.0 p.y.0 p.z.0 p.zone

abbrev relit : Lamp → Lamp
relit l = lamp_of l.pin l.colour l.purpose

-- two chips are the same where the test says so
pub same_chip_lem : (c k : Chip) → same_chip c k ≡ true → c ≡ k
same_chip_lem C8051F320 C8051F320 h = refl
same_chip_lem C8051F320 C8051F321 h = absurd (false≢true h)
same_chip_lem C8051F321 C8051F320 h = absurd (false≢true h)
same_chip_lem C8051F321 C8051F321 h = refl

pub chip_same : (c : Chip) → same_chip c c ≡ true
chip_same C8051F320 = refl
chip_same C8051F321 = refl

module _ (c : Chip) where
  -- a pin of the named chip is the one that is read, and so is what stands in a place that may be unused
  pub pin_only : (b : ℕ) (p : Pin) → Holds b (pin_slot p) → of_chip c p ≡ true → p ≡ pin_of c b
  pin_only b p h k = λ i. pin_of (sym (same_chip_lem c p.1 k) i) (sym h i)

  optional_only : (b : ℕ) (p : Option Pin) → Holds b (optional_pin_slot p) → standing c p ≡ true → p ≡ optional_of c b
  optional_only b None h k = rw h refl
  optional_only b (Some p) h k =
      let q = and-true (of_chip c p) (not (eqb p.0 0xff)) k in
      let n : eqb b 0xff ≡ false = rw h (not-true (eqb p.0 0xff) q.1) in
      rw n (ap Some (pin_only b p h q.0))

  optional_fits : (b : ℕ) → Holds b (optional_pin_slot (optional_of c b))
  optional_fits b = go (eqb b 0xff) refl
    where
      go : (t : Bool) → eqb b 0xff ≡ t → Holds b (optional_pin_slot (pick_pin t (pin_of c b)))
      go true e = eqb-true b 0xff e
      go false e = refl

  pub optional_standing : (b : ℕ) → standing c (optional_of c b) ≡ true
  optional_standing b = go (eqb b 0xff) refl
    where
      go : (t : Bool) → eqb b 0xff ≡ t → standing c (pick_pin t (pin_of c b)) ≡ true
      go true e = refl
      go false e = simp (chip_same c, e)

  -- the address of the kind that its bus type has is the one that is read
  address_only : (b bus : ℕ) (a : Address) → Holds b (address a) → of_its_device c bus a ≡ true → a ≡ pick_address c (eqb bus 3) b
  address_only b bus (Bus v) h k =
      rw (not-true (eqb bus 3) (and-true (of_its_bus bus (Bus v)) true k).0) (ap Bus (sym h))
  address_only b bus (Select p) h k =
      let q = and-true (eqb bus 3) (of_chip c p) k in
      rw q.0 (ap Select (pin_only b p h q.1))

  pub address_kind : (f : ℕ → ℕ) → of_its_device c (f 5 % 16) (read_address c f) ≡ true
  address_kind f = go (eqb (f 5 % 16) 3) refl
    where
      go : (t : Bool) → eqb (f 5 % 16) 3 ≡ t → of_its_device c (f 5 % 16) (pick_address c t (f 6)) ≡ true
      go true e = simp (e, chip_same c)
      go false e = simp e

  address_fits : (t : Bool) (b : ℕ) → Holds b (address (pick_address c t b))
  address_fits true b = refl
  address_fits false b = refl

  -- 01h
  pub digital_only :
      (f : ℕ → ℕ) (x : DigitalSensor) → Over f (fixed (Digital x)) → of_its_kind c (digital x) ≡ true → x ≡ read_digital c f
  digital_only f x o k =
      let b : x.bus ≡ f 5 % 16 = sym (over_at f (fixed (Digital x)) o 5) in
      let a : x.address ≡ read_address c f =
      address_only (f 6) (f 5 % 16) x.address (over_at f (fixed (Digital x)) o 6) (rw b at k) in
      let m : x.lsb ≡ word_at f 8 = omega arith in
      let n : x.msb ≡ word_at f 10 = omega arith in
      let p : x.minvalue ≡ word_at f 12 = omega arith in
      let q : x.maxvalue ≡ word_at f 15 = omega arith in
      let h :
      digital_of (again x.placement) x.bus x.address x.lsb x.msb x.minvalue x.mintemp.0 x.maxvalue x.maxtemp.0
      ≡ read_digital c f
      = cc in
      h

  pub digital_fits : (f : ℕ → ℕ) → Small f → Over f (fixed (Digital (read_digital c f)))
  digital_fits f small = (
    refl,
    (
      refl,
      (
        refl,
        (
          refl,
          (refl, (refl, (address_fits (eqb (f 5 % 16) 3) (f 6), (tt, omega (arith, small 8, small 10, small 12, small 15))))),
        ),
      ),
    ),
  )

  -- 02h
  pub analogue_only :
      (f : ℕ → ℕ) (x : AnalogueSensor) → Over f (fixed (Analogue x)) → of_its_kind c (analogue x) ≡ true → x ≡ read_analogue c f
  analogue_only f x o k =
      let a = pin_only (f 6) x.pin (over_at f (fixed (Analogue x)) o 6) k in
      let m : x.at0.0 ≡ word_at f 7 = omega arith in
      let n : x.at25.0 ≡ word_at f 9 = omega arith in
      let p : x.at50.0 ≡ word_at f 11 = omega arith in
      let q : x.at75.0 ≡ word_at f 13 = omega arith in
      let r : x.at100.0 ≡ word_at f 15 = omega arith in
      let h :
      analogue_of (again x.placement) x.thermal x.pin x.at0.0 x.at25.0 x.at50.0 x.at75.0 x.at100.0
      ≡ read_analogue c f
      = cc in
      h

  pub analogue_fits : (f : ℕ → ℕ) → Small f → Over f (fixed (Analogue (read_analogue c f)))
  analogue_fits f small = omega (arith, small 7, small 9, small 11, small 13, small 15)

  -- 03h, and 06h, which has the same format
  pub fan_only : (f : ℕ → ℕ) (x : PwmFan) → Over f (fixed (Fan x)) → of_its_kind c (fan x) ≡ true → x ≡ read_fan c f
  fan_only f x o k =
      let q = and-true (of_chip c x.pwm) (standing c x.tachometer) k in
      let a = pin_only (f 5) x.pwm (over_at f (fixed (Fan x)) o 5) q.0 in
      let b = optional_only (f 6) x.tachometer (over_at f (fixed (Fan x)) o 6) q.1 in
      let m : x.minrpm.0 ≡ word_at f 8 = omega arith in
      let n : x.maxrpm.0 ≡ word_at f 10 = omega arith in
      let h :
      fan_of (again x.placement) x.pwm x.tachometer x.ppr x.minrpm.0 x.maxrpm.0 x.duty ≡ read_fan c f
      = cc in
      h

  pub fan_fits : (f : ℕ → ℕ) → Small f → Over f (fixed (Fan (read_fan c f)))
  fan_fits f small = (refl, (refl, (refl, (refl, (refl, (refl, (optional_fits (f 6), omega (arith, small 8, small 10))))))))

  -- 04h
  pub led_only : (f : ℕ → ℕ) (x : StatusLed) → Over f (fixed (Led x)) → of_its_kind c (led x) ≡ true → x ≡ read_led c f
  led_only f x o k =
      let q = and-true (standing c x.one.pin) (standing c x.two.pin && standing c x.three.pin) k in
      let r = and-true (standing c x.two.pin) (standing c x.three.pin) q.1 in
      let one = optional_only (f 5) x.one.pin (over_at f (fixed (Led x)) o 5) q.0 in
      let two = optional_only (f 7) x.two.pin (over_at f (fixed (Led x)) o 7) r.0 in
      let three = optional_only (f 9) x.three.pin (over_at f (fixed (Led x)) o 9) r.1 in
      let h : led_of (again x.placement) (relit x.one) (relit x.two) (relit x.three) ≡ read_led c f = cc in
      h

  pub led_fits : (f : ℕ → ℕ) → Small f → Over f (fixed (Led (read_led c f)))
  led_fits f small = (
    refl,
    (
      refl,
      (
        refl,
        (
          refl,
          (
            refl,
            (
              optional_fits (f 5),
              (
                (refl, refl),
                (optional_fits (f 7), ((refl, refl), (optional_fits (f 9), ((refl, refl), tt)))),
              ),
            ),
          ),
        ),
      ),
    ),
  )

  -- 05h
  pub water_only : (f : ℕ → ℕ) (x : WaterLevel) → Over f (fixed (Water x)) → of_its_kind c (water x) ≡ true → x ≡ read_water c f
  water_only f x o k =
      let a = pin_only (f 5) x.pin (over_at f (fixed (Water x)) o 5) k in
      let m : x.full.0 ≡ word_at f 6 = omega arith in
      let n : x.empty.0 ≡ word_at f 8 = omega arith in
      let p : x.warning.0 ≡ word_at f 10 = omega arith in
      let h : water_of (again x.placement) x.pin x.full.0 x.empty.0 x.warning.0 ≡ read_water c f = cc in
      h

  pub water_fits : (f : ℕ → ℕ) → Small f → Over f (fixed (Water (read_water c f)))
  water_fits f small = omega (arith, small 6, small 8, small 10)

  -- 07h
  pub voltage_only :
      (f : ℕ → ℕ) (x : VoltageSensor) → Over f (fixed (Voltage x)) → of_its_kind c (voltage x) ≡ true → x ≡ read_voltage c f
  voltage_only f x o k =
      let a = pin_only (f 5) x.pin (over_at f (fixed (Voltage x)) o 5) k in
      let h : voltage_of (again x.placement) x.pin x.vmax.0 x.vmin.0 ≡ read_voltage c f = cc in
      h

  pub voltage_fits : (f : ℕ → ℕ) → Small f → Over f (fixed (Voltage (read_voltage c f)))
  voltage_fits f small = omega arith

  -- 08h
  pub current_only :
      (f : ℕ → ℕ) (x : CurrentSensor) → Over f (fixed (Current x)) → of_its_kind c (current x) ≡ true → x ≡ read_current c f
  current_only f x o k =
      let a = pin_only (f 5) x.pin (over_at f (fixed (Current x)) o 5) k in
      let m : x.imin.0 ≡ word_at f 7 = omega arith in
      let n : x.imax.0 ≡ word_at f 9 = omega arith in
      let h : current_of (again x.placement) x.pin x.imin.0 x.imax.0 ≡ read_current c f = cc in
      h

  pub current_fits : (f : ℕ → ℕ) → Small f → Over f (fixed (Current (read_current c f)))
  current_fits f small = omega (arith, small 7, small 9)

  -- 0Eh
  pub rgb_only : (f : ℕ → ℕ) (x : RgbLed) → Over f (fixed (Rgb x)) → of_its_kind c (rgb x) ≡ true → x ≡ read_rgb c f
  rgb_only f x o k =
      let q = and-true (of_chip c x.red) (of_chip c x.green && of_chip c x.blue) k in
      let r = and-true (of_chip c x.green) (of_chip c x.blue) q.1 in
      let one = pin_only (f 5) x.red (over_at f (fixed (Rgb x)) o 5) q.0 in
      let two = pin_only (f 6) x.green (over_at f (fixed (Rgb x)) o 6) r.0 in
      let three = pin_only (f 7) x.blue (over_at f (fixed (Rgb x)) o 7) r.1 in
      let h : rgb_of (again x.placement) x.red x.green x.blue ≡ read_rgb c f = cc in
      h

  pub rgb_fits : (f : ℕ → ℕ) → Small f → Over f (fixed (Rgb (read_rgb c f)))
  rgb_fits f small = omega arith

  -- 09h, 0Ah: a device, before its blocks
  pub device_only :
      (f : ℕ → ℕ) (d : BusDevice) (ss : List Slot)
      → Over f (fixed (Controller d) ++ ss)
      → of_its_device c d.bus d.address ≡ true
      → d ≡ read_device c f
  device_only f d ss o k =
      let b : d.bus ≡ f 5 % 16 = sym (over_at f (fixed (Controller d) ++ ss) o 5) in
      let a : d.address ≡ read_address c f =
      address_only (f 6) (f 5 % 16) d.address (over_at f (fixed (Controller d) ++ ss) o 6) (rw b at k) in
      let h : device_of (again d.placement) d.bus d.address ≡ read_device c f = cc in
      h

  pub controller_fits : (f : ℕ → ℕ) → Over f (fixed (Controller (read_device c f)))
  controller_fits f = (refl, (refl, (refl, (refl, (refl, (refl, (address_fits (eqb (f 5 % 16) 3) (f 6), (tt, tt))))))))

  pub tachometer_fits : (f : ℕ → ℕ) → Over f (fixed (Tachometer (read_device c f)))
  tachometer_fits f = (refl, (refl, (refl, (refl, (refl, (refl, (address_fits (eqb (f 5 % 16) 3) (f 6), (tt, (tt, tt)))))))))

  -- 0Dh: a device and its chip's identifier
  pub external_only :
      (f : ℕ → ℕ) (x : ExternalRgb) (ss : List Slot)
      → Over f (fixed (External x) ++ ss)
      → of_its_device c x.device.bus x.device.address ≡ true
      → x ≡ read_external c f
  external_only f x ss o k =
      let d = device_only f x.device (whole x.identifier ∷ ss) o k in
      let e : f 8 ≡ x.identifier = over_at f (fixed (External x) ++ ss) o 8 in
      λ i. external_of (d i) (sym e i)

  pub external_fits : (f : ℕ → ℕ) → Over f (fixed (External (read_external c f)))
  external_fits f = (refl, (refl, (refl, (refl, (refl, (refl, (address_fits (eqb (f 5 % 16) 3) (f 6), (tt, (refl, tt)))))))))

-- 0Bh, 0Ch: all bytes after the header
pub whole_only : (bs c : List ℕ) → Fits bs (map whole c) → c ≡ bs
whole_only bs [] h = sym h
whole_only [] (v ∷ c) h = absurd h
whole_only (b ∷ bs) (v ∷ c) h = λ i. sym h.0 i ∷ whole_only bs c h.1 i

pub whole_fits : (bs : List ℕ) → Fits bs (map whole bs)
whole_fits [] = refl
whole_fits (b ∷ bs) = (refl, whole_fits bs)

-- the description
flag_only : (t : Bool) (b : ℕ) → b / 128 ≡ bit t → t ≡ leb 128 b
flag_only true b h = sym (le-leb 128 b (omega arith))
flag_only false b h = sym (lt-leb 128 b (omega arith))

flag_fits : (b : ℕ) → b < 256 → b / 128 ≡ bit (leb 128 b)
flag_fits b h = go (leb 128 b) refl
  where
    go : (t : Bool) → leb 128 b ≡ t → b / 128 ≡ bit t
    go true e = omega (arith, leb-true 128 b e)
    go false e = omega (arith, leb-false 128 b e)

module _ (c : Chip) where
  pub description_only :
      (f : ℕ → ℕ) (d : Description) (n : ℕ) → Over f (opening d n) → description_kind c d ≡ true → d ≡ read_description c f
  description_only f d n o k =
      let q = and-true (standing c d.revision0) (standing c d.revision1 && standing c d.revision2) k in
      let r = and-true (standing c d.revision1) (standing c d.revision2) q.1 in
      let one = optional_only c (f 9) d.revision0 (over_at f (opening d n) o 9) q.0 in
      let two = optional_only c (f 10) d.revision1 (over_at f (opening d n) o 10) r.0 in
      let three = optional_only c (f 11) d.revision2 (over_at f (opening d n) o 11) r.1 in
      let s : d.serial ≡ f 5 + 256 * f 6 + 65536 * f 7 =
      omega (arith, over_at f (opening d n) o 5, over_at f (opening d n) o 6, over_at f (opening d n) o 7) in
      let t : d.spwr ≡ leb 128 (f 8) = flag_only d.spwr (f 8) (over_at f (opening d n) o 8).0 in
      let h :
      description_of d.device d.string d.serial d.spwr d.power.0 d.revision0 d.revision1 d.revision2
      ≡ read_description c f
      = cc in
      h

  pub description_fits :
      (f : ℕ → ℕ) (n : ℕ) → Small f → f 0 ≡ 1 → word_at f 1 ≡ n → Over f (opening (read_description c f) n)
  description_fits f n small id len = (
    id,
    (
      omega (arith, small 1),
      (
        omega (arith, small 1),
        (
          refl,
          (
            refl,
            (
              omega (arith, small 5, small 6),
              (
                omega (arith, small 5, small 6),
                (
                  omega (arith, small 5, small 6),
                  (
                    (flag_fits (f 8) (small 8), refl),
                    (optional_fits c (f 9), (optional_fits c (f 10), (optional_fits c (f 11), (tt, (tt, (tt, (tt, tt))))))),
                  ),
                ),
              ),
            ),
          ),
        ),
      ),
    ),
  )

  pub description_standing : (f : ℕ → ℕ) → description_kind c (read_description c f) ≡ true
  description_standing f = simp (optional_standing c (f 9), optional_standing c (f 10), optional_standing c (f 11))
