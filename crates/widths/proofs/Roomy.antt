-- 25 of each kind is what the code tests: the other numbers fit by their types. Each slot that has room is left out in turn.
-- Assumes nothing.
use Prim.Native.Nat.{ℕ, ◌/◌, ◌%◌, ◌<◌}
use native.Mathlib.Omega.{arith}
use mathlib.Core.Path.{◌≡◌, refl, sym, ◌∙◌, ap}
use mathlib.Core.Bool.{Bool, true, false, ◌&&◌}
use lib.Dec.{ltb}
use borrow.Author.Tests.{ltb-true, ltb-false, lt-ltb, le-ltb}
use Rattle.format.specs.Slots.{halves, roomy, all_roomy}
use Rattle.format.specs.Layout.{address, device, optional_pin_slot}
use Rattle.std.specs.Prelude.{Option}
use Rattle.format.specs.declared.pins.Pin.{Pin}
use Rattle.format.specs.Rules.{description_roomy, element_roomy}
use Rattle.format.specs.declared.records.Description.{Description}
use Rattle.format.specs.declared.records.Placement.{Placement}
use Rattle.format.specs.declared.records.DigitalSensor.{DigitalSensor}
use Rattle.format.specs.declared.records.AnalogueSensor.{AnalogueSensor}
use Rattle.format.specs.declared.records.PwmFan.{PwmFan}
use Rattle.format.specs.declared.records.Lamp.{Lamp}
use Rattle.format.specs.declared.records.StatusLed.{StatusLed}
use Rattle.format.specs.declared.records.WaterLevel.{WaterLevel}
use Rattle.format.specs.declared.records.VoltageSensor.{VoltageSensor}
use Rattle.format.specs.declared.records.CurrentSensor.{CurrentSensor}
use Rattle.format.specs.declared.records.BusDevice.{BusDevice}
use Rattle.format.specs.declared.records.ExternalRgb.{ExternalRgb}
use Rattle.format.specs.declared.records.RgbLed.{RgbLed}
use Rattle.format.specs.declared.records.Element.TheVariants.{Digital, Analogue, Fan, Led, Water, Pump, Voltage, Current, Controller}
use Rattle.format.specs.declared.records.Element.TheVariants.{Tachometer, External, Rgb}

-- slots with room are left out
module _ (n : ℕ) {u v : Bool} where
  one : n < 256 → u ≡ v → u ≡ ltb n 256 && v
  one h e = rw (lt-ltb n 256 h) e

module _ (n : ℕ) {u v : Bool} where
  two : n < 65536 → u ≡ v → u ≡ ltb (n % 256) 256 && (ltb (n / 256) 256 && v)
  two h e = one (n % 256) (omega arith) (one (n / 256) (omega arith) e)

-- what follows two tests has room
room : (a b : Bool) {w : Bool} → true ≡ w → a && (b && true) ≡ a && (b && w)
room a b e = rw (← e) refl

-- tests stand
also : (a : Bool) {w : Bool} → true ≡ w → a ≡ a && w
also true e = e
also false e = refl

beside : (a : Bool) {b c : Bool} → b ≡ c → a && b ≡ a && c
beside a e = ap (λ (b : Bool). a && b) e

abbrev pub Placed : Placement → Type 0
Placed p = (p.string < 256) × (p.x.0 < 256) × (p.y.0 < 256) × (p.z.0 < 256) × (p.zone < 256)

placed :
    (p : Placement) {u v : Bool}
    → Placed p
    → u ≡ v
    → u
    ≡ ltb p.string 256 && (ltb p.x.0 256 && (ltb p.y.0 256 && (ltb p.z.0 256 && (ltb p.zone 256 && v))))
placed p h e = one p.string h.0 (one p.x.0 h.1 (one p.y.0 h.2 (one p.z.0 h.3 (one p.zone h.4 e))))

-- 24 bits: the highest byte has room
high_byte_lem : (n : ℕ) → ltb n 16777216 ≡ ltb (n / 65536) 256
high_byte_lem n = go (ltb n 16777216) refl
  where
    go : (t : Bool) → ltb n 16777216 ≡ t → t ≡ ltb (n / 65536) 256
    go true e = sym (lt-ltb (n / 65536) 256 (omega (arith, ltb-true n 16777216 e)))
    go false e = sym (le-ltb (n / 65536) 256 (omega (arith, ltb-false n 16777216 e)))

-- a place that may be unused
abbrev pub pin_roomy : Option Pin → Bool
pin_roomy p = roomy (optional_pin_slot p)

last : (a b : Bool) → a && b ≡ a && (b && true)
last a b = beside a (also b refl)

pub description_roomy_lem :
    (d : Description) {a b c : Bool}
    → d.device < 256
    → d.string < 256
    → a ≡ pin_roomy d.revision0
    → b ≡ pin_roomy d.revision1
    → c ≡ pin_roomy d.revision2
    → ltb d.serial 16777216 && (ltb d.power.0 128 && (a && (b && c))) ≡ description_roomy d
description_roomy_lem d h i j k l =
    let s = d.serial in
    rw (j, k, l)
    (one d.device h
    (one d.string i
    (one (s % 256) (omega arith)
    (one (s / 256 % 256) (omega arith)
    (ap (λ (a : Bool). a && (ltb d.power.0 128 && (pin_roomy d.revision0 && (pin_roomy d.revision1 && pin_roomy d.revision2))))
    (high_byte_lem s)
    ∙ beside (ltb (s / 65536) 256)
    (beside (ltb d.power.0 128) (beside (pin_roomy d.revision0) (last (pin_roomy d.revision1) (pin_roomy d.revision2)))))))))

pub digital_roomy_lem :
    (d : DigitalSensor) (t : Bool)
    → Placed d.placement
    → d.lsb < 65536
    → d.msb < 65536
    → d.minvalue < 65536
    → d.mintemp.0 < 256
    → d.maxvalue < 65536
    → d.maxtemp.0 < 256
    → t ≡ all_roomy (device d.bus d.address)
    → t ≡ element_roomy (Digital d)
digital_roomy_lem d t p h i j k l m e =
    placed d.placement p
    (e
    ∙ room (ltb d.bus 16) (roomy (address d.address))
    (two d.lsb h (two d.msb i (two d.minvalue j (one d.mintemp.0 k (two d.maxvalue l (one d.maxtemp.0 m refl)))))))

pub analogue_roomy_lem :
    (a : AnalogueSensor)
    → Placed a.placement
    → a.pin.0 < 256
    → a.at0.0 < 65536
    → a.at25.0 < 65536
    → a.at50.0 < 65536
    → a.at75.0 < 65536
    → a.at100.0 < 65536
    → ltb a.thermal 16 ≡ element_roomy (Analogue a)
analogue_roomy_lem a p h i j k l m =
    placed a.placement p
    (also (ltb a.thermal 16)
    (one a.pin.0 h (two a.at0.0 i (two a.at25.0 j (two a.at50.0 k (two a.at75.0 l (two a.at100.0 m refl)))))))

-- 03h, and 06h, which has the same format
pub fan_roomy_lem :
    (f : PwmFan) {t : Bool}
    → Placed f.placement
    → f.pwm.0 < 256
    → t ≡ pin_roomy f.tachometer
    → f.ppr < 256
    → f.minrpm.0 < 65536
    → f.maxrpm.0 < 65536
    → f.duty < 256
    → (t ≡ element_roomy (Fan f)) × (t ≡ element_roomy (Pump f))
fan_roomy_lem f {t} p h i j k l m = (all, all)
  where
    all : t ≡ element_roomy (Fan f)
    all =
        placed f.placement p
        (one f.pwm.0 h (rw i (also (pin_roomy f.tachometer)
        (one f.ppr j (two f.minrpm.0 k (two f.maxrpm.0 l (one f.duty m refl)))))))

-- a lamp: its pin, and COLOR and PURPOSE
abbrev pub lamp_roomy : Lamp → Bool
lamp_roomy l = pin_roomy l.pin && roomy (halves l.colour l.purpose)

six : (a b c d e f : Bool) → a && b && (c && d && (e && f)) ≡ a && (b && (c && (d && (e && (f && true)))))
six true true true true true true = refl
six true true true true true false = refl
six true true true true false f = refl
six true true true false e f = refl
six true true false d e f = refl
six true false c d e f = refl
six false b c d e f = refl

pub led_roomy_lem :
    (l : StatusLed) {a b c : Bool}
    → Placed l.placement
    → a ≡ lamp_roomy l.one
    → b ≡ lamp_roomy l.two
    → c ≡ lamp_roomy l.three
    → a && (b && c) ≡ element_roomy (Led l)
led_roomy_lem l p e f g =
    rw (e, f, g)
    (placed l.placement p
    (six (pin_roomy l.one.pin) _ (pin_roomy l.two.pin) _ (pin_roomy l.three.pin) _))

pub water_roomy :
    (w : WaterLevel)
    → Placed w.placement
    → w.pin.0 < 256
    → w.full.0 < 65536
    → w.empty.0 < 65536
    → w.warning.0 < 65536
    → true ≡ element_roomy (Water w)
water_roomy w p h i j k =
    placed w.placement p (one w.pin.0 h (two w.full.0 i (two w.empty.0 j (two w.warning.0 k refl))))

pub voltage_roomy :
    (v : VoltageSensor)
    → Placed v.placement
    → v.pin.0 < 256
    → v.vmax.0 < 256
    → v.vmin.0 < 256
    → true ≡ element_roomy (Voltage v)
voltage_roomy v p h i j = placed v.placement p (one v.pin.0 h (one v.vmax.0 i (one v.vmin.0 j refl)))

pub current_roomy :
    (c : CurrentSensor)
    → Placed c.placement
    → c.pin.0 < 256
    → c.imin.0 < 65536
    → c.imax.0 < 65536
    → true ≡ element_roomy (Current c)
current_roomy c p h i j = placed c.placement p (one c.pin.0 h (two c.imin.0 i (two c.imax.0 j refl)))

-- 09h and 0Ah: what a tachometer has more is reserved
pub device_roomy_lem :
    (d : BusDevice) (t : Bool)
    → Placed d.placement
    → t ≡ all_roomy (device d.bus d.address)
    → (t ≡ element_roomy (Controller d)) × (t ≡ element_roomy (Tachometer d))
device_roomy_lem d t p e = (placed d.placement p e, placed d.placement p e)

-- 0Dh: and its chip's identifier
pub external_roomy_lem :
    (x : ExternalRgb) (t : Bool)
    → Placed x.device.placement
    → x.identifier < 256
    → t ≡ all_roomy (device x.device.bus x.device.address)
    → t ≡ element_roomy (External x)
external_roomy_lem x t p h e =
    placed x.device.placement p
    (e ∙ room (ltb x.device.bus 16) (roomy (address x.device.address)) (one x.identifier h refl))

pub rgb_roomy :
    (r : RgbLed) → Placed r.placement → r.red.0 < 256 → r.green.0 < 256 → r.blue.0 < 256 → true ≡ element_roomy (Rgb r)
rgb_roomy r p h i j = placed r.placement p (one r.red.0 h (one r.green.0 i (one r.blue.0 j refl)))

-- the address, by its kind
pub bus_roomy : (a b : Bool) → a && b ≡ a && (b && true)
bus_roomy a b = beside a (also b refl)

pub select_roomy : (a : Bool) (n : ℕ) → n < 256 → a ≡ a && (ltb n 256 && true)
select_roomy a n h = also a (one n h refl)
