-- The sentence of request 2 over an accepted table: the fan-list pins of all its elements, in element order, rise strictly. Each element's
-- rise by 10 of its own, and its first comes after the last one used by 10 against the elements before.
-- Assumes nothing.
use Prim.Native.Nat.{ℕ}
use mathlib.Core.Path.{◌≡◌, refl, subst}
use mathlib.Core.Bool.{true, ◌&&◌}
use mathlib.Core.List.{List, [], ◌∷◌, ◌++◌}
use lib.Dec.{ltb}
use Rattle.format.specs.Records.{Record, digital, analogue, fan, led, water, pump, voltage, current, controller, tachometer, zone}
use Rattle.format.specs.Records.{string, external, rgb}
use Rattle.format.specs.Pins.{allowed, allowed_or_unused}
use Rattle.format.specs.Rules.{pinned, rises}
use Rattle.format.specs.FanList.{used_pin, fan_pins, all_fan_pins, last_pin, last_used, comes_after, rise}
use Rattle.format.specs.Table.{PassKept}
use Rattle.format.specs.Verdict.{Accepts}
use Rattle.format.specs.declared.pins.Chip.{Chip}
use Rattle.format.specs.declared.pins.Use.TheVariants.{FanPin}
use Rattle.format.specs.declared.pins.Pin.{Pin}
use Rattle.std.specs.Prelude.{Option}
use Rattle.format.specs.declared.pins.Pin.{Pin}
use Rattle.std.specs.Prelude.{None, Some}
use Rattle.format.specs.declared.settings.Settings.{Settings}
use Rattle.format.specs.declared.records.Description.{Description}
use Rattle.format.specs.declared.records.PwmFan.{PwmFan}
use Rattle.format.proofs.Kept.{and-true, own_kept, own_unbroken, against_unbroken}
use Rattle.format.proofs.Growing.{last_snoc}

-- within one element
two_rise : (p : ℕ) (q : Pin) (t : Option Pin) → ltb p q.0 ≡ true → rises q t ≡ true → rise p (q.0 ∷ used_pin t) ≡ true
two_rise p q None h k = simp h
two_rise p q (Some r) h k = simp (h, k)

fan_within :
    (c : Chip) (f : PwmFan) (p : ℕ) → pinned c (fan f) ≡ true → ltb p f.pwm.0 ≡ true → rise p (f.pwm.0 ∷ used_pin f.tachometer)
    ≡ true
fan_within c f p k h =
    let a = and-true (allowed c FanPin f.pwm) (allowed_or_unused c FanPin f.tachometer && rises f.pwm f.tachometer) k in
    let b = and-true (allowed_or_unused c FanPin f.tachometer) (rises f.pwm f.tachometer) a.1 in
    two_rise p f.pwm f.tachometer h b.1

within : (c : Chip) (r : Record) (p : ℕ) → pinned c r ≡ true → comes_after p (fan_pins r) ≡ true → rise p (fan_pins r) ≡ true
within c (digital d) p k h = refl
within c (analogue a) p k h = refl
within c (fan f) p k h = fan_within c f p k h
within c (pump f) p k h = fan_within c f p k h
within c (water w) p k h = refl
within c (voltage v) p k h = refl
within c (external x r g b) p k h = refl
within c (led l) p k h = refl
within c (current x) p k h = refl
within c (controller d bs) p k h = refl
within c (tachometer d a b) p k h = refl
within c (zone bytes) p k h = refl
within c (string bytes) p k h = refl
within c (rgb r) p k h =
    let up = ltb r.red.0 r.green.0 && ltb r.green.0 r.blue.0 in
    let a = and-true (allowed c FanPin r.red) (allowed c FanPin r.green && (allowed c FanPin r.blue && up)) k in
    let b = and-true (allowed c FanPin r.green) (allowed c FanPin r.blue && up) a.1 in
    let t = and-true (ltb r.red.0 r.green.0) (ltb r.green.0 r.blue.0)
    (and-true (allowed c FanPin r.blue) up b.1).1 in
    simp (h, t.0, t.1)

-- one element after others
rise_append : (p : ℕ) (ps qs : List ℕ) → rise p ps ≡ true → rise (last_pin p ps) qs ≡ true → rise p (ps ++ qs) ≡ true
rise_append p [] qs h k = k
rise_append p (x ∷ ps) qs h k =
    let t = and-true (ltb p x) (rise x ps) h in
    rw t.0 (rise_append x ps qs t.1 k)

pub passed_rise : (s : Settings) (before rs : List Record) → PassKept s before rs → rise (last_used before) (all_fan_pins rs) ≡ true
passed_rise s before [] h = refl
passed_rise s before (r ∷ rs) h =
    rise_append (last_used before) (fan_pins r) (all_fan_pins rs)
    (within s.chip r (last_used before) (own_kept s r (own_unbroken s before r h.1)).pins_10
    (against_unbroken s before r h.1).order_10)
    (subst (λ (n : ℕ). rise n (all_fan_pins rs) ≡ true) (last_snoc before r) (passed_rise s (before ++ r ∷ []) rs h.2))

pub fan_list_rises : (s : Settings) (b : List ℕ) (d : Description) (rs : List Record) → Accepts s b d rs → rise 0 (all_fan_pins rs) ≡ true
fan_list_rises s b d rs a = passed_rise s [] rs a.keeps.passed
