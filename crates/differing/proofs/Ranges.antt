-- The contents of records that keep rules 10 and 25 are ones that their texts tell.
-- Assumes nothing.
use Prim.Native.Nat.{ℕ, ◌<◌}
use native.Mathlib.Omega.{arith}
use mathlib.Core.Path.{◌≡◌, refl}
use mathlib.Core.Bool.{Bool, true, false, ◌&&◌, ◌||◌, false≢true}
use mathlib.Core.List.{List, [], ◌∷◌, ◌++◌}
use lib.ListN.{drop}
use lib.Dec.{eqb, ltb}
use borrow.Author.Tests.{ltb-true, eqb-true}
use Rattle.format.specs.Slots.{Slot, whole, low, high, halves, flag, reserved, bit, roomy, all_roomy}
use Rattle.format.specs.Records.{Record, digital, analogue, fan, led, water, pump, voltage, current, controller, tachometer, zone, string}
use Rattle.format.specs.Records.{external, rgb, element_of}
use Rattle.format.specs.Layout.{optional_byte, address, placement, motor, fixed, opening}
use Rattle.format.specs.Pins.{among, of_chip, permitted, allowed, allowed_or_unused}
use Rattle.format.specs.Rules.{selected, strapped, fanned, pinned, rises}
use Rattle.format.specs.declared.pins.Use.{Use}
use Rattle.format.specs.declared.pins.Use.TheVariants.{FanPin, AnaloguePin, ChipSelect, StatusLed, HardwareRevision}
use Rattle.format.specs.declared.pins.Pin.{Pin}
use Rattle.std.specs.Prelude.{Option}
use Rattle.format.specs.declared.pins.Pin.{Pin}
use Rattle.std.specs.Prelude.{None, Some}
use Rattle.format.specs.declared.pins.Chip.{Chip}
use Rattle.format.specs.declared.pins.Chip.TheVariants.{C8051F320, C8051F321}
use Rattle.format.specs.declared.records.Description.{Description}
use Rattle.format.specs.declared.records.Placement.{Placement}
use Rattle.format.specs.declared.records.PwmFan.{PwmFan}
use Rattle.format.specs.declared.records.Address.{Address}
use Rattle.format.specs.declared.records.Address.TheVariants.{Bus, Select}
use Rattle.format.specs.declared.records.Element.TheVariants.{Digital, Analogue, Led, Water, Voltage, Current, Controller, Tachometer}
use Rattle.format.specs.declared.records.Element.TheVariants.{External, Rgb}
use Rattle.format.proofs.Kept.{and-true}
use Rattle.differing.specs.Fields.{Content, addressed, placed, driven, contents, described}
use Rattle.differing.proofs.Tells.{plain, In, AllIn}

-- what a slot has room for, as numbers
abbrev Room : Slot → Type 0
Room (whole v) = v < 256
Room (low v) = v < 16
Room (high v) = v < 128
Room (halves t v) = (t < 16) × (v < 16)
Room (flag t v) = v < 128
Room reserved = Unit {0}

abbrev pub Rooms : List Slot → Type 0
Rooms [] = Unit {0}
Rooms (s ∷ ss) = Room s × Rooms ss

room : (s : Slot) → roomy s ≡ true → Room s
room (whole v) h = ltb-true v 256 h
room (low v) h = ltb-true v 16 h
room (high v) h = ltb-true v 128 h
room (halves t v) h = let p = and-true (ltb t 16) (ltb v 16) h in (ltb-true t 16 p.0, ltb-true v 16 p.1)
room (flag t v) h = ltb-true v 128 h
room reserved h = tt

pub rooms : (ss : List Slot) → all_roomy ss ≡ true → Rooms ss
rooms [] h = tt
rooms (s ∷ ss) h = let p = and-true (roomy s) (all_roomy ss) h in (room s p.0, rooms ss p.1)

-- every pin of every use is plain
all_plain : List ℕ → Bool
all_plain [] = true
all_plain (p ∷ ps) = plain p && all_plain ps

permitted_plain : (c : Chip) (u : Use) → all_plain (permitted c u) ≡ true
unfolding all_plain
permitted_plain C8051F320 FanPin = refl
permitted_plain C8051F320 AnaloguePin = refl
permitted_plain C8051F320 ChipSelect = refl
permitted_plain C8051F320 StatusLed = refl
permitted_plain C8051F320 HardwareRevision = refl
permitted_plain C8051F321 FanPin = refl
permitted_plain C8051F321 AnaloguePin = refl
permitted_plain C8051F321 ChipSelect = refl
permitted_plain C8051F321 StatusLed = refl
permitted_plain C8051F321 HardwareRevision = refl

among_plain : (p : ℕ) (ps : List ℕ) → all_plain ps ≡ true → among p ps ≡ true → plain p ≡ true
unfolding all_plain
among_plain p [] a h = absurd (false≢true h)
among_plain p (q ∷ ps) a h = go (eqb p q) refl h
    (and-true (plain q) (all_plain ps) a).0
    (λ k. among_plain p ps (and-true (plain q) (all_plain ps) a).1 k)
  where
    go : (t : Bool) → eqb p q ≡ t → t || among p ps ≡ true → plain q ≡ true → (among p ps ≡ true → plain p ≡ true) → plain p ≡ true
    go true e h here later = rw (eqb-true p q e) here
    go false e h here later = later h

pin_plain : (c : Chip) (u : Use) (p : Pin) → allowed c u p ≡ true → plain p.0 ≡ true
pin_plain c u p h =
    among_plain p.0 (permitted c u) (permitted_plain c u) (and-true (of_chip c p) (among p.0 (permitted c u)) h).1

optional_plain : (c : Chip) (u : Use) (p : Option Pin) → allowed_or_unused c u p ≡ true → plain (optional_byte p) ≡ true
optional_plain c u None h = refl
optional_plain c u (Some p) h = pin_plain c u p h

-- parts that several kinds share
placed_in : (p : Placement) (ss : List Slot) (cs : List Content) → Rooms (placement p ++ ss) → AllIn 65536 cs → AllIn 65536 (placed p cs)
placed_in p ss cs h i = (omega arith, (omega arith, (omega arith, (omega arith, (omega arith, i)))))

address_in : (c : Chip) (a : Address) → Room (address a) → selected c a ≡ true → In 65536 (addressed a)
address_in c (Bus a) h s = omega arith
address_in c (Select p) h s = pin_plain c ChipSelect p s

driven_in : (c : Chip) (f : PwmFan) → Rooms (motor f) → fanned c f ≡ true → AllIn 65536 (driven f)
driven_in c f h k =
    let p = and-true (allowed c FanPin f.pwm) (allowed_or_unused c FanPin f.tachometer && rises f.pwm f.tachometer) k in
    let q = and-true (allowed_or_unused c FanPin f.tachometer) (rises f.pwm f.tachometer) p.1 in
    placed_in f.placement (drop 5 (motor f)) (drop 5 (driven f)) h
    (pin_plain c FanPin f.pwm p.0, (optional_plain c FanPin f.tachometer q.0, omega arith))

-- each kind
pub contents_in : (c : Chip) (r : Record) → Rooms (fixed (element_of r)) → pinned c r ≡ true → AllIn 65536 (contents (element_of r))
contents_in c (digital d) h k =
    placed_in d.placement (drop 5 (fixed (Digital d))) (drop 5 (contents (Digital d))) h
    (omega arith, (address_in c d.address h.1.1.1.1.1.1.0 k, omega arith))
contents_in c (analogue a) h k =
    placed_in a.placement (drop 5 (fixed (Analogue a))) (drop 5 (contents (Analogue a))) h
    (omega arith, (pin_plain c AnaloguePin a.pin k, omega arith))
contents_in c (fan f) h k = driven_in c f h k
contents_in c (led l) h k =
    let p = and-true (allowed_or_unused c StatusLed l.one.pin) _ k in
    let q = and-true (allowed_or_unused c StatusLed l.two.pin) _ p.1 in
    let a = optional_plain c StatusLed l.one.pin p.0 in
    let b = optional_plain c StatusLed l.two.pin q.0 in
    let z = optional_plain c StatusLed l.three.pin q.1 in
    placed_in l.placement (drop 5 (fixed (Led l))) (drop 5 (contents (Led l))) h
    (a, (omega arith, (omega arith, (b, (omega arith, (omega arith, (z, omega arith)))))))
contents_in c (water w) h k =
    placed_in w.placement (drop 5 (fixed (Water w))) (drop 5 (contents (Water w))) h
    (pin_plain c AnaloguePin w.pin k, omega arith)
contents_in c (pump f) h k = driven_in c f h k
contents_in c (voltage v) h k =
    placed_in v.placement (drop 5 (fixed (Voltage v))) (drop 5 (contents (Voltage v))) h
    (pin_plain c AnaloguePin v.pin k, omega arith)
contents_in c (current x) h k =
    placed_in x.placement (drop 5 (fixed (Current x))) (drop 5 (contents (Current x))) h
    (pin_plain c AnaloguePin x.pin k, omega arith)
contents_in c (controller d bs) h k =
    placed_in d.placement (drop 5 (fixed (Controller d))) (drop 5 (contents (Controller d))) h
    (omega arith, (address_in c d.address h.1.1.1.1.1.1.0 k, tt))
contents_in c (tachometer d a b) h k =
    placed_in d.placement (drop 5 (fixed (Tachometer d))) (drop 5 (contents (Tachometer d))) h
    (omega arith, (address_in c d.address h.1.1.1.1.1.1.0 k, tt))
contents_in c (zone bytes) h k = tt
contents_in c (string bytes) h k = tt
contents_in c (external x a b d) h k =
    placed_in x.device.placement (drop 5 (fixed (External x))) (drop 5 (contents (External x))) h
    (omega arith, (address_in c x.device.address h.1.1.1.1.1.1.0 k, omega arith))
contents_in c (rgb r) h k =
    let p = and-true (allowed c FanPin r.red) _ k in
    let q = and-true (allowed c FanPin r.green) _ p.1 in
    let s = and-true (allowed c FanPin r.blue) _ q.1 in
    placed_in r.placement (drop 5 (fixed (Rgb r))) (drop 5 (contents (Rgb r))) h
    (pin_plain c FanPin r.red p.0, (pin_plain c FanPin r.green q.0, (pin_plain c FanPin r.blue s.0, tt)))

-- the description
bit_small : (t : Bool) → bit t < 2
bit_small true = omega arith
bit_small false = omega arith

pub described_in : (c : Chip) (d : Description) (n : ℕ) → Rooms (opening d n) → strapped c d ≡ true → AllIn 16777216 (described d)
described_in c d n h k =
    let p = and-true (allowed_or_unused c HardwareRevision d.revision0) _ k in
    let q = and-true (allowed_or_unused c HardwareRevision d.revision1) _ p.1 in
    let b = bit_small d.spwr in
    let x = optional_plain c HardwareRevision d.revision0 p.0 in
    let y = optional_plain c HardwareRevision d.revision1 q.0 in
    let z = optional_plain c HardwareRevision d.revision2 q.1 in
    (omega arith, (omega arith, (omega arith, (omega arith, (omega arith, (x, (y, (z, tt))))))))
