-- Lists of rules, whichever rules they are: where none is broken each is kept, and of two lists the first is asked first. What a
-- list holds is named here, and above only for the functions that check its rules one by one (`rules`, `pass` Against).
-- Assumes nothing.
use Prim.Native.Nat.{ℕ, ◌<◌}
use mathlib.Core.Path.{◌≡◌, refl, sym, ◌∙◌}
use mathlib.Core.Bool.{Bool, true, false, ◌&&◌, not, false≢true}
use lib.Dec.{eqb, ltb}
use borrow.Author.Tests.{eqb-true}
use mathlib.Core.List.{List, [], ◌∷◌, ◌++◌}
use mathlib.Core.Option.{Option, none, some}
use native.Mathlib.Omega.{arith}
use Rattle.format.specs.Records.{Record, digital, analogue, fan, led, water, pump, voltage, current, controller, tachometer, zone}
use Rattle.format.specs.Records.{string, external, rgb, element_of}
use Rattle.format.specs.Rules.{Rule, unless_kept, first_broken, numbered, description_rules, typed, powered, strapped, own_rules}
use Rattle.format.specs.Rules.{shaped, coded, in_use, pinned, bus_types, of_its_bus, chosen, addressed, selected, rises, fanned, filled}
use Rattle.format.specs.Rules.{chip_identifiers, of_its_device, of_its_motor, of_its_kind, description_kind}
use Rattle.format.specs.Pins.{among, of_chip, allowed, allowed_or_unused, standing, permitted}
use Rattle.format.specs.declared.pins.Chip.{Chip}
use Rattle.format.specs.declared.pins.Chip.TheVariants.{C8051F320, C8051F321}
use Rattle.format.specs.declared.pins.Use.{Use}
use Rattle.format.specs.declared.pins.Use.TheVariants.{FanPin, AnaloguePin, ChipSelect, StatusLed, HardwareRevision}
use Rattle.format.specs.declared.pins.Pin.{Pin}
use Rattle.std.specs.Prelude.{Option as Optional}
use Rattle.format.specs.declared.pins.Pin.{Pin}
use Rattle.std.specs.Prelude.{None, Some}
use Rattle.format.specs.declared.settings.Settings.{Settings}
use Rattle.format.specs.declared.records.Address.{Address}
use Rattle.format.specs.declared.records.Address.TheVariants.{Bus, Select}
use Rattle.format.specs.declared.records.Description.{Description}
use Rattle.format.specs.declared.records.PwmFan.{PwmFan}
use Rattle.format.specs.FanList.{in_order}
use Rattle.format.specs.ZonesAndStrings.{zones_fit, fresh, rules_against}
use Rattle.format.specs.Table.{element_breaks, description_breaks}

pub and-true : (a b : Bool) → a && b ≡ true → (a ≡ true) × (b ≡ true)
and-true true b h = (refl, h)
and-true false b h = absurd (false≢true h)

pub unless_none : (t : Bool) (k : ℕ) (later : Option ℕ) → unless_kept t k later ≡ none → (t ≡ true) × (later ≡ none)
unless_none true k later h = (refl, h)
unless_none false k later h = let z : ◌≡◌ {A = ℕ} 0 1 = cc in absurd (omega arith)

-- each rule is kept
abbrev pub EachKept : List Rule → Type 0
EachKept [] = Unit {0}
EachKept (r ∷ rs) = (r.kept ≡ true) × EachKept rs

pub each_kept : (rs : List Rule) → first_broken rs ≡ none → EachKept rs
each_kept [] h = tt
each_kept (r ∷ rs) h =
    let p = unless_none r.kept r.number (first_broken rs) h in
    (p.0, each_kept rs p.1)

pub kept_each : (rs : List Rule) → EachKept rs → first_broken rs ≡ none
kept_each [] k = refl
kept_each (r ∷ rs) k = simp (k.0, kept_each rs k.1)

pub kept_split : (rs ss : List Rule) → EachKept (rs ++ ss) → EachKept rs × EachKept ss
kept_split [] ss k = (tt, k)
kept_split (r ∷ rs) ss k = let h = kept_split rs ss k.1 in ((k.0, h.0), h.1)

-- two lists, one after the other
unless_some :
    (t : Bool) (k : ℕ) (a b : Option ℕ) {n : ℕ}
    → (a ≡ some n → b ≡ some n)
    → unless_kept t k a ≡ some n
    → unless_kept t k b ≡ some n
unless_some true k a b f h = f h
unless_some false k a b f h = h

pub broken_first : (rs ss : List Rule) {k : ℕ} → first_broken rs ≡ some k → first_broken (rs ++ ss) ≡ some k
broken_first [] ss h = let z : ◌≡◌ {A = ℕ} 0 1 = cc in absurd (omega arith)
broken_first (r ∷ rs) ss h = unless_some r.kept r.number (first_broken rs) (first_broken (rs ++ ss)) (λ e. broken_first rs ss e) h

pub kept_then : (rs ss : List Rule) → first_broken rs ≡ none → first_broken (rs ++ ss) ≡ first_broken ss
kept_then [] ss h = refl
kept_then (r ∷ rs) ss h =
    let p = unless_none r.kept r.number (first_broken rs) h in
    rw p.0 (kept_then rs ss p.1)

-- No rule has the number 0, so a number says which rule is broken, and 0 that none is; and none has more than two digits.
abbrev pub Numbered : List Rule → Type 0
Numbered [] = Unit {0}
Numbered (r ∷ rs) = (0 < r.number) × (r.number < 100) × Numbered rs

pub zero_none : (rs : List Rule) → Numbered rs → numbered (first_broken rs) ≡ 0 → first_broken rs ≡ none
zero_none [] n h = refl
zero_none (r ∷ rs) n h = go r.kept n.0 h (λ e. zero_none rs n.2 e)
  where
    go :
        (t : Bool) {k : ℕ} {o : Option ℕ}
        → 0 < k
        → numbered (unless_kept t k o) ≡ 0
        → (numbered o ≡ 0 → o ≡ none)
        → unless_kept t k o ≡ none
    go true p e f = f e
    go false p e f = absurd (omega (arith, p, e))

pub broken_small : (rs : List Rule) → Numbered rs → (k : ℕ) → first_broken rs ≡ some k → k < 100
broken_small [] n k h = let z : ◌≡◌ {A = ℕ} 0 1 = cc in absurd (omega arith)
broken_small (r ∷ rs) n k h = go r.kept h (broken_small rs n.2 k)
  where
    go : (t : Bool) → unless_kept t r.number (first_broken rs) ≡ some k → (first_broken rs ≡ some k → k < 100) → k < 100
    go true e f = f e
    go false e f = let y : r.number ≡ k = cc in omega (arith, n.1)

numbered_join : (rs ss : List Rule) → Numbered rs → Numbered ss → Numbered (rs ++ ss)
numbered_join [] ss n m = m
numbered_join (r ∷ rs) ss n m = (n.0, n.1, numbered_join rs ss n.2 m)

pub some_number : (o : Option ℕ) → (numbered o ≡ 0 → ⊥) → o ≡ some (numbered o)
some_number none n = absurd (n refl)
some_number (some k) n = refl

pub own_numbered : (s : Settings) (r : Record) → Numbered (own_rules s r)
unfolding own_rules
own_numbered s r = (omega arith, omega arith, (omega arith, omega arith, (omega arith, omega arith, (omega arith, omega arith, tt))))

pub against_numbered : (before : List Record) (r : Record) → Numbered (rules_against before r)
unfolding rules_against
against_numbered before r = (omega arith, omega arith, (omega arith, omega arith, (omega arith, omega arith, tt)))

pub description_numbered : (c : Chip) (d : Description) → Numbered (description_rules c d)
unfolding description_rules
description_numbered c d = (omega arith, omega arith, (omega arith, omega arith, (omega arith, omega arith, tt)))

-- a description that breaks none of its rules, a record that breaks none by itself, and an element that breaks none against those
-- before it
pub record DescriptionKept (c : Chip) (d : Description) : Type 0 where
  pub type_4 : typed d ≡ true
  pub power_5 : powered d ≡ true
  pub pins_10 : strapped c d ≡ true

pub description_kept : (c : Chip) (d : Description) → description_breaks c d ≡ none → DescriptionKept c d
unfolding description_rules
description_kept c d h =
    let k = each_kept (description_rules c d) h in
    record { type_4 = k.0; power_5 = k.1.0; pins_10 = k.1.1.0 }

pub kept_description : (c : Chip) (d : Description) → DescriptionKept c d → description_breaks c d ≡ none
unfolding description_rules
kept_description c d k = rw (k.type_4, k.power_5, k.pins_10) refl

pub record OwnKept (s : Settings) (r : Record) : Type 0 where
  pub shape_8 : shaped r ≡ true
  pub codes_9 : coded r ≡ true
  pub use_23 : in_use s.rules (element_of r) ≡ true
  pub pins_10 : pinned s.chip r ≡ true

pub record AgainstKept (before : List Record) (r : Record) : Type 0 where
  pub order_10 : in_order before r ≡ true
  pub room_11 : zones_fit before r ≡ true
  pub fresh_12 : fresh before r ≡ true

module _ (before : List Record) (r : Record) where
  pub against_kept : first_broken (rules_against before r) ≡ none → AgainstKept before r
  unfolding rules_against
  against_kept h =
      let k = each_kept (rules_against before r) h in
      record { order_10 = k.0; room_11 = k.1.0; fresh_12 = k.1.1.0 }

  pub kept_against : AgainstKept before r → first_broken (rules_against before r) ≡ none
  unfolding rules_against
  kept_against k = rw (k.order_10, k.room_11, k.fresh_12) refl

module _ (s : Settings) where
  pub own_kept : (r : Record) → first_broken (own_rules s r) ≡ none → OwnKept s r
  unfolding own_rules
  own_kept r h =
      let k = each_kept (own_rules s r) h in
      record { shape_8 = k.0; codes_9 = k.1.0; use_23 = k.1.1.0; pins_10 = k.1.1.1.0 }

  pub kept_own : (r : Record) → OwnKept s r → first_broken (own_rules s r) ≡ none
  unfolding own_rules
  kept_own r k = rw (k.shape_8, k.codes_9, k.use_23, k.pins_10) refl

  -- an element after others: its own rules, then those against them
  pub own_breaks_lem :
      (before : List Record) (r : Record) {k : ℕ} → first_broken (own_rules s r) ≡ some k → element_breaks s before r ≡ some k
  own_breaks_lem before r h = broken_first (own_rules s r) (rules_against before r) h

  pub then_against :
      (before : List Record) (r : Record)
      → first_broken (own_rules s r) ≡ none
      → element_breaks s before r ≡ first_broken (rules_against before r)
  then_against before r h = kept_then (own_rules s r) (rules_against before r) h

  pub own_unbroken : (before : List Record) (r : Record) → element_breaks s before r ≡ none → first_broken (own_rules s r) ≡ none
  own_unbroken before r h =
      kept_each (own_rules s r) (kept_split (own_rules s r) (rules_against before r) (each_kept (own_rules s r ++ rules_against before r) h)).0

  pub against_unbroken : (before : List Record) (r : Record) → element_breaks s before r ≡ none → AgainstKept before r
  against_unbroken before r h = against_kept before r (sym (then_against before r (own_unbroken before r h)) ∙ h)

  pub both_kept :
      (before : List Record) (r : Record) → first_broken (own_rules s r) ≡ none → AgainstKept before r → element_breaks s before r ≡ none
  both_kept before r h k = then_against before r h ∙ kept_against before r k

  pub element_small : (before : List Record) (r : Record) (k : ℕ) → element_breaks s before r ≡ some k → k < 100
  element_small before r k h =
      broken_small (own_rules s r ++ rules_against before r)
      (numbered_join (own_rules s r) (rules_against before r) (own_numbered s r) (against_numbered before r)) k h

-- What keeps 9 and 10 is of its kind. No use of a pin permits FFh.
none_permits : (c : Chip) (u : Use) → among 0xff (permitted c u) ≡ false
none_permits C8051F320 FanPin = refl
none_permits C8051F320 AnaloguePin = refl
none_permits C8051F320 ChipSelect = refl
none_permits C8051F320 StatusLed = refl
none_permits C8051F320 HardwareRevision = refl
none_permits C8051F321 FanPin = refl
none_permits C8051F321 AnaloguePin = refl
none_permits C8051F321 ChipSelect = refl
none_permits C8051F321 StatusLed = refl
none_permits C8051F321 HardwareRevision = refl

module _ (c : Chip) where
  allowed_chip : (u : Use) (p : Pin) → allowed c u p ≡ true → of_chip c p ≡ true
  allowed_chip u p h = (and-true (of_chip c p) (among p.0 (permitted c u)) h).0

  pub allowed_used : (u : Use) (p : Pin) → allowed c u p ≡ true → not (eqb p.0 0xff) ≡ true
  allowed_used u p h = go (eqb p.0 0xff) refl
    where
      go : (t : Bool) → eqb p.0 0xff ≡ t → not t ≡ true
      go true e =
          let m = (and-true (of_chip c p) (among p.0 (permitted c u)) h).1 in
          absurd (false≢true (sym (none_permits c u) ∙ (rw (eqb-true p.0 0xff e) at m)))
      go false e = refl

  allowed_standing : (u : Use) (p : Optional Pin) → allowed_or_unused c u p ≡ true → standing c p ≡ true
  allowed_standing u None h = refl
  allowed_standing u (Some p) h = simp (allowed_chip u p h, allowed_used u p h)

  pub three_standing :
      (u : Use) (p q r : Optional Pin)
      → allowed_or_unused c u p && (allowed_or_unused c u q && allowed_or_unused c u r) ≡ true
      → standing c p && (standing c q && standing c r) ≡ true
  three_standing u p q r h =
      let k = and-true (allowed_or_unused c u p) (allowed_or_unused c u q && allowed_or_unused c u r) h in
      let l = and-true (allowed_or_unused c u q) (allowed_or_unused c u r) k.1 in
      simp (allowed_standing u p k.0, allowed_standing u q l.0, allowed_standing u r l.1)

  selected_chosen : (a : Address) → selected c a ≡ true → chosen c a ≡ true
  selected_chosen (Bus a) h = refl
  selected_chosen (Select p) h = allowed_chip ChipSelect p h

  device_kind : (bus : ℕ) (a : Address) → addressed bus a ≡ true → selected c a ≡ true → of_its_device c bus a ≡ true
  device_kind bus a h k = simp ((and-true (among bus bus_types) (of_its_bus bus a) h).1, selected_chosen a k)

  motor_kind : (f : PwmFan) → fanned c f ≡ true → of_its_motor c f ≡ true
  motor_kind f k =
      let p = and-true (allowed c FanPin f.pwm) (allowed_or_unused c FanPin f.tachometer && rises f.pwm f.tachometer) k in
      let q = and-true (allowed_or_unused c FanPin f.tachometer) (rises f.pwm f.tachometer) p.1 in
      simp (allowed_chip FanPin f.pwm p.0, allowed_standing FanPin f.tachometer q.0)

  pub kept_kind : (r : Record) → coded r ≡ true → pinned c r ≡ true → of_its_kind c r ≡ true
  kept_kind (digital d) h k = device_kind d.bus d.address h k
  kept_kind (analogue a) h k = allowed_chip AnaloguePin a.pin k
  kept_kind (fan f) h k = motor_kind f k
  kept_kind (led l) h k = three_standing StatusLed l.one.pin l.two.pin l.three.pin k
  kept_kind (water w) h k = allowed_chip AnaloguePin w.pin k
  kept_kind (pump f) h k = motor_kind f k
  kept_kind (voltage v) h k = allowed_chip AnaloguePin v.pin k
  kept_kind (current x) h k = allowed_chip AnaloguePin x.pin k
  kept_kind (controller d bs) h k =
      device_kind d.bus d.address (and-true (addressed d.bus d.address) (filled bs) h).0 k
  kept_kind (tachometer d a b) h k = device_kind d.bus d.address h k
  kept_kind (zone bytes) h k = refl
  kept_kind (string bytes) h k = refl
  kept_kind (external x r g b) h k =
      let a = addressed x.device.bus x.device.address in
      device_kind x.device.bus x.device.address (and-true a (among x.identifier chip_identifiers) h).0 k
  kept_kind (rgb r) h k =
      let up = ltb r.red.0 r.green.0 && ltb r.green.0 r.blue.0 in
      let p = and-true (allowed c FanPin r.red) (allowed c FanPin r.green && (allowed c FanPin r.blue && up)) k in
      let q = and-true (allowed c FanPin r.green) (allowed c FanPin r.blue && up) p.1 in
      let t = and-true (allowed c FanPin r.blue) up q.1 in
      simp (allowed_chip FanPin r.red p.0, allowed_chip FanPin r.green q.0, allowed_chip FanPin r.blue t.0)

pub unbroken_kind : (s : Settings) (before : List Record) (r : Record) → element_breaks s before r ≡ none → of_its_kind s.chip r ≡ true
unbroken_kind s before r h =
    let k = own_kept s r (own_unbroken s before r h) in
    kept_kind s.chip r k.codes_9 k.pins_10

pub described_kind : (c : Chip) (d : Description) → description_breaks c d ≡ none → description_kind c d ≡ true
described_kind c d h =
    three_standing c HardwareRevision d.revision0 d.revision1 d.revision2 (description_kept c d h).pins_10
