-- The pins that a chip lacks are free on the sheet of a table that is accepted for it: rule 10 leaves no claim on them. And how many
-- lines the sheet of each chip has.
-- Assumes nothing.
use Prim.Native.Nat.{ℕ, ◌+◌}
use mathlib.Core.Path.{◌≡◌, refl, sym, ◌∙◌, ap}
use mathlib.Core.Bool.{Bool, true, false, ◌&&◌, cond, false≢true}
use mathlib.Core.List.{List, [], ◌∷◌, ◌++◌}
use lib.ListN.{length}
use lib.Dec.{eqb, ltb}
use borrow.Author.Tests.{eqb-true}
use Rattle.format.specs.Records.{Record, digital, analogue, fan, led, water, pump, voltage, current, controller, tachometer, zone, string}
use Rattle.format.specs.Records.{external, rgb}
use Rattle.format.specs.Layout.{layout}
use Rattle.format.specs.Pins.{among, every, on_chip, kept_if, only, listed, permitted, of_chip, allowed, allowed_or_unused}
use Rattle.format.specs.Rules.{selected, rises, fanned, pinned}
use Rattle.format.specs.Claims.{Claim, made_at, own, own_used, on_bus, reference, of_motor, claims_of, claims_from, first_claims, claims}
use Rattle.format.specs.Table.{PassKept}
use Rattle.format.specs.Verdict.{Accepts}
use Rattle.format.specs.declared.pins.Chip.{Chip}
use Rattle.format.specs.declared.pins.Chip.TheVariants.{C8051F320, C8051F321}
use Rattle.format.specs.declared.pins.Pin.{Pin}
use Rattle.std.specs.Prelude.{Option}
use Rattle.format.specs.declared.pins.Pin.{Pin}
use Rattle.std.specs.Prelude.{None, Some}
use Rattle.format.specs.declared.pins.Use.{Use}
use Rattle.format.specs.declared.pins.Use.TheVariants.{FanPin, AnaloguePin, ChipSelect, StatusLed, HardwareRevision}
use Rattle.format.specs.declared.settings.Settings.{Settings}
use Rattle.format.specs.declared.records.Description.{Description}
use Rattle.format.specs.declared.records.Address.{Address}
use Rattle.format.specs.declared.records.Address.TheVariants.{Bus, Select}
use Rattle.format.specs.declared.records.PwmFan.{PwmFan}
use Rattle.format.proofs.Kept.{and-true, own_kept, own_unbroken, description_kept}
use Rattle.pinsheet.specs.Sheet.{Claimant, free, fault, first_of, or_else, entry}
use Rattle.pinsheet.proofs.Sheet.{first_append}

-- 'a sheet of 25 lines (21 for the 321)': the pins of each chip
pub lines_320 : length (only C8051F320 every) ≡ 25
lines_320 = refl

pub lines_321 : length (only C8051F321 every) ≡ 21
lines_321 = refl

-- what the smaller chip has, both have
on_both : (c : Chip) (b : ℕ) → on_chip C8051F321 b ≡ true → on_chip c b ≡ true
on_both C8051F320 b h = refl
on_both C8051F321 b h = h

-- claims on pins of the chip
module _ (c : Chip) where
  abbrev On : List Claim → Type 0
  On [] = Unit {0}
  On (x ∷ xs) = (on_chip c x.pin ≡ true) × On xs

  on_append : (xs ys : List Claim) → On xs → On ys → On (xs ++ ys)
  on_append [] ys h k = k
  on_append (x ∷ xs) ys h k = (h.0, on_append xs ys h.1 k)

  -- a pin that some use permits is one
  only_on : (b : ℕ) (bs : List ℕ) → among b (only c bs) ≡ true → on_chip c b ≡ true
  only_on b [] h = absurd (false≢true h)
  only_on b (x ∷ bs) h = go (on_chip c x) refl (eqb b x) refl h (λ q. only_on b bs q)
    where
      go :
          (t : Bool)
          → on_chip c x ≡ t
          → (s : Bool)
          → eqb b x ≡ s
          → among b (kept_if t x (only c bs)) ≡ true
          → (among b (only c bs) ≡ true → on_chip c b ≡ true)
          → on_chip c b ≡ true
      go true e true p q below = ap (on_chip c) (eqb-true b x p) ∙ e
      go true e false p q below = below (rw p at q)
      go false e s p q below = below q

  allowed_on : (u : Use) (p : Pin) → allowed c u p ≡ true → on_chip c p.0 ≡ true
  allowed_on u p h = only_on p.0 (listed u) (and-true (of_chip c p) (among p.0 (permitted c u)) h).1

  used_on : (u : Use) (p : Option Pin) → allowed_or_unused c u p ≡ true → On (own_used p)
  used_on u None h = tt
  used_on u (Some p) h = (allowed_on u p h, tt)

  three_on :
      (u : Use) (p q r : Option Pin)
      → allowed_or_unused c u p && (allowed_or_unused c u q && allowed_or_unused c u r) ≡ true
      → On (own_used p ++ own_used q ++ own_used r)
  three_on u p q r h =
      let k = and-true (allowed_or_unused c u p) (allowed_or_unused c u q && allowed_or_unused c u r) h in
      let l = and-true (allowed_or_unused c u q) (allowed_or_unused c u r) k.1 in
      let two = on_append (own_used p) (own_used q) (used_on u p k.0) (used_on u q l.0) in
      on_append (own_used p ++ own_used q) (own_used r) two (used_on u r l.1)

  bus_on : (a : Address) → selected c a ≡ true → On (on_bus a)
  bus_on (Bus a) h = (on_both c 0x03 refl, (on_both c 0x04 refl, tt))
  bus_on (Select p) h =
      (on_both c 0x00 refl, (on_both c 0x01 refl, (on_both c 0x02 refl, (allowed_on ChipSelect p h, tt))))

  sensor_on_lem : (p : Pin) → allowed c AnaloguePin p ≡ true → On (reference ∷ own p ∷ [])
  sensor_on_lem p h = (on_both c 0x07 refl, (allowed_on AnaloguePin p h, tt))

  motor_on_lem : (f : PwmFan) → fanned c f ≡ true → On (of_motor f)
  motor_on_lem f h =
      let k = and-true (allowed c FanPin f.pwm) (allowed_or_unused c FanPin f.tachometer && rises f.pwm f.tachometer) h in
      let l = and-true (allowed_or_unused c FanPin f.tachometer) (rises f.pwm f.tachometer) k.1 in
      (allowed_on FanPin f.pwm k.0, used_on FanPin f.tachometer l.0)

  -- the claims of a record that keeps 10
  pub claims_on : (r : Record) → pinned c r ≡ true → On (claims_of r)
  claims_on (digital d) h = bus_on d.address h
  claims_on (analogue a) h = sensor_on_lem a.pin h
  claims_on (fan f) h = motor_on_lem f h
  claims_on (led l) h = three_on StatusLed l.one.pin l.two.pin l.three.pin h
  claims_on (water w) h = sensor_on_lem w.pin h
  claims_on (pump f) h = motor_on_lem f h
  claims_on (voltage v) h = sensor_on_lem v.pin h
  claims_on (current x) h = sensor_on_lem x.pin h
  claims_on (controller d bs) h = bus_on d.address h
  claims_on (tachometer d a b) h = bus_on d.address h
  claims_on (zone bytes) h = tt
  claims_on (string bytes) h = tt
  claims_on (external x r g b) h = bus_on x.device.address h
  claims_on (rgb r) h =
      let up = ltb r.red.0 r.green.0 && ltb r.green.0 r.blue.0 in
      let p = and-true (allowed c FanPin r.red) (allowed c FanPin r.green && (allowed c FanPin r.blue && up)) h in
      let q = and-true (allowed c FanPin r.green) (allowed c FanPin r.blue && up) p.1 in
      let t = and-true (allowed c FanPin r.blue) up q.1 in
      (allowed_on FanPin r.red p.0, (allowed_on FanPin r.green q.0, (allowed_on FanPin r.blue t.0, tt)))

  -- a pin that the chip lacks is none of them
  module _ (pin : ℕ) (lacks : on_chip c pin ≡ false) where
    not_it : (b : ℕ) → on_chip c b ≡ true → eqb pin b ≡ false
    not_it b h = go (eqb pin b) refl
      where
        go : (t : Bool) → eqb pin b ≡ t → t ≡ false
        go true e = absurd (false≢true (sym lacks ∙ ap (on_chip c) (eqb-true pin b e) ∙ h))
        go false e = refl

    not_made : (at : ℕ) (xs : List Claim) → On xs → first_of pin (made_at at xs) ≡ free
    not_made at [] h = refl
    not_made at (x ∷ xs) h = rw (not_it x.pin h.0) (not_made at xs h.1)

    not_from :
        (σ : Settings) (before : List Record) (at : ℕ) (rs : List Record)
        → σ.chip ≡ c
        → PassKept σ before rs
        → first_of pin (claims_from at rs) ≡ free
    not_from σ before at [] e k = refl
    not_from σ before at (r ∷ rs) e k =
        let o = own_kept σ r (own_unbroken σ before r k.1) in
        let none = not_made at (claims_of r) (claims_on r (rw e at o.pins_10)) in
        first_append pin (made_at at (claims_of r)) (claims_from (at + length (layout r)) rs)
        ∙ ap (λ (x : Claimant). or_else x (first_of pin (claims_from (at + length (layout r)) rs))) none
        ∙ not_from σ (before ++ r ∷ []) (at + length (layout r)) rs e k.2

-- THE LAW
pub lacking_free :
    (σ : Settings) (b : List ℕ) (d : Description) (rs : List Record) (pin : ℕ)
    → Accepts σ b d rs
    → on_chip σ.chip pin ≡ false
    → entry d rs pin ≡ free
lacking_free σ b d rs pin a lacks =
    let c = σ.chip in
    let s = (description_kept c d a.keeps.described).pins_10 in
    let straps = three_on c HardwareRevision d.revision0 d.revision1 d.revision2 s in
    let first : first_of pin (made_at 0 (first_claims d)) ≡ free =
    not_made c pin lacks 0 (first_claims d) (on_both c 0x10 refl, straps) in
    ap (λ (t : Bool). cond t fault (first_of pin (claims d rs))) (not_it c pin lacks 0x10 (on_both c 0x10 refl))
    ∙ first_append pin (made_at 0 (first_claims d)) (claims_from 16 rs)
    ∙ ap (λ (x : Claimant). or_else x (first_of pin (claims_from 16 rs))) first
    ∙ not_from c pin lacks σ [] 16 rs refl a.keeps.passed
