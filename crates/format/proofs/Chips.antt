-- Once over both chips: what the 321 accepts the 320 accepts, with the same count and the same records but for the chip. The layout
-- does not say the chip, numbers and claims do not look at it, and a pin that the 321 permits the 320 permits. And it is not so the
-- other way.
-- Assumes nothing.
use Prim.Native.Nat.{ℕ, suc, ◌+◌, ◌≤◌}
use native.Mathlib.Omega.{arith}
use mathlib.Core.Path.{◌≡◌, refl, sym, ◌∙◌, ap, subst}
use mathlib.Core.Bool.{Bool, true, false, ◌&&◌, ◌||◌}
use mathlib.Core.List.{List, [], ◌∷◌, ◌++◌}
use mathlib.Core.Option.{none}
use lib.ListN.{length}
use lib.Dec.{eqb, ltb}
use Rattle.format.specs.Slots.{Slot, Fits, Bytes, all_roomy}
use Rattle.format.specs.Records.{Record, digital, analogue, fan, led, water, pump, voltage, current, controller, tachometer, zone}
use Rattle.format.specs.Records.{string, external, rgb, element_of}
use Rattle.format.specs.Layout.{optional_pin_slot, address, layout, layouts, table}
use Rattle.format.specs.Pins.{among, on_chip, kept_if, only, listed, permitted, of_chip, allowed, unused, allowed_or_unused}
use Rattle.format.specs.Rules.{unless_kept, shaped, coded, in_use, pinned, selected, rises, fanned, of_its_bus}
use Rattle.format.specs.ZonesAndStrings.{Role, role, zone_declared, string_declared, gathered, zones, strings, rules_against}
use Rattle.format.specs.ZonesAndStrings.{zone_named, string_named, all_among, first_naming, zoneless, nameless}
use Rattle.format.specs.FanList.{used_pin, fan_pins, all_fan_pins}
use Rattle.format.specs.Claims.{Made, made_at, own_used, on_bus, claims_of, claims_from, contested}
use Rattle.format.specs.Table.{element_breaks, description_breaks, PassKept}
use Rattle.format.specs.Verdict.{Accepts, Verdict, accepted}
use Rattle.format.specs.Known.{table_a}
use Rattle.format.specs.Chips.{with_chip, pin_on, optional_on, address_on, motor_on, record_on, records_on, description_on}
use Rattle.format.specs.declared.pins.Chip.{Chip}
use Rattle.format.specs.declared.pins.Chip.TheVariants.{C8051F320, C8051F321}
use Rattle.format.specs.declared.pins.Use.{Use}
use Rattle.format.specs.declared.pins.Use.TheVariants.{FanPin, AnaloguePin, ChipSelect, StatusLed, HardwareRevision}
use Rattle.format.specs.declared.pins.Pin.{Pin}
use Rattle.std.specs.Prelude.{Option}
use Rattle.format.specs.declared.pins.Pin.{Pin}
use Rattle.std.specs.Prelude.{None, Some}
use Rattle.format.specs.declared.settings.Settings.{Settings}
use Rattle.format.specs.declared.settings.Rules.{Rules}
use Rattle.format.specs.declared.records.Description.{Description}
use Rattle.format.specs.declared.records.PwmFan.{PwmFan}
use Rattle.format.specs.declared.records.Address.{Address}
use Rattle.format.specs.declared.records.Address.TheVariants.{Bus, Select}
use Rattle.format.specs.Answers.{Gives as Accepted}
use Rattle.format.proofs.Kept.{and-true, OwnKept, own_kept, kept_own, own_unbroken, then_against, description_kept, kept_description}
use Rattle.format.proofs.KnownTables.{small_bytes, chips_apart}
use Rattle.format.proofs.Demand3.{unique, only_one_list}

-- What does not look at the chip.
module _ (c : Chip) where
  slot_on : (p : Option Pin) → optional_pin_slot (optional_on c p) ≡ optional_pin_slot p
  slot_on None = refl
  slot_on (Some p) = refl

  unused_on : (p : Option Pin) → unused (optional_on c p) ≡ unused p
  unused_on None = refl
  unused_on (Some p) = refl

  used_on : (p : Option Pin) → own_used (optional_on c p) ≡ own_used p
  used_on None = refl
  used_on (Some p) = refl

  address_on_lem : (a : Address) → address (address_on c a) ≡ address a
  address_on_lem (Bus a) = refl
  address_on_lem (Select p) = refl

  its_bus_on : (bus : ℕ) (a : Address) → of_its_bus bus (address_on c a) ≡ of_its_bus bus a
  its_bus_on bus (Bus a) = refl
  its_bus_on bus (Select p) = refl

  on_bus_on : (a : Address) → on_bus (address_on c a) ≡ on_bus a
  on_bus_on (Bus a) = refl
  on_bus_on (Select p) = refl

  pub layout_on : (r : Record) → layout (record_on c r) ≡ layout r
  layout_on (digital d) = rw (address_on_lem d.address) refl
  layout_on (analogue a) = refl
  layout_on (fan f) = rw (slot_on f.tachometer) refl
  layout_on (led l) = rw (slot_on l.one.pin, slot_on l.two.pin, slot_on l.three.pin) refl
  layout_on (water w) = refl
  layout_on (pump f) = rw (slot_on f.tachometer) refl
  layout_on (voltage v) = refl
  layout_on (current x) = refl
  layout_on (controller d bs) = rw (address_on_lem d.address) refl
  layout_on (tachometer d a b) = rw (address_on_lem d.address) refl
  layout_on (zone bytes) = refl
  layout_on (string bytes) = refl
  layout_on (external x r g b) = rw (address_on_lem x.device.address) refl
  layout_on (rgb r) = refl

  pub role_on : (r : Record) → role (record_on c r) ≡ role r
  role_on (digital d) = refl
  role_on (analogue a) = refl
  role_on (fan f) = refl
  role_on (led l) = refl
  role_on (water w) = refl
  role_on (pump f) = refl
  role_on (voltage v) = refl
  role_on (current x) = refl
  role_on (controller d bs) = refl
  role_on (tachometer d a b) = refl
  role_on (zone bytes) = refl
  role_on (string bytes) = refl
  role_on (external x r g b) = refl
  role_on (rgb r) = refl

  claims_on : (r : Record) → claims_of (record_on c r) ≡ claims_of r
  claims_on (digital d) = on_bus_on d.address
  claims_on (analogue a) = refl
  claims_on (fan f) = rw (used_on f.tachometer) refl
  claims_on (led l) = rw (used_on l.one.pin, used_on l.two.pin, used_on l.three.pin) refl
  claims_on (water w) = refl
  claims_on (pump f) = rw (used_on f.tachometer) refl
  claims_on (voltage v) = refl
  claims_on (current x) = refl
  claims_on (controller d bs) = on_bus_on d.address
  claims_on (tachometer d a b) = on_bus_on d.address
  claims_on (zone bytes) = refl
  claims_on (string bytes) = refl
  claims_on (external x r g b) = on_bus_on x.device.address
  claims_on (rgb r) = refl

  shaped_on : (r : Record) → shaped (record_on c r) ≡ shaped r
  shaped_on (digital d) = refl
  shaped_on (analogue a) = refl
  shaped_on (fan f) = refl
  shaped_on (led l) = refl
  shaped_on (water w) = refl
  shaped_on (pump f) = refl
  shaped_on (voltage v) = refl
  shaped_on (current x) = refl
  shaped_on (controller d bs) = refl
  shaped_on (tachometer d a b) = refl
  shaped_on (zone bytes) = refl
  shaped_on (string bytes) = refl
  shaped_on (external x r g b) = refl
  shaped_on (rgb r) = refl

  coded_on : (r : Record) → coded (record_on c r) ≡ coded r
  coded_on (digital d) = rw (its_bus_on d.bus d.address) refl
  coded_on (analogue a) = refl
  coded_on (fan f) = rw (unused_on f.tachometer) refl
  coded_on (led l) = rw (unused_on l.one.pin, unused_on l.two.pin, unused_on l.three.pin) refl
  coded_on (water w) = refl
  coded_on (pump f) = rw (unused_on f.tachometer) refl
  coded_on (voltage v) = refl
  coded_on (current x) = refl
  coded_on (controller d bs) = rw (its_bus_on d.bus d.address) refl
  coded_on (tachometer d a b) = rw (its_bus_on d.bus d.address) refl
  coded_on (zone bytes) = refl
  coded_on (string bytes) = refl
  coded_on (external x r g b) = rw (its_bus_on x.device.bus x.device.address) refl
  coded_on (rgb r) = refl

  in_use_on : (k : Rules) (r : Record) → in_use k (element_of (record_on c r)) ≡ in_use k (element_of r)
  in_use_on k (digital d) = refl
  in_use_on k (analogue a) = refl
  in_use_on k (fan f) = refl
  in_use_on k (led l) = refl
  in_use_on k (water w) = refl
  in_use_on k (pump f) = refl
  in_use_on k (voltage v) = refl
  in_use_on k (current x) = refl
  in_use_on k (controller d bs) = refl
  in_use_on k (tachometer d a b) = refl
  in_use_on k (zone bytes) = refl
  in_use_on k (string bytes) = refl
  in_use_on k (external x r g b) = refl
  in_use_on k (rgb r) = refl

  layouts_on : (rs : List Record) → layouts (records_on c rs) ≡ layouts rs
  layouts_on [] = refl
  layouts_on (r ∷ rs) = λ i. layout_on r i ++ layouts_on rs i

  pub table_on : (d : Description) (rs : List Record) → table (description_on c d) (records_on c rs) ≡ table d rs
  table_on d rs = rw (layouts_on rs, slot_on d.revision0, slot_on d.revision1, slot_on d.revision2) refl

  pub count_on : (rs : List Record) → length (records_on c rs) ≡ length rs
  count_on [] = refl
  count_on (r ∷ rs) = ap suc (count_on rs)

  gathered_on : (numbers : Role → List ℕ) (rs : List Record) → gathered numbers (records_on c rs) ≡ gathered numbers rs
  gathered_on numbers [] = refl
  gathered_on numbers (r ∷ rs) = λ i. numbers (role_on r i) ++ gathered_on numbers rs i

  naming_on :
      (names : Role → List ℕ) (declared : List ℕ) (at : ℕ) (rs : List Record)
      → first_naming names declared at (records_on c rs) ≡ first_naming names declared at rs
  naming_on names declared at [] = refl
  naming_on names declared at (r ∷ rs) =
      (λ i. unless_kept (all_among (names (role_on r i)) declared) at (first_naming names declared (at + length (layout_on r i))
      (records_on c rs)))
      ∙ ap (unless_kept (all_among (names (role r)) declared) at) (naming_on names declared (at + length (layout r)) rs)

  claims_from_on : (at : ℕ) (rs : List Record) → claims_from at (records_on c rs) ≡ claims_from at rs
  claims_from_on at [] = refl
  claims_from_on at (r ∷ rs) =
      (λ i. made_at at (claims_on r i) ++ claims_from (at + length (layout_on r i)) (records_on c rs))
      ∙ ap (λ (l : List Made). made_at at (claims_of r) ++ l) (claims_from_on (at + length (layout r)) rs)

  zoneless_on : (rs : List Record) → zoneless (records_on c rs) ≡ zoneless rs
  zoneless_on rs = rw (gathered_on zone_declared rs) (naming_on zone_named (zones rs) 16 rs)

  nameless_on : (d : Description) (rs : List Record) → nameless (description_on c d) (records_on c rs) ≡ nameless d rs
  nameless_on d rs = rw (gathered_on string_declared rs, naming_on string_named (0 ∷ strings rs) 16 rs) refl

  contested_on : (d : Description) (rs : List Record) → contested (description_on c d) (records_on c rs) ≡ contested d rs
  contested_on d rs = rw (used_on d.revision0, used_on d.revision1, used_on d.revision2, claims_from_on 16 rs) refl

  used_pin_on : (p : Option Pin) → used_pin (optional_on c p) ≡ used_pin p
  used_pin_on None = refl
  used_pin_on (Some p) = refl

  fan_pins_on : (r : Record) → fan_pins (record_on c r) ≡ fan_pins r
  fan_pins_on (digital d) = refl
  fan_pins_on (analogue a) = refl
  fan_pins_on (fan f) = rw (used_pin_on f.tachometer) refl
  fan_pins_on (led l) = refl
  fan_pins_on (water w) = refl
  fan_pins_on (pump f) = rw (used_pin_on f.tachometer) refl
  fan_pins_on (voltage v) = refl
  fan_pins_on (current x) = refl
  fan_pins_on (controller d bs) = refl
  fan_pins_on (tachometer d a b) = refl
  fan_pins_on (zone bytes) = refl
  fan_pins_on (string bytes) = refl
  fan_pins_on (external x r g b) = refl
  fan_pins_on (rgb r) = refl

  all_fan_pins_on : (rs : List Record) → all_fan_pins (records_on c rs) ≡ all_fan_pins rs
  all_fan_pins_on [] = refl
  all_fan_pins_on (r ∷ rs) = λ i. fan_pins_on r i ++ all_fan_pins_on rs i

  against_on : (before : List Record) (r : Record) → rules_against (records_on c before) (record_on c r) ≡ rules_against before r
  unfolding rules_against
  against_on before r = rw (
    all_fan_pins_on before,
    fan_pins_on r,
    role_on r,
    gathered_on zone_declared before,
    gathered_on string_declared before,
  ) refl

-- A pin that a chip permits is one of the list, all of which the 320 has.
or_larger : (t u v : Bool) → (u ≡ true → v ≡ true) → t || u ≡ true → t || v ≡ true
or_larger true u v f e = refl
or_larger false u v f e = f e

or-true : (t v : Bool) → v ≡ true → t || v ≡ true
or-true true v e = refl
or-true false v e = e

kept_larger :
    (t : Bool) (b x : ℕ) (l : List ℕ) (v : Bool) → (among b l ≡ true → v ≡ true) → among b (kept_if t x l) ≡ true → eqb b x || v ≡ true
kept_larger true b x l v f h = or_larger (eqb b x) (among b l) v f h
kept_larger false b x l v f h = or-true (eqb b x) v (f h)

pub only_among : (c : Chip) (b : ℕ) (l : List ℕ) → among b (only c l) ≡ true → among b l ≡ true
only_among c b [] h = h
only_among c b (x ∷ l) h = kept_larger (on_chip c x) b x (only c l) (among b l) (λ k. only_among c b l k) h

only_large : (l : List ℕ) → only C8051F320 l ≡ l
only_large [] = refl
only_large (x ∷ l) = ap (λ (m : List ℕ). x ∷ m) (only_large l)

abbrev small : Chip
small = C8051F321

abbrev large : Chip
large = C8051F320

allowed_larger : (u : Use) (p : Pin) → allowed small u p ≡ true → allowed large u (pin_on large p) ≡ true
allowed_larger u p h =
    rw (only_large (listed u))
    (only_among small p.0 (listed u) (and-true (of_chip small p) (among p.0 (permitted small u)) h).1)

optional_larger : (u : Use) (p : Option Pin) → allowed_or_unused small u p ≡ true → allowed_or_unused large u (optional_on large p) ≡ true
optional_larger u None h = refl
optional_larger u (Some p) h = allowed_larger u p h

three_larger :
    (u : Use) (p q r : Option Pin)
    → allowed_or_unused small u p && (allowed_or_unused small u q && allowed_or_unused small u r) ≡ true
    → allowed_or_unused large u (optional_on large p) &&
    (allowed_or_unused large u (optional_on large q) && allowed_or_unused large u (optional_on large r)) ≡ true
three_larger u p q r h =
    let k = and-true (allowed_or_unused small u p) (allowed_or_unused small u q && allowed_or_unused small u r) h in
    let l = and-true (allowed_or_unused small u q) (allowed_or_unused small u r) k.1 in
    simp (optional_larger u p k.0, optional_larger u q l.0, optional_larger u r l.1)

selected_larger : (a : Address) → selected small a ≡ true → selected large (address_on large a) ≡ true
selected_larger (Bus a) h = refl
selected_larger (Select p) h = allowed_larger ChipSelect p h

rises_on : (p : Pin) (q : Option Pin) → rises p q ≡ true → rises (pin_on large p) (optional_on large q) ≡ true
rises_on p None h = refl
rises_on p (Some q) h = h

fanned_larger : (f : PwmFan) → fanned small f ≡ true → fanned large (motor_on large f) ≡ true
fanned_larger f h =
    let p = and-true (allowed small FanPin f.pwm) (allowed_or_unused small FanPin f.tachometer && rises f.pwm f.tachometer) h in
    let q = and-true (allowed_or_unused small FanPin f.tachometer) (rises f.pwm f.tachometer) p.1 in
    simp (allowed_larger FanPin f.pwm p.0, optional_larger FanPin f.tachometer q.0, rises_on f.pwm f.tachometer q.1)

pinned_larger : (r : Record) → pinned small r ≡ true → pinned large (record_on large r) ≡ true
pinned_larger (digital d) h = selected_larger d.address h
pinned_larger (analogue a) h = allowed_larger AnaloguePin a.pin h
pinned_larger (fan f) h = fanned_larger f h
pinned_larger (led l) h = three_larger StatusLed l.one.pin l.two.pin l.three.pin h
pinned_larger (water w) h = allowed_larger AnaloguePin w.pin h
pinned_larger (pump f) h = fanned_larger f h
pinned_larger (voltage v) h = allowed_larger AnaloguePin v.pin h
pinned_larger (current x) h = allowed_larger AnaloguePin x.pin h
pinned_larger (controller d bs) h = selected_larger d.address h
pinned_larger (tachometer d a b) h = selected_larger d.address h
pinned_larger (zone bytes) h = refl
pinned_larger (string bytes) h = refl
pinned_larger (external x r g b) h = selected_larger x.device.address h
pinned_larger (rgb r) h =
    let up = ltb r.red.0 r.green.0 && ltb r.green.0 r.blue.0 in
    let p = and-true (allowed small FanPin r.red) (allowed small FanPin r.green && (allowed small FanPin r.blue && up)) h in
    let q = and-true (allowed small FanPin r.green) (allowed small FanPin r.blue && up) p.1 in
    let t = and-true (allowed small FanPin r.blue) up q.1 in
    simp (allowed_larger FanPin r.red p.0, allowed_larger FanPin r.green q.0, allowed_larger FanPin r.blue t.0, t.1)

-- So do the rules of a record, of the description and of the pass.
own_larger : (s : Settings) (r : Record) → OwnKept (with_chip small s) r → OwnKept (with_chip large s) (record_on large r)
own_larger s r k =
    record {
      shape_8 = rw (shaped_on large r) k.shape_8;
      codes_9 = rw (coded_on large r) k.codes_9;
      use_23 = rw (in_use_on large s.rules r) k.use_23;
      pins_10 = pinned_larger r k.pins_10;
    }

described_larger : (d : Description) → description_breaks small d ≡ none → description_breaks large (description_on large d) ≡ none
described_larger d h =
    let k = description_kept small d h in
    kept_description large (description_on large d)
    (record {
      type_4 = k.type_4;
      power_5 = k.power_5;
      pins_10 = three_larger HardwareRevision d.revision0 d.revision1 d.revision2 k.pins_10;
    })

element_larger :
    (s : Settings) (before : List Record) (r : Record)
    → element_breaks (with_chip small s) before r ≡ none
    → element_breaks (with_chip large s) (records_on large before) (record_on large r) ≡ none
element_larger s before r h =
    let t = with_chip small s in
    let own = own_unbroken t before r h in
    let q = record_on large r in
    then_against (with_chip large s) (records_on large before) q (kept_own (with_chip large s) q (own_larger s r (own_kept t r own)))
    ∙ rw (against_on large before r) (sym (then_against t before r own) ∙ h)

snoc_on : (c : Chip) (before : List Record) (r : Record) → records_on c (before ++ r ∷ []) ≡ records_on c before ++ record_on c r ∷ []
snoc_on c [] r = refl
snoc_on c (x ∷ before) r = ap (λ (l : List Record). record_on c x ∷ l) (snoc_on c before r)

passed_larger :
    (s : Settings) (before rs : List Record)
    → PassKept (with_chip small s) before rs
    → PassKept (with_chip large s) (records_on large before) (records_on large rs)
passed_larger s before [] k = tt
passed_larger s before (r ∷ rs) k = (
  omega (arith, count_on large before, k.0),
  element_larger s before r k.1,
  subst (λ (l : List Record). PassKept (with_chip large s) l (records_on large rs)) (snoc_on large before r)
      (passed_larger s (before ++ r ∷ []) rs k.2),
)

-- 'what the 321 accepts the 320 accepts': the same records but for the chip
pub larger_accepts :
    (s : Settings) (b : List ℕ) (d : Description) (rs : List Record)
    → Accepts (with_chip C8051F321 s) b d rs
    → Accepts (with_chip C8051F320 s) b (description_on C8051F320 d) (records_on C8051F320 rs)
larger_accepts s b d rs a =
    let k = a.keeps in
    let t = table_on large d rs in
    record {
      keeps =
          record {
            roomy_25 = ap all_roomy t ∙ k.roomy_25;
            limit = subst (λ (ss : List Slot). length ss ≤ 4096) (sym t) k.limit;
            described = described_larger d k.described;
            passed = passed_larger s [] rs k.passed;
            zoned = rw (zoneless_on large rs) k.zoned;
            named = rw (nameless_on large d rs) k.named;
            clear = rw (contested_on large d rs) k.clear;
          };
      fits = subst (λ (ss : List Slot). Fits b ss) (sym t) a.fits;
    }

-- .. with the same count
pub larger_verdict :
    (s : Settings) (b : List ℕ) (n : ℕ)
    → Verdict (with_chip C8051F321 s) b (Accepted n)
    → Verdict (with_chip C8051F320 s) b (Accepted n)
larger_verdict s b n (accepted d rs a) =
    rw (count_on large rs) at (accepted (description_on large d) (records_on large rs) (larger_accepts s b d rs a))

-- .. and whatever list the 320 accepts in those bytes is that one
pub larger_list :
    (s : Settings) (b : List ℕ) (d d' : Description) (rs rs' : List Record)
    → Bytes b
    → Accepts (with_chip C8051F321 s) b d rs
    → Accepts (with_chip C8051F320 s) b d' rs'
    → (d' ≡ description_on C8051F320 d) × (rs' ≡ records_on C8051F320 rs)
larger_list s b d d' rs rs' bytes a a' =
    only_one_list (with_chip large s) b d' (description_on large d) rs' (records_on large rs) bytes a' (larger_accepts s b d rs a)

-- It is not so the other way: table A with a hardware revision pin on P2.5.
abbrev witness : List ℕ
witness = table_a 0x01 0x10 0x80 0x25

pub larger_alone :
    (s : Settings) → Verdict (with_chip C8051F320 s) witness (Accepted 0)
    × ((n : ℕ) → Verdict (with_chip C8051F321 s) witness (Accepted n) → ⊥)
larger_alone s = (
  (chips_apart (with_chip large s)).1.1.0,
  λ n v.
      let e = unique (with_chip small s) witness _ _ (small_bytes witness refl) v (chips_apart (with_chip small s)).1.1.0 in
      let z : ◌≡◌ {A = ℕ} 0 1 = cc in
      omega arith,
)
