-- What each kind of element claims, where it keeps 10.
-- Assumes nothing.
use Prim.Native.Nat.{ℕ}
use native.Mathlib.Omega.{arith}
use mathlib.Core.Path.{◌≡◌, refl, sym}
use mathlib.Core.Bool.{true, false, ◌&&◌}
use mathlib.Core.List.{List, [], ◌∷◌}
use lib.Dec.{eqb, ltb}
use lib.Bits.{bit_or}
use borrow.Author.Tests.{ltb-true, ne_eqb}
use Rattle.format.specs.Pins.{among, every, listed, permitted, of_chip, allowed, allowed_or_unused}
use Rattle.format.specs.Rules.{rises}
use Rattle.format.specs.Claims.{shared, select, alone, Claim, claim, made_at}
use Rattle.format.specs.declared.pins.Use.{Use}
use Rattle.format.specs.declared.pins.Use.TheVariants.{FanPin, AnaloguePin, ChipSelect, StatusLed, HardwareRevision}
use Rattle.format.specs.declared.pins.Chip.{Chip}
use Rattle.format.specs.declared.pins.Pin.{Pin}
use Rattle.std.specs.Prelude.{Option}
use Rattle.format.specs.declared.pins.Pin.{Pin}
use Rattle.std.specs.Prelude.{None, Some}
use Rattle.format.proofs.Chips.{only_among}
use Rattle.pinsets.proofs.Table.{and_left, and_right}
use Rattle.pinsets.specs.Sets.{pin_index, pin_bit, has_bit}
use Rattle.claims.specs.Taken.{free, used_pin, on_pin, on_pins, ClaimsAre, HeldIs}
use Rattle.claims.proofs.Tests.{both}
use Rattle.claims.proofs.Sets.{at_among, within, by_test, empty, one_pin, union}
use Rattle.claims.proofs.Lone.{distinct}

-- a permitted pin is listed, and a listed one is one of the 25
listed_pin : (u : Use) (p : ℕ) → among p (listed u) ≡ true → among p every ≡ true
listed_pin FanPin p h = at_among (listed FanPin) (λ p. among p every) refl p h
listed_pin AnaloguePin p h = at_among (listed AnaloguePin) (λ p. among p every) refl p h
listed_pin ChipSelect p h = at_among (listed ChipSelect) (λ p. among p every) refl p h
listed_pin StatusLed p h = at_among (listed StatusLed) (λ p. among p every) refl p h
listed_pin HardwareRevision p h = h

pub allowed_listed : (c : Chip) (u : Use) (p : Pin) → allowed c u p ≡ true → among p.0 (listed u) ≡ true
allowed_listed c u p h = only_among c p.0 (listed u) (and_right (of_chip c p) (among p.0 (permitted c u)) h)

pub allowed_pin : (c : Chip) (u : Use) (p : Pin) → allowed c u p ≡ true → among p.0 every ≡ true
allowed_pin c u p h = listed_pin u p.0 (allowed_listed c u p h)

pub or_unused : (c : Chip) (u : Use) (p : Option Pin) → allowed_or_unused c u p ≡ true → on_pin p ≡ true
or_unused c u None h = refl
or_unused c u (Some p) h = allowed_pin c u p h

pub three_pins :
    (c : Chip) (u : Use) (p q r : Option Pin)
    → allowed_or_unused c u p && (allowed_or_unused c u q && allowed_or_unused c u r) ≡ true
    → on_pins p q r ≡ true
three_pins c u p q r h =
    let x = allowed_or_unused c u p in
    let y = allowed_or_unused c u q in
    let z = allowed_or_unused c u r in
    let m = and_right x (y && z) h in
    rw (or_unused c u p (and_left x (y && z) h), or_unused c u q (and_left y z m), or_unused c u r (and_right y z m)) refl

-- a place that may be unused
pub used_within : (p : Option Pin) → on_pin p ≡ true → within (used_pin p) ≡ true
used_within None h = refl
used_within (Some p) h = both (among p.0 every) true h refl

-- pins that rise are distinct
apart : (p q : ℕ) → ltb p q ≡ true → eqb q p ≡ false
apart p q h = ne_eqb q p (λ e. omega (arith, ltb-true p q h))

pub two_distinct : (p : Pin) (q : Option Pin) → rises p q ≡ true → true ≡ distinct [] (p.0 ∷ used_pin q)
two_distinct p None h = refl
two_distinct p (Some q) h = rw (apart p.0 q.0 h) refl

pub three_distinct : (p q r : ℕ) → ltb p q ≡ true → ltb q r ≡ true → true ≡ distinct [] (p ∷ q ∷ r ∷ [])
three_distinct p q r h k =
    rw (apart p q h, apart q r k, ne_eqb r p (λ e. omega (arith, ltb-true p q h, ltb-true q r k))) refl

-- elements with shared pins
pub on_bus_lem : ClaimsAre (record { alone = 0; joint = 0x18; twice = 0 }) (claim shared 0x03 ∷ claim shared 0x04 ∷ [])
unfolding pin_index has_bit
on_bus_lem = record {
  alone_set = empty;
  joint_set = by_test 0x18 (0x03 ∷ 0x04 ∷ []) refl refl;
  among_themselves = refl;
  are_proper = refl;
}

abbrev selects : ℕ → List Claim
selects p = claim shared 0x00 ∷ claim shared 0x01 ∷ claim shared 0x02 ∷ claim select p ∷ []

pub on_select : (p : ℕ) → among p (listed ChipSelect) ≡ true
    → ClaimsAre (record { alone = 0; joint = bit_or 0x07 (pin_bit p); twice = 0 }) (selects p)
unfolding pin_index has_bit
on_select p k = record {
  alone_set = empty;
  joint_set = union (by_test 0x07 (0x00 ∷ 0x01 ∷ 0x02 ∷ []) refl refl) (one_pin p (listed_pin ChipSelect p k));
  among_themselves = sym (at_among (listed ChipSelect) (λ p. free [] (selects p)) refl p k);
  are_proper = rw k refl;
}

abbrev refers : ℕ → List Claim
refers p = claim shared 0x07 ∷ claim alone p ∷ []

pub on_reference : (p : ℕ) → among p (listed AnaloguePin) ≡ true
    → ClaimsAre (record { alone = pin_bit p; joint = 0x80; twice = 0 }) (refers p)
unfolding pin_index has_bit
on_reference p k = record {
  alone_set = one_pin p (listed_pin AnaloguePin p k);
  joint_set = by_test 0x80 (0x07 ∷ []) refl refl;
  among_themselves = sym (at_among (listed AnaloguePin) (λ p. free [] (refers p)) refl p k);
  are_proper = rw (listed_pin AnaloguePin p k) refl;
}

-- 'the fault LED claims P1.0'
pub fault_led_lem : HeldIs (record { alone = 0x100; joint = 0; clash = 65536 }) (made_at 0 (claim alone 0x10 ∷ []))
unfolding pin_index has_bit
fault_led_lem = record {
  alone_set = by_test 0x100 (0x10 ∷ []) refl refl;
  joint_set = empty;
  clash_at = refl;
  are_proper = refl;
  low = refl;
}
