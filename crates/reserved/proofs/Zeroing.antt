-- Bytes that start with an element are, with its reserved places at zero, what is written of its record: by its kind.
-- Assumes nothing.
use Prim.Native.Nat.{ℕ, suc, ◌+◌, ◌/◌, ◌%◌, ◌≤◌}
use native.Mathlib.Omega.{arith}
use mathlib.Core.Path.{◌≡◌, refl, sym, ◌∙◌, ap}
use mathlib.Core.Bool.{Bool, true, false, ◌&&◌, cond, false≢true}
use mathlib.Core.List.{List, [], ◌∷◌, ◌++◌, map}
use lib.ListN.{length, drop, set, take-append-drop}
use lib.Seq.{get_or-append-add}
use lib.Dec.{eqb}
use borrow.Author.Tests.{not-true, eq-eqb, ne_eqb}
use Rattle.format.specs.Slots.{Slot, whole, low, high, halves, flag, reserved, byte, byte_of, written, Holds, Starts}
use Rattle.format.specs.Records.{Record, digital, analogue, fan, led, water, pump, voltage, current, controller, tachometer, zone, string}
use Rattle.format.specs.Records.{external, rgb, element_of}
use Rattle.format.specs.Layout.{address, device, part, id_of, body, layout}
use Rattle.format.specs.Rules.{of_its_bus, chosen, of_its_device, of_its_kind}
use Rattle.format.specs.declared.pins.Chip.{Chip}
use Rattle.format.specs.declared.records.Placement.{Placement}
use Rattle.format.specs.declared.records.Address.{Address}
use Rattle.format.specs.declared.records.Address.TheVariants.{Bus, Select}
use Rattle.format.proofs.Slots.{starts_rest}
use Rattle.format.proofs.Kept.{and-true}
use Rattle.format.proofs.Whole.{part_written}
use Rattle.reserved.specs.Zeroed.{on_bus, address_byte, bus_zeroed, zeroed, reach}

-- behind other bytes
pub set_behind : (xs ys : List ℕ) (k v : ℕ) → set (xs ++ ys) (length xs + k) v ≡ xs ++ set ys k v
set_behind [] ys k v = let e : 0 + k ≡ k = omega arith in rw e refl
set_behind (x ∷ xs) ys k v =
    let e : suc (length xs) + k ≡ suc (length xs + k) = omega arith in
    rw e (ap (λ (l : List ℕ). x ∷ l) (set_behind xs ys k v))

bus_behind : (xs ys : List ℕ) → bus_zeroed (length xs) (xs ++ ys) ≡ xs ++ bus_zeroed 0 ys
bus_behind xs ys = simp (set_behind, get_or-append-add)

choose_behind : (xs : List ℕ) (b : Bool) (r s : List ℕ) {p q : List ℕ} → p ≡ xs ++ r → q ≡ xs ++ s → cond b p q ≡ xs ++ cond b r s
choose_behind xs true r s e f = e
choose_behind xs false r s e f = f

pub zeroed_behind : (id : ℕ) (xs ys : List ℕ) → zeroed id (length xs) (xs ++ ys) ≡ xs ++ zeroed id 0 ys
zeroed_behind id xs ys =
    choose_behind xs (on_bus id) _ _ (bus_behind xs ys)
    (choose_behind xs (eqb id 2) _ _ low_behind
    (choose_behind xs (eqb id 8) _ _ (set_behind xs ys 9 0)
    (choose_behind xs (eqb id 10) _ ys
    (ap (λ (l : List ℕ). set l (length xs + 11) 0) (bus_behind xs ys) ∙ set_behind xs (bus_zeroed 0 ys) 11 0) refl)))
  where
    low_behind : set (xs ++ ys) (length xs + 8) (byte (xs ++ ys) (length xs + 8) % 16) ≡ xs ++ set ys 8 (byte ys 8 % 16)
    low_behind = simp (set_behind, get_or-append-add)

-- by the tests of the code, one after another
module _ (id at : ℕ) (b : List ℕ) where
  pub on_bus_lem : on_bus id ≡ true → (reach id ≡ 11) × (zeroed id at b ≡ bus_zeroed at b)
  on_bus_lem e = rw e (refl, refl)

  module _ (e : on_bus id ≡ false) where
    pub on_2 : id ≡ 2 → (reach id ≡ 9) × (zeroed id at b ≡ set b (at + 8) (byte b (at + 8) % 16))
    on_2 f = rw (e, eq-eqb id 2 f) (refl, refl)

    module _ (f : id ≡ 2 → ⊥) where
      pub on_8 : id ≡ 8 → (reach id ≡ 10) × (zeroed id at b ≡ set b (at + 9) 0)
      on_8 g = rw (e, ne_eqb id 2 f, eq-eqb id 8 g) (refl, refl)

      module _ (g : id ≡ 8 → ⊥) where
        pub on_10 : id ≡ 10 → (reach id ≡ 12) × (zeroed id at b ≡ set (bus_zeroed at b) (at + 11) 0)
        on_10 h = rw (e, ne_eqb id 2 f, ne_eqb id 8 g, eq-eqb id 10 h) (refl, refl)

        pub on_none : (id ≡ 10 → ⊥) → zeroed id at b ≡ b
        on_none h = rw (e, ne_eqb id 2 f, ne_eqb id 8 g, ne_eqb id 10 h) refl

-- slots without a reserved place
abbrev plain : Slot → Bool
plain (whole v) = true
plain (low v) = false
plain (high v) = false
plain (halves t v) = true
plain (flag t v) = true
plain reserved = false

abbrev all_plain : List Slot → Bool
all_plain [] = true
all_plain (s ∷ ss) = plain s && all_plain ss

plain_byte : (b : ℕ) (s : Slot) → plain s ≡ true → Holds b s → b ≡ byte_of s
plain_byte b (whole v) p h = h
plain_byte b (low v) p h = absurd (false≢true p)
plain_byte b (high v) p h = absurd (false≢true p)
plain_byte b (halves t v) p h = omega (arith, h.0, h.1)
plain_byte b (flag t v) p h = omega (arith, h.0, h.1)
plain_byte b reserved p h = absurd (false≢true p)

as_it_stands : (bs : List ℕ) (ss : List Slot) (rest : List ℕ) → all_plain ss ≡ true → Starts bs ss rest → bs ≡ written ss ++ rest
as_it_stands bs [] rest p h = h
as_it_stands [] (s ∷ ss) rest p h = absurd h
as_it_stands (b ∷ bs) (s ∷ ss) rest p h =
    let q = and-true (plain s) (all_plain ss) p in
    λ i. plain_byte b s q.0 h.0 i ∷ as_it_stands bs ss rest q.1 h.1 i

part_stands : (x : Record) (bs rest : List ℕ) → Starts bs (part x) rest → bs ≡ written (part x) ++ rest
part_stands x bs rest h =
    rw (part_written x bs rest h, starts_rest bs (part x) rest h) (sym (take-append-drop (length (part x)) bs))

-- whole bytes first
wholes :
    (vs bs : List ℕ) (more : List Slot) (rest : List ℕ)
    → Starts bs (map whole vs ++ more) rest
    → (l : List ℕ) × (bs ≡ vs ++ l) × Starts l more rest
wholes [] bs more rest h = (bs, refl, h)
wholes (v ∷ vs) [] more rest h = absurd h
wholes (v ∷ vs) (b ∷ bs) more rest h =
    let w = wholes vs bs more rest h.1 in
    (w.0, λ i. h.0 i ∷ w.1 i, w.2)

-- a device on a bus
address_there : (bus : ℕ) (a : Address) (b : ℕ) → of_its_bus bus a ≡ true → Holds b (address a) → address_byte bus b ≡ byte_of (address a)
address_there bus (Bus n) b k h = rw (not-true (eqb bus 3) k, h) refl
address_there bus (Select p) b k h = rw (k, h) refl

-- bytes 0 to 7 of an element of so many bytes that stands in a zone
abbrev front : ℕ → ℕ → Placement → List ℕ → List ℕ
front id n p l = id ∷ n % 256 ∷ n / 256 ∷ p.string ∷ p.x.0 ∷ p.y.0 ∷ p.z.0 ∷ p.zone ∷ l

module _ (id n : ℕ) (p : Placement) (more : List Slot) (bs rest : List ℕ) where
  bus_there :
      (bus : ℕ) (a : Address)
      → of_its_bus bus a ≡ true
      → Starts bs (map whole (front id n p []) ++ (device bus a ++ more)) rest
      → (l : List ℕ) × (bus_zeroed 0 bs ≡ front id n p (bus ∷ byte_of (address a) ∷ 0 ∷ l)) × Starts l more rest
  bus_there bus a k h =
      let w = wholes (front id n p []) bs (device bus a ++ more) rest h in
      go w.0 w.1 w.2
    where
      go :
          (l : List ℕ)
          → bs ≡ front id n p l
          → Starts l (device bus a ++ more) rest
          → (m : List ℕ) × (bus_zeroed 0 bs ≡ front id n p (bus ∷ byte_of (address a) ∷ 0 ∷ m)) × Starts m more rest
      go [] e s = absurd s
      go (x ∷ []) e s = absurd s.1
      go (x ∷ y ∷ []) e s = absurd s.1.1
      go (x ∷ y ∷ z ∷ m) e s = (m, rw (e, s.0, address_there bus a y k s.1.0) refl, s.1.1.1)

  -- 02h
  low_there :
      (v : ℕ)
      → Starts bs (map whole (front id n p []) ++ (low v ∷ more)) rest
      → (l : List ℕ) × (set bs 8 (byte bs 8 % 16) ≡ front id n p (v ∷ l)) × Starts l more rest
  low_there v h =
      let w = wholes (front id n p []) bs (low v ∷ more) rest h in
      go w.0 w.1 w.2
    where
      go :
          (l : List ℕ)
          → bs ≡ front id n p l
          → Starts l (low v ∷ more) rest
          → (m : List ℕ) × (set bs 8 (byte bs 8 % 16) ≡ front id n p (v ∷ m)) × Starts m more rest
      go [] e s = absurd s
      go (x ∷ m) e s = (m, rw (e, s.0) refl, s.1)

  -- 08h
  reserved_there :
      (v : ℕ)
      → Starts bs (map whole (front id n p (v ∷ [])) ++ (reserved ∷ more)) rest
      → (l : List ℕ) × (set bs 9 0 ≡ front id n p (v ∷ 0 ∷ l)) × Starts l more rest
  reserved_there v h =
      let w = wholes (front id n p (v ∷ [])) bs (reserved ∷ more) rest h in
      go w.0 w.1 w.2
    where
      go :
          (l : List ℕ)
          → bs ≡ front id n p (v ∷ l)
          → Starts l (reserved ∷ more) rest
          → (m : List ℕ) × (set bs 9 0 ≡ front id n p (v ∷ 0 ∷ m)) × Starts m more rest
      go [] e s = absurd s
      go (x ∷ m) e s = (m, rw e refl, s.1)

-- each kind
module _ (c : Chip) (bs rest : List ℕ) where
  on_its_bus : (bus : ℕ) (a : Address) → of_its_device c bus a ≡ true → of_its_bus bus a ≡ true
  on_its_bus bus a k = (and-true (of_its_bus bus a) (chosen c a) k).0

  pub zeroed_there :
      (r : Record) → of_its_kind c r ≡ true → Starts bs (layout r) rest → zeroed (id_of (element_of r)) 0 bs ≡ written (layout r) ++ rest
  zeroed_there (digital d) k h =
      let more = drop 11 (layout (digital d)) in
      let w = bus_there 1 21 d.placement more bs rest d.bus d.address (on_its_bus d.bus d.address k) h in
      w.1 ∙ rw (as_it_stands w.0 more rest refl w.2) refl
  zeroed_there (analogue a) k h =
      let more = drop 9 (layout (analogue a)) in
      let w = low_there 2 20 a.placement more bs rest a.thermal h in
      w.1 ∙ rw (as_it_stands w.0 more rest refl w.2) refl
  zeroed_there (fan f) k h = as_it_stands bs (layout (fan f)) rest refl h
  zeroed_there (led l) k h = as_it_stands bs (layout (led l)) rest refl h
  zeroed_there (water w) k h = as_it_stands bs (layout (water w)) rest refl h
  zeroed_there (pump f) k h = as_it_stands bs (layout (pump f)) rest refl h
  zeroed_there (voltage v) k h = as_it_stands bs (layout (voltage v)) rest refl h
  zeroed_there (current a) k h =
      let more = drop 10 (layout (current a)) in
      let w = reserved_there 8 14 a.placement more bs rest a.pin.0 h in
      w.1 ∙ rw (as_it_stands w.0 more rest refl w.2) refl
  zeroed_there (controller d l) k h =
      let x = controller d l in
      let w =
      bus_there 9 (3 + length (body x)) d.placement (part x) bs rest d.bus d.address (on_its_bus d.bus d.address k) h in
      w.1 ∙ rw (part_stands x w.0 rest w.2) refl
  zeroed_there (tachometer d a b) k h =
      let w =
      bus_there 10 (3 + length (body (tachometer d a b))) d.placement (reserved ∷ part (tachometer d a b)) bs rest d.bus d.address
      (on_its_bus d.bus d.address k) h in
      ap (λ (l : List ℕ). set l 11 0) w.1 ∙ go w.0 w.2
    where
      go :
          (l : List ℕ)
          → Starts l (reserved ∷ part (tachometer d a b)) rest
          → set (front 10 (3 + length (body (tachometer d a b))) d.placement (d.bus ∷ byte_of (address d.address) ∷ 0 ∷ l)) 11 0
          ≡ written (layout (tachometer d a b)) ++ rest
      go [] s = absurd s
      go (x ∷ m) s = rw (part_stands (tachometer d a b) m rest s.1) refl
  zeroed_there (zone bytes) k h =
      let n = 3 + length (body (zone bytes)) in
      let w = wholes (11 ∷ n % 256 ∷ n / 256 ∷ []) bs (part (zone bytes)) rest h in
      w.1 ∙ rw (part_stands (zone bytes) w.0 rest w.2) refl
  zeroed_there (string bytes) k h =
      let n = 3 + length (body (string bytes)) in
      let w = wholes (12 ∷ n % 256 ∷ n / 256 ∷ []) bs (part (string bytes)) rest h in
      w.1 ∙ rw (part_stands (string bytes) w.0 rest w.2) refl
  zeroed_there (external x r g b) k h =
      let d = x.device in
      let w =
      bus_there 13 (3 + length (body (external x r g b))) d.placement (whole x.identifier ∷ part (external x r g b)) bs rest d.bus
      d.address (on_its_bus d.bus d.address k) h in
      w.1 ∙ go w.0 w.2
    where
      go :
          (l : List ℕ)
          → Starts l (whole x.identifier ∷ part (external x r g b)) rest
          → front 13 (3 + length (body (external x r g b))) x.device.placement
          (x.device.bus ∷ byte_of (address x.device.address) ∷ 0 ∷ l)
          ≡ written (layout (external x r g b)) ++ rest
      go [] s = absurd s
      go (y ∷ m) s = rw (s.0, part_stands (external x r g b) m rest s.1) refl
  zeroed_there (rgb r) k h = as_it_stands bs (layout (rgb r)) rest refl h

-- how far an element reaches
pub reach_within : (r : Record) → reach (id_of (element_of r)) ≤ length (layout r)
reach_within (digital d) = omega arith
reach_within (analogue a) = omega arith
reach_within (fan f) = omega arith
reach_within (led l) = omega arith
reach_within (water w) = omega arith
reach_within (pump f) = omega arith
reach_within (voltage v) = omega arith
reach_within (current a) = omega arith
reach_within (controller d l) = omega arith
reach_within (tachometer d a b) = omega arith
reach_within (zone bytes) = omega arith
reach_within (string bytes) = omega arith
reach_within (external x r g b) = omega arith
reach_within (rgb r) = omega arith
