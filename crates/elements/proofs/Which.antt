-- What is decoded under each identifier, turned round: from the record to the bytes that it was read from.
-- Assumes nothing.
use Prim.Native.Nat.{ℕ, ◌≤◌}
use native.Mathlib.Omega.{arith}
use mathlib.Core.Path.{◌≡◌, refl, ◌∙◌, ap}
use mathlib.Core.Bool.{Bool, true, false}
use mathlib.Core.List.{List}
use mathlib.Core.Option.{Option, none, some}
use lib.ListN.{length, drop}
use lib.Dec.{eqb, leb}
use borrow.Author.Tests.{eqb-true, leb-true, ne_eqb}
use Rattle.format.specs.Slots.{byte}
use Rattle.format.specs.Records.{Record, controller, tachometer, zone, string, external, element_of}
use Rattle.format.specs.Decode.{read_digital, read_analogue, read_fan, read_led, read_water, read_voltage, read_current, read_device}
use Rattle.format.specs.Decode.{read_external, read_rgb, guard, bind, pick, cut_blocks, cut_two, cut_three, decode}
use Rattle.format.specs.declared.pins.Chip.{Chip}
use Rattle.format.specs.declared.records.Element.{Element}
use Rattle.format.specs.declared.records.Element.TheVariants.{Digital, Analogue, Fan, Led, Water, Pump, Voltage, Current, Controller}
use Rattle.format.specs.declared.records.Element.TheVariants.{Tachometer, Zone, Text, External, Rgb}

guard_some : {A : Type 0} (t : Bool) (o : Option A) (x : A) → guard t o ≡ some x → (t ≡ true) × (o ≡ some x)
guard_some true o x h = (refl, h)
guard_some false o x h = let z : ◌≡◌ {A = ℕ} 0 1 = cc in absurd (omega arith)

bind_element :
    {A : Type 0} (o : Option A) (f : A → Record) (e : Element) (x : Record)
    → ((a : A) → e ≡ element_of (f a))
    → bind o (λ a. some (f a)) ≡ some x
    → e ≡ element_of x
bind_element none f e x g h = let z : ◌≡◌ {A = ℕ} 0 1 = cc in absurd (omega arith)
bind_element (some a) f e x g h = let z : f a ≡ x = cc in g a ∙ ap element_of z

-- the kinds whose fields are read: the identifier, how many bytes are read, and the element that they are
pub data Kind (chip : Chip) (b : ℕ → ℕ) : ℕ → ℕ → Element → Type 0 where
  is_digital : Kind chip b 1 18 (Digital (read_digital chip b))
  is_analogue : Kind chip b 2 17 (Analogue (read_analogue chip b))
  is_fan : Kind chip b 3 13 (Fan (read_fan chip b))
  is_led : Kind chip b 4 11 (Led (read_led chip b))
  is_water : Kind chip b 5 12 (Water (read_water chip b))
  is_pump : Kind chip b 6 13 (Pump (read_fan chip b))
  is_voltage : Kind chip b 7 8 (Voltage (read_voltage chip b))
  is_current : Kind chip b 8 11 (Current (read_current chip b))
  is_controller : Kind chip b 9 8 (Controller (read_device chip b))
  is_tachometer : Kind chip b 10 8 (Tachometer (read_device chip b))
  is_external : Kind chip b 13 9 (External (read_external chip b))
  is_rgb : Kind chip b 14 8 (Rgb (read_rgb chip b))

module _ (chip : Chip) (c : List ℕ) (x : Record) where
  -- a kind of one length
  even : (n : ℕ) (y : Record) → guard (eqb (length c) n) (some y) ≡ some x → (n ≤ length c) × (element_of y ≡ element_of x)
  even n y h =
      let p = guard_some (eqb (length c) n) (some y) x h in
      let q = p.1 in
      let z : y ≡ x = cc in
      (omega (arith, eqb-true (length c) n p.0), ap element_of z)

  -- a kind with a part
  parted :
      {A : Type 0} (n m : ℕ) (o : Option A) (f : A → Record) (e : Element)
      → m ≤ n
      → ((a : A) → e ≡ element_of (f a))
      → guard (leb n (length c)) (bind o (λ a. some (f a))) ≡ some x
      → (m ≤ length c) × (e ≡ element_of x)
  parted n m o f e l g h =
      let p = guard_some (leb n (length c)) (bind o (λ a. some (f a))) x h in
      (omega (arith, leb-true n (length c) p.0), bind_element o f e x g p.1)

  of_kind_lem : {id n : ℕ} {e : Element} → Kind chip (byte c) id n e → decode chip id c ≡ some x → (n ≤ length c) × (e ≡ element_of x)
  unfolding decode
  of_kind_lem is_digital h = even _ _ h
  of_kind_lem is_analogue h = even _ _ h
  of_kind_lem is_fan h = even _ _ h
  of_kind_lem is_led h = even _ _ h
  of_kind_lem is_water h = even _ _ h
  of_kind_lem is_pump h = even _ _ h
  of_kind_lem is_voltage h = even _ _ h
  of_kind_lem is_current h = even _ _ h
  of_kind_lem is_controller h = parted 8 8 (cut_blocks (length c) (drop 8 c)) (λ l. controller _ l) _ (omega arith) (λ l. refl) h
  of_kind_lem is_tachometer h = parted 9 8 (cut_two (drop 9 c)) (λ t. tachometer _ t.0 t.1) _ (omega arith) (λ t. refl) h
  of_kind_lem is_external h = parted 9 9 (cut_three (drop 9 c)) (λ t. external _ t.0 t.1 t.2) _ (omega arith) (λ t. refl) h
  of_kind_lem is_rgb h = even _ _ h

  pub is_text : decode chip 12 c ≡ some x → Text ≡ element_of x
  unfolding decode
  is_text h = let z : string c ≡ x = cc in ap element_of z

  -- any other identifier is a zone descriptor's
  pub is_zone :
      (id : ℕ)
      → (id ≡ 1 → ⊥)
      → (id ≡ 2 → ⊥)
      → (id ≡ 3 → ⊥)
      → (id ≡ 4 → ⊥)
      → (id ≡ 5 → ⊥)
      → (id ≡ 6 → ⊥)
      → (id ≡ 7 → ⊥)
      → (id ≡ 8 → ⊥)
      → (id ≡ 9 → ⊥)
      → (id ≡ 10 → ⊥)
      → (id ≡ 12 → ⊥)
      → (id ≡ 13 → ⊥)
      → (id ≡ 14 → ⊥)
      → decode chip id c ≡ some x
      → Zone ≡ element_of x
  unfolding decode
  is_zone id a b d e f g i j k l m n o h =
      go (eqb id 11)
      (rw (
        ne_eqb id 1 a,
        ne_eqb id 2 b,
        ne_eqb id 3 d,
        ne_eqb id 4 e,
        ne_eqb id 5 f,
        ne_eqb id 6 g,
        ne_eqb id 7 i,
        ne_eqb id 8 j,
        ne_eqb id 9 k,
        ne_eqb id 10 l,
        ne_eqb id 12 m,
        ne_eqb id 13 n,
        ne_eqb id 14 o,
      ) at h)
    where
      go : (t : Bool) → pick t (some (zone c)) none ≡ some x → Zone ≡ element_of x
      go true q = let z : zone c ≡ x = cc in ap element_of z
      go false q = let z : ◌≡◌ {A = ℕ} 0 1 = cc in absurd (omega arith)

-- the arm of a kind: there are as many bytes as are read, and what they are is the element
module _ (chip : Chip) (c : List ℕ) {id k n : ℕ} {e : Element} (kind : Kind chip (byte c) k n e) (same : id ≡ k) where
  pub long_enough : (x : Record) × (decode chip id c ≡ some x) → n ≤ length c
  long_enough p = (of_kind_lem chip c p.0 kind (rw same at p.1)).0

  pub reads : {r : Element} → r ≡ e → (x : Record) → decode chip id c ≡ some x → r ≡ element_of x
  reads f x h = f ∙ (of_kind_lem chip c x kind (rw same at h)).1
