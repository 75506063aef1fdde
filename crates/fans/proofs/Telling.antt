-- Which elements are fans and pumps, by identifier, and where the zone of these stands in their bytes: one case a kind.
-- Assumes nothing.
use Prim.Native.Nat.{ℕ, ◌<◌}
use native.Mathlib.Omega.{arith}
use mathlib.Core.Path.{◌≡◌, refl, sym, ◌∙◌, ap}
use mathlib.Core.Bool.{Bool, true, false, ◌||◌, false≢true}
use mathlib.Core.List.{List, []}
use mathlib.Core.Logic.{◌⊎◌, inl, inr}
use lib.ListN.{length}
use lib.Dec.{eqb}
use Rattle.format.specs.Slots.{Fits, byte}
use Rattle.format.specs.Records.{Record, digital, analogue, fan, led, water, pump, voltage, current, controller, tachometer, zone, string}
use Rattle.format.specs.Records.{external, rgb, element_of}
use Rattle.format.specs.Layout.{id_of, layout}
use Rattle.format.specs.ZonesAndStrings.{placed, role}
use Rattle.format.specs.declared.records.Placement.{Placement}
use Rattle.format.proofs.Slots.{starts_over, starts_length}
use Rattle.fans.specs.InZone.{motor_in}

-- the identifiers of a fan and of a pump
abbrev motor_id : ℕ → Bool
motor_id id = eqb id 3 || eqb id 6

-- a fan or a pump: it is placed in a zone, which is its byte 7
pub record Motor (x : Record) : Type 0 where
  pub id : motor_id (id_of (element_of x)) ≡ true
  pub placement : Placement
  pub role_is : role x ≡ placed placement
  pub zone_tells : (z : ℕ) → motor_in z x ≡ eqb placement.zone z
  pub byte_7 : (e : List ℕ) → Fits e (layout x) → (7 < length e) × (byte e 7 ≡ placement.zone)

-- any other element
pub record Other (x : Record) : Type 0 where
  pub id : motor_id (id_of (element_of x)) ≡ false
  pub never : (z : ℕ) → motor_in z x ≡ false

pub either : (x : Record) → Motor x ⊎ Other x
either (digital d) = inr (record { id = refl; never = λ z. refl })
either (analogue a) = inr (record { id = refl; never = λ z. refl })
either (fan f) =
    inl
    (record {
      id = refl;
      placement = f.placement;
      role_is = refl;
      zone_tells = λ z. refl;
      byte_7 = λ e h. (omega (arith, starts_length e (layout (fan f)) [] h), (starts_over e (layout (fan f)) [] h).1.1.1.1.1.1.1.0);
    })
either (led l) = inr (record { id = refl; never = λ z. refl })
either (water w) = inr (record { id = refl; never = λ z. refl })
either (pump f) =
    inl
    (record {
      id = refl;
      placement = f.placement;
      role_is = refl;
      zone_tells = λ z. refl;
      byte_7 = λ e h. (omega (arith, starts_length e (layout (pump f)) [] h), (starts_over e (layout (pump f)) [] h).1.1.1.1.1.1.1.0);
    })
either (voltage v) = inr (record { id = refl; never = λ z. refl })
either (current c) = inr (record { id = refl; never = λ z. refl })
either (controller d bs) = inr (record { id = refl; never = λ z. refl })
either (tachometer d a b) = inr (record { id = refl; never = λ z. refl })
either (zone bytes) = inr (record { id = refl; never = λ z. refl })
either (string bytes) = inr (record { id = refl; never = λ z. refl })
either (external x r g b) = inr (record { id = refl; never = λ z. refl })
either (rgb r) = inr (record { id = refl; never = λ z. refl })

-- what the code reads of one element
module _ (e : List ℕ) (x : Record) (h : Fits e (layout x)) where
  pub has_id : 0 < length e
  has_id = omega (arith, starts_length e (layout x) [] h)

  by_id : {t : Bool} → motor_id (byte e 0) ≡ t → motor_id (id_of (element_of x)) ≡ t
  by_id t = ap motor_id (sym (starts_over e (layout x) [] h).0) ∙ t

  pub told : motor_id (byte e 0) ≡ true → (7 < length e) × ((z : ℕ) → eqb (byte e 7) z ≡ motor_in z x)
  told t = go (either x)
    where
      go : Motor x ⊎ Other x → (7 < length e) × ((z : ℕ) → eqb (byte e 7) z ≡ motor_in z x)
      go (inl m) = ((m.byte_7 e h).0, λ z. ap (λ (n : ℕ). eqb n z) (m.byte_7 e h).1 ∙ sym (m.zone_tells z))
      go (inr o) = absurd (false≢true (sym o.id ∙ by_id t))

  pub none_told : motor_id (byte e 0) ≡ false → (z : ℕ) → false ≡ motor_in z x
  none_told t = go (either x)
    where
      go : Motor x ⊎ Other x → (z : ℕ) → false ≡ motor_in z x
      go (inl m) = absurd (false≢true (sym (by_id t) ∙ m.id))
      go (inr o) = λ z. sym (o.never z)
