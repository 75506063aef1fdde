-- What stands at a place has the bytes that tell its role, by kind; and the marks that the code reads there.
-- Assumes nothing.
use Prim.Native.Nat.{ℕ, ◌+◌, ◌≤◌, ◌<◌}
use native.Mathlib.Omega.{arith}
use native.Mathlib.Nat.{add-zero}
use mathlib.Core.Path.{◌≡◌, refl, sym, ◌∙◌, ap}
use mathlib.Core.Logic.{◌⊎◌, ⊎_elim}
use mathlib.Core.Bool.{Bool, true, false, ◌&&◌}
use mathlib.Core.List.{List, [], ◌∷◌}
use lib.ListN.{length, get_or, drop, length-drop}
use lib.Seq.{get_or-drop}
use borrow.Author.Tests.{eqb-true, leb-true}
use Rattle.format.specs.Slots.{Starts, byte}
use Rattle.format.specs.Records.{Record, digital, analogue, fan, led, water, pump, voltage, current, controller, tachometer, zone, string}
use Rattle.format.specs.Records.{external, rgb, zone_string}
use Rattle.format.specs.Layout.{layout}
use Rattle.format.specs.Rules.{shaped}
use Rattle.format.specs.Pins.{among}
use Rattle.format.specs.ZonesAndStrings.{Role, placed, zoning, naming, role, zone_named, string_named, all_among}
use Rattle.format.proofs.Slots.{Over, starts_over, starts_length}
use Rattle.flags.specs.Marks.{Marks}
use Rattle.places.specs.Walks.{RoleBytes}

-- the bytes at a place
at_0 : (t : List ℕ) (at : ℕ) → byte (drop at t) 0 ≡ byte t at
at_0 t at = get_or-drop at t 0 0 ∙ rw add-zero

module _ (t : List ℕ) (at : ℕ) where
  placed_bytes :
      {k s z : ℕ}
      → byte (drop at t) 0 ≡ k
      → byte (drop at t) 3 ≡ s
      → byte (drop at t) 7 ≡ z
      → 8 ≤ length (drop at t)
      → (k ≡ 11 → ⊥)
      → (k ≡ 12 → ⊥)
      → (byte t at ≡ 11 → ⊥) × (byte t at ≡ 12 → ⊥) × (at + 8 ≤ length t) × (byte t (at + 3) ≡ s) × (byte t (at + 7) ≡ z)
  placed_bytes a b c l n m = (
    λ e. n (sym a ∙ at_0 t at ∙ e),
    λ e. m (sym a ∙ at_0 t at ∙ e),
    omega (arith, length-drop at t),
    sym (get_or-drop at t 3 0) ∙ b,
    sym (get_or-drop at t 7 0) ∙ c,
  )

  -- an element that is placed in a zone, whatever its kind
  of_placed :
      (r : Record) (rest : List ℕ) {k s z : ℕ}
      → Starts (drop at t) (layout r) rest
      → 8 ≤ length (layout r)
      → (Over (byte (drop at t)) (layout r)
      → (byte (drop at t) 0 ≡ k) × (byte (drop at t) 3 ≡ s) × (byte (drop at t) 7 ≡ z))
      → (k ≡ 11 → ⊥)
      → (k ≡ 12 → ⊥)
      → (byte t at ≡ 11 → ⊥) × (byte t at ≡ 12 → ⊥) × (at + 8 ≤ length t) × (byte t (at + 3) ≡ s) × (byte t (at + 7) ≡ z)
  of_placed r rest h l f n m =
      let o = f (starts_over (drop at t) (layout r) rest h) in
      placed_bytes o.0 o.1 o.2 (omega (arith, starts_length (drop at t) (layout r) rest h)) n m

  zone_bytes :
      (bytes rest : List ℕ) → Starts (drop at t) (layout (zone bytes)) rest → 3 + length bytes ≡ 30 → RoleBytes t at (zoning bytes)
  zone_bytes [] rest h s = absurd (omega arith)
  zone_bytes (x ∷ []) rest h s = absurd (omega arith)
  zone_bytes (x ∷ y ∷ bytes) rest h s =
      let o = starts_over (drop at t) (layout (zone (x ∷ y ∷ bytes))) rest h in (
        sym (at_0 t at) ∙ o.0,
        omega (arith, length-drop at t, starts_length (drop at t) (layout (zone (x ∷ y ∷ bytes))) rest h),
        sym (get_or-drop at t 4 0) ∙ o.1.1.1.1.0,
        sym (get_or-drop at t 3 0) ∙ o.1.1.1.0,
      )

  string_bytes :
      (bytes rest : List ℕ) → Starts (drop at t) (layout (string bytes)) rest → 6 ≤ 3 + length bytes → RoleBytes t at (naming bytes)
  string_bytes [] rest h s = absurd (omega arith)
  string_bytes (x ∷ bytes) rest h s =
      let o = starts_over (drop at t) (layout (string (x ∷ bytes))) rest h in (
        sym (at_0 t at) ∙ o.0,
        omega (arith, length-drop at t, starts_length (drop at t) (layout (string (x ∷ bytes))) rest h),
        sym (get_or-drop at t 3 0) ∙ o.1.1.1.0,
      )

  pub role_bytes :
      (r : Record) (rest : List ℕ) → Starts (drop at t) (layout r) rest → shaped r ≡ true → RoleBytes t at (role r)
  role_bytes (digital d) rest h s =
      of_placed (digital d) rest h (omega arith) (λ o. (o.0, o.1.1.1.0, o.1.1.1.1.1.1.1.0)) (λ e. omega arith)
      (λ e. omega arith)
  role_bytes (analogue a) rest h s =
      of_placed (analogue a) rest h (omega arith) (λ o. (o.0, o.1.1.1.0, o.1.1.1.1.1.1.1.0)) (λ e. omega arith)
      (λ e. omega arith)
  role_bytes (fan f) rest h s =
      of_placed (fan f) rest h (omega arith) (λ o. (o.0, o.1.1.1.0, o.1.1.1.1.1.1.1.0)) (λ e. omega arith) (λ e. omega arith)
  role_bytes (led l) rest h s =
      of_placed (led l) rest h (omega arith) (λ o. (o.0, o.1.1.1.0, o.1.1.1.1.1.1.1.0)) (λ e. omega arith) (λ e. omega arith)
  role_bytes (water w) rest h s =
      of_placed (water w) rest h (omega arith) (λ o. (o.0, o.1.1.1.0, o.1.1.1.1.1.1.1.0)) (λ e. omega arith) (λ e. omega arith)
  role_bytes (pump f) rest h s =
      of_placed (pump f) rest h (omega arith) (λ o. (o.0, o.1.1.1.0, o.1.1.1.1.1.1.1.0)) (λ e. omega arith) (λ e. omega arith)
  role_bytes (voltage v) rest h s =
      of_placed (voltage v) rest h (omega arith) (λ o. (o.0, o.1.1.1.0, o.1.1.1.1.1.1.1.0)) (λ e. omega arith)
      (λ e. omega arith)
  role_bytes (current c) rest h s =
      of_placed (current c) rest h (omega arith) (λ o. (o.0, o.1.1.1.0, o.1.1.1.1.1.1.1.0)) (λ e. omega arith)
      (λ e. omega arith)
  role_bytes (controller d bs) rest h s =
      of_placed (controller d bs) rest h (omega arith) (λ o. (o.0, o.1.1.1.0, o.1.1.1.1.1.1.1.0)) (λ e. omega arith)
      (λ e. omega arith)
  role_bytes (tachometer d a b) rest h s =
      of_placed (tachometer d a b) rest h (omega arith) (λ o. (o.0, o.1.1.1.0, o.1.1.1.1.1.1.1.0)) (λ e. omega arith)
      (λ e. omega arith)
  role_bytes (zone bytes) rest h s = zone_bytes bytes rest h (eqb-true (3 + length bytes) 30 s)
  role_bytes (string bytes) rest h s = string_bytes bytes rest h (leb-true 6 (3 + length bytes) s)
  role_bytes (external x r g b) rest h s =
      of_placed (external x r g b) rest h (omega arith) (λ o. (o.0, o.1.1.1.0, o.1.1.1.1.1.1.1.0)) (λ e. omega arith)
      (λ e. omega arith)
  role_bytes (rgb r) rest h s =
      of_placed (rgb r) rest h (omega arith) (λ o. (o.0, o.1.1.1.0, o.1.1.1.1.1.1.1.0)) (λ e. omega arith) (λ e. omega arith)

  -- what the code may read, and what it reads
  pub role_long : (x : Role) → RoleBytes t at x → at + 3 ≤ length t
  role_long (placed p) h = omega arith
  role_long (zoning bytes) h = omega arith
  role_long (naming bytes) h = omega arith

  pub placed_long : (x : Role) → RoleBytes t at x → (byte t at ≡ 11 → ⊥) → (byte t at ≡ 12 → ⊥) → at + 8 ≤ length t
  placed_long (placed p) h n m = h.2
  placed_long (zoning bytes) h n m = absurd (n h.0)
  placed_long (naming bytes) h n m = absurd (m h.0)

  pub zone_long : (x : Role) → RoleBytes t at x → byte t at ≡ 11 → at + 5 ≤ length t
  zone_long (placed p) h e = absurd (h.0 e)
  zone_long (zoning bytes) h e = h.1
  zone_long (naming bytes) h e = absurd (omega (arith, h.0, e))

and_one : (a : Bool) → a && true ≡ a
and_one true = refl
and_one false = refl

marked : (l : List Bool) (ns : List ℕ) (i n : ℕ) → Marks l ns → i ≡ n → i < 256 → get_or l i false ≡ among n ns && true
marked l ns i n m e h = m.flag i h ∙ ap (λ (x : ℕ). among x ns) e ∙ sym (and_one (among n ns))

module _ (t : List ℕ) (at : ℕ) (l : List Bool) (x : Role) (ns : List ℕ) (h : RoleBytes t at x) (m : Marks l ns) where
  pub zone_none : (byte t at ≡ 11) ⊎ (byte t at ≡ 12) → true ≡ all_among (zone_named x) ns
  zone_none e = go x h e
    where
      go : (x : Role) → RoleBytes t at x → (byte t at ≡ 11) ⊎ (byte t at ≡ 12) → true ≡ all_among (zone_named x) ns
      go (placed p) h e = absurd (⊎_elim h.0 h.1 e)
      go (zoning bytes) h e = refl
      go (naming bytes) h e = refl

  pub zone_read :
      (z : ℕ) → z ≡ byte t (at + 7) → z < 256 → (byte t at ≡ 11 → ⊥) → (byte t at ≡ 12 → ⊥) → get_or l z false ≡ all_among (zone_named x) ns
  zone_read z e s n k = go x h
    where
      go : (x : Role) → RoleBytes t at x → get_or l z false ≡ all_among (zone_named x) ns
      go (placed p) h = marked l ns z p.zone m (e ∙ h.4) s
      go (zoning bytes) h = absurd (n h.0)
      go (naming bytes) h = absurd (k h.0)

  pub string_none : byte t at ≡ 12 → true ≡ all_among (string_named x) ns
  string_none e = go x h
    where
      go : (x : Role) → RoleBytes t at x → true ≡ all_among (string_named x) ns
      go (placed p) h = absurd (h.1 e)
      go (zoning bytes) h = absurd (omega (arith, h.0, e))
      go (naming bytes) h = refl

  pub string_of_zone : (z : ℕ) → z ≡ byte t (at + 4) → z < 256 → byte t at ≡ 11 → get_or l z false ≡ all_among (string_named x) ns
  string_of_zone z e s n = go x h
    where
      go : (x : Role) → RoleBytes t at x → get_or l z false ≡ all_among (string_named x) ns
      go (placed p) h = absurd (h.0 n)
      go (zoning bytes) h = marked l ns z (zone_string bytes) m (e ∙ h.2) s
      go (naming bytes) h = absurd (omega (arith, h.0, n))

  pub string_read :
      (z : ℕ) → z ≡ byte t (at + 3) → z < 256 → (byte t at ≡ 11 → ⊥) → (byte t at ≡ 12 → ⊥) → get_or l z false ≡ all_among (string_named x) ns
  string_read z e s n k = go x h
    where
      go : (x : Role) → RoleBytes t at x → get_or l z false ≡ all_among (string_named x) ns
      go (placed p) h = marked l ns z p.string m (e ∙ h.3) s
      go (zoning bytes) h = absurd (n h.0)
      go (naming bytes) h = absurd (k h.0)
