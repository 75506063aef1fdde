-- What the bytes at a place tell of the numbers that an element names, and of whether it is named: each law goes by what the element is to
-- the others.
-- Assumes nothing.
use Prim.Native.Nat.{ℕ, ◌+◌, ◌≤◌}
use native.Mathlib.Omega.{arith}
use mathlib.Core.Path.{◌≡◌, refl, ◌∙◌, ap}
use mathlib.Core.Bool.{Bool, true, false, ◌&&◌, ◌||◌, not}
use mathlib.Core.List.{List}
use lib.ListN.{length}
use lib.Dec.{eqb}
use Rattle.format.specs.Slots.{byte}
use Rattle.format.specs.Records.{Record}
use Rattle.format.specs.Pins.{among}
use Rattle.format.specs.ZonesAndStrings.{Role, placed, zoning, naming, gathered}
use Rattle.format.specs.Verdict.{Accepts}
use Rattle.format.specs.declared.settings.Settings.{Settings}
use Rattle.format.specs.declared.records.Description.{Description}
use Rattle.walking.proofs.Left.{reads}
use Rattle.places.specs.Walks.{RoleBytes, names_of}
use Rattle.removal.specs.Taking.{named_as}

or_none : (t : Bool) → t ≡ t || false
or_none true = refl
or_none false = refl

module _ (t : List ℕ) (at : ℕ) where
  pub number_long : (x : Role) → RoleBytes t at x → at + 4 ≤ length t
  number_long (placed p) h = omega arith
  number_long (zoning bytes) h = omega arith
  number_long (naming bytes) h = h.1

  -- a string names nothing, and a zone descriptor a string alone
  pub string_names : (zone : Bool) (n : ℕ) (x : Role) → RoleBytes t at x → byte t at ≡ 12 → false ≡ among n (names_of zone x)
  string_names zone n (placed p) h e = absurd (h.1 e)
  string_names zone n (zoning bytes) h e = absurd (omega (arith, h.0, e))
  string_names true n (naming bytes) h e = refl
  string_names false n (naming bytes) h e = refl

  pub zone_names :
      (zone : Bool) (n : ℕ) (x : Role)
      → RoleBytes t at x
      → byte t at ≡ 11
      → not zone && eqb n (byte t (at + 4)) ≡ among n (names_of zone x)
  zone_names zone n (placed p) h e = absurd (h.0 e)
  zone_names true n (zoning bytes) h e = refl
  zone_names false n (zoning bytes) h e = ap (λ (m : ℕ). eqb n m) h.2 ∙ or_none _
  zone_names zone n (naming bytes) h e = absurd (omega (arith, h.0, e))

  -- any other element names the zone at its byte 7 and the string at its byte 3
  module _ (n : ℕ) (x : Role) (h : RoleBytes t at x) (m : byte t at ≡ 11 → ⊥) (k : byte t at ≡ 12 → ⊥) where
    pub placed_zone : {zone : Bool} → zone ≡ true → eqb n (byte t (at + 7)) ≡ among n (names_of zone x)
    placed_zone e = rw e (go x h)
      where
        go : (x : Role) → RoleBytes t at x → eqb n (byte t (at + 7)) ≡ among n (names_of true x)
        go (placed p) h = ap (λ (i : ℕ). eqb n i) h.4 ∙ or_none _
        go (zoning bytes) h = absurd (m h.0)
        go (naming bytes) h = absurd (k h.0)

    pub placed_string : {zone : Bool} → zone ≡ false → eqb n (byte t (at + 3)) ≡ among n (names_of zone x)
    placed_string e = rw e (go x h)
      where
        go : (x : Role) → RoleBytes t at x → eqb n (byte t (at + 3)) ≡ among n (names_of false x)
        go (placed p) h = ap (λ (i : ℕ). eqb n i) h.3 ∙ or_none _
        go (zoning bytes) h = absurd (m h.0)
        go (naming bytes) h = absurd (k h.0)

  -- whether something names the element
  module _ (σ : Settings) (d : Description) (rs : List Record) (a : Accepts σ t d rs) where
    pub zone_named_lem :
        (x : Role) {r : Bool}
        → RoleBytes t at x
        → byte t at ≡ 11
        → r ≡ among (byte t (at + 3)) (gathered (names_of true) rs)
        → r ≡ named_as d rs x
    zone_named_lem (placed p) h e w = absurd (h.0 e)
    zone_named_lem (zoning bytes) h e w = w ∙ ap (λ (n : ℕ). among n (gathered (names_of true) rs)) h.3
    zone_named_lem (naming bytes) h e w = absurd (omega (arith, h.0, e))

    pub string_named_lem :
        (x : Role) {r : Bool}
        → RoleBytes t at x
        → byte t at ≡ 12
        → r ≡ among (byte t (at + 3)) (gathered (names_of false) rs)
        → eqb (byte t (at + 3)) (byte t 4) || r ≡ named_as d rs x
    string_named_lem (placed p) h e w = absurd (h.1 e)
    string_named_lem (zoning bytes) h e w = absurd (omega (arith, h.0, e))
    string_named_lem (naming bytes) h e w =
        let s : d.string ≡ byte t 4 = ap (λ (x : Description). x.string) (reads σ t d rs a).1 in
        rw (w, ← s, h.2)

    pub none_named : (x : Role) → RoleBytes t at x → (byte t at ≡ 11 → ⊥) → (byte t at ≡ 12 → ⊥) → false ≡ named_as d rs x
    none_named (placed p) h m k = refl
    none_named (zoning bytes) h m k = absurd (m h.0)
    none_named (naming bytes) h m k = absurd (k h.0)
