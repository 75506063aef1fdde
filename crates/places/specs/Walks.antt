-- What a walk over the elements of a table finds at each place.
-- Assumes nothing.
use Rattle.std.specs.Prelude.{ℕ, ◌+◌, ◌≤◌, ◌≡◌, Bool, true, false, List, ◌∷◌, length}
use Rattle.std.proofs.Math.Option.{Option, none, some}
use Rattle.format.specs.Slots.{byte, Bytes}
use Rattle.format.specs.Records.{Record, zone_number, zone_string, string_number}
use Rattle.format.specs.ZonesAndStrings.{Role, placed, zoning, naming, zone_named, string_named, zones, strings}
use Rattle.format.specs.Reader.{elements_of, through}
use Rattle.format.specs.declared.settings.Settings.{Settings}

-- the bytes of an element at a place that tell what it is to the others
abbrev pub RoleBytes : List ℕ → ℕ → Role → Type 0
RoleBytes t at (placed p) =
    (byte t at ≡ 11 → ⊥)
    × (byte t at ≡ 12 → ⊥)
    × (at + 8 ≤ length t)
    × (byte t (at + 3) ≡ p.string)
    × (byte t (at + 7) ≡ p.zone)
RoleBytes t at (zoning bytes) =
    (byte t at ≡ 11) × (at + 5 ≤ length t) × (byte t (at + 4) ≡ zone_string bytes) × (byte t (at + 3) ≡ zone_number bytes)
RoleBytes t at (naming bytes) = (byte t at ≡ 12) × (at + 4 ≤ length t) × (byte t (at + 3) ≡ string_number bytes)

-- a table whose elements the pass came through, under settings σ
pub record Walkable (σ : Settings) (t : List ℕ) : Type 0 where
  pub bytes : Bytes t
  pub long : 16 ≤ length t
  pub top : length t ≤ 4096
  pub rs : List Record
  pub whole : elements_of σ t ≡ through rs

-- what an element names, and what it may name: of zones, or of strings, where 0 is no string
abbrev pub names_of : Bool → Role → List ℕ
names_of true x = zone_named x
names_of false x = string_named x

abbrev pub nameable : Bool → List Record → List ℕ
nameable true rs = zones rs
nameable false rs = 0 ∷ strings rs

abbrev pub or_zero : Option ℕ → ℕ
or_zero none = 0
or_zero (some p) = p
