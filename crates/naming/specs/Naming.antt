-- What elements name is noted, by the elements that are taken from some bytes.
-- Assumes nothing.
use Rattle.std.specs.Prelude.{ℕ, ◌+◌, ◌≤◌, ◌≡◌, List, length, drop}
use Rattle.format.specs.Slots.{byte, Bytes}
use Rattle.format.specs.Records.{Record}
use Rattle.format.specs.Layout.{place_after}
use Rattle.format.specs.ZonesAndStrings.{zone_named, string_named}
use Rattle.format.specs.Verdict.{stated}
use Rattle.format.specs.Decode.{content}
use Rattle.format.specs.declared.settings.Settings.{Settings}
use Rattle.pass.specs.Tracks.{Took}
use Rattle.firsts.specs.Firsts.{noted, Firsts}
use Rattle.naming.specs.declared.Places.{Places}

-- the same arrays are lent
pub record SamePlaces (p l : Places) : Type 0 where
  pub zones : l.zones.ghost_name ≡ p.zones.ghost_name
  pub strings : l.strings.ghost_name ≡ p.strings.ghost_name

pub record Names (id : ℕ) (c : List ℕ) (at : ℕ) (zp sp zp' sp' : List ℕ) : Type 0 where
  pub text : id ≡ 12 → (zp' ≡ zp) × (sp' ≡ sp)
  pub zoning : id ≡ 11 → (zp' ≡ zp) × (sp' ≡ noted sp (byte c 1) at)
  pub placed : (id ≡ 11 → ⊥) → (id ≡ 12 → ⊥) → (zp' ≡ noted zp (byte c 4) at) × (sp' ≡ noted sp (byte c 0) at)

pub record LengthIs (p : List ℕ) (i r : ℕ) : Type 0 where
  pub least : 3 ≤ r
  pub most : r ≤ 65538
  pub told : 3 ≤ stated (drop i p) → r ≡ stated (drop i p)

pub record OneNamed (p : List ℕ) (i base : ℕ) (zp sp : List ℕ) (r : ℕ) (zp' sp' : List ℕ) : Type 0 where
  pub least : 3 ≤ r
  pub most : r ≤ 65538
  pub names :
      3 ≤ stated (drop i p)
      → i + stated (drop i p) ≤ length p
      → (r ≡ stated (drop i p)) × Names (byte p i) (content (drop i p)) (base + i) zp sp zp' sp'

pub record AllNamed (p : List ℕ) (to base : ℕ) (zp sp zp' sp' : List ℕ) : Type 0 where
  pub all :
      (σ : Settings) (before gone : List Record)
      → Bytes p
      → to ≤ length p
      → base ≡ place_after before
      → Took σ before base p gone (base + to) (drop to p)
      → Firsts zone_named zp before
      → Firsts string_named sp before
      → Firsts zone_named zp' gone × Firsts string_named sp' gone
