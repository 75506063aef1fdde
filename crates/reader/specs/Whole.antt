-- What the pass has gathered when it came through, for the rules over the whole table.
-- Assumes nothing.
use Rattle.std.specs.Prelude.{ℕ, ◌≡◌, Bool, List, ◌∷◌, length}
use Rattle.format.specs.Slots.{byte}
use Rattle.format.specs.ZonesAndStrings.{gathered, zones, strings, zone_named, string_named}
use Rattle.format.specs.Claims.{claims}
use Rattle.format.specs.Decode.{read_description}
use Rattle.flags.specs.Marks.{Marks}
use Rattle.claims.specs.Taken.{HeldIs}
use Rattle.places.specs.Walks.{Walkable}
use Rattle.pass.specs.declared.State.{State}
use Rattle.format.specs.declared.settings.Settings.{Settings}

pub record Gathered (σ : Settings) (t : List ℕ) (s : State) (zs ss zu su : List Bool) : Type 0 where
  pub table : Walkable σ t
  pub count : s.count ≡ length table.rs
  pub zone : Marks zs (zones table.rs)
  pub string : Marks ss (0 ∷ strings table.rs)
  pub zone_use : Marks zu (gathered zone_named table.rs)
  pub string_use : Marks su ((read_description σ.chip (byte t)).string ∷ gathered string_named table.rs)
  pub held : HeldIs s.held (claims (read_description σ.chip (byte t)) table.rs)
