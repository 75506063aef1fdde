-- What is to be said at the end, from what is held then.
-- Assumes nothing.
use Rattle.std.specs.Prelude.{ℕ, ◌<◌, ◌≡◌, Bool, true, false, List, [], get_or}
use Rattle.format.specs.Records.{Record}
use Rattle.format.specs.Claims.{made_at, first_claims}
use Rattle.format.specs.Table.{description_breaks}
use Rattle.format.specs.Reader.{over_all, conclude, unless_misdescribed}
use Rattle.format.specs.declared.settings.Settings.{Settings}
use Rattle.format.specs.declared.records.Description.{Description}
use Rattle.format.specs.Answers.{Answer}
use Rattle.claims.specs.Taken.{HeldIs}
use Rattle.claims.specs.declared.Held.{Held}
use Rattle.pass.specs.Tracks.{Flags}
use Rattle.pass.specs.declared.State.{State}
use Rattle.firsts.specs.Firsts.{LeastTo}
use Rattle.stream.specs.Running.{Run, finish}
use Rattle.stream.specs.Arriving.{after, answer}
use Rattle.closing.specs.Ways.{Gone, WayIs}
use Rattle.closing.specs.declared.Way.{Way}
use Rattle.advancing.specs.Advancing.{Fresh, PlacedAt}
use Rattle.ending.specs.Stands.{lent, StandsFor}

-- where no number has a place that is not named: the least place of an undeclared one
pub record LackingIs (used seen : List Bool) (places : List ℕ) (r : ℕ) : Type 0 where
  pub least : ((i : ℕ) → i < 256 → get_or used i false ≡ false → get_or places i 0 ≡ 0) → LeastTo 256 places seen r

pub record AloneIs (string : ℕ) (held : Held) (a : Answer) : Type 0 where
  pub says : (d : Description) → string ≡ d.string → HeldIs held (made_at 0 (first_claims d)) → a ≡ over_all d []

pub record OverIs (string : ℕ) (s : State) (f : Flags) (zp sp : List ℕ) (a : Answer) : Type 0 where
  pub concludes : (d : Description) (rs : List Record) → string ≡ d.string → Gone d s f zp sp rs → a ≡ over_all d rs

pub record PassedIs (w : Way) (bare : Bool) (string : ℕ) (f : Flags) (zp sp : List ℕ) (a : Answer) : Type 0 where
  pub fresh :
      bare ≡ true
      → (σ : Settings) (d : Description)
      → Fresh σ d w
      → string ≡ d.string
      → a ≡ unless_misdescribed (description_breaks σ.chip d) (over_all d [])
  pub pass :
      bare ≡ false
      → (d : Description) (head : List ℕ) (n : ℕ) (s : Run)
      → WayIs d w head f zp sp s
      → PlacedAt n s
      → string ≡ d.string
      → a ≡ conclude d (finish s)

-- the answer is that of the definitions
pub record VerdictIs (n first : List ℕ) (f : Flags) (zp sp : List ℕ) (a : Answer) : Type 0 where
  pub answers : (σ : Settings) (b head : List ℕ) → StandsFor σ b (lent n first head f zp sp) → a ≡ answer σ (after σ b)
