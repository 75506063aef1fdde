-- What the code decides before it writes, and the numbers that it looks for.
-- Assumes nothing.
use Rattle.std.specs.Prelude.{ℕ, ◌+◌, ◌-◌, ◌≤◌, ◌≡◌, Bool, List, length}
use Rattle.format.specs.Records.{Record}
use Rattle.format.specs.Pins.{among}
use Rattle.format.specs.ZonesAndStrings.{Role, gathered}
use Rattle.format.specs.Verdict.{Accepts}
use Rattle.format.specs.declared.pins.Chip.{Chip}
use Rattle.format.specs.declared.settings.Settings.{Settings}
use Rattle.format.specs.declared.records.Description.{Description}
use Rattle.format.specs.Answers.{Gives as Length, Refused as NotWritten}
use Rattle.places.specs.Walks.{RoleBytes, names_of}
use Rattle.removal.specs.Taking.{named_as, closed}
use Rattle.format.specs.Answers.{Answered, Gives, Refused}
use Rattle.removing.specs.declared.Out.{Out}
use Rattle.removing.specs.Removed.{Removed}

-- whether an element of an accepted table, under whichever settings, names the zone, or else the string, with this number
abbrev pub TellsNames : List ℕ → Bool → ℕ → Bool → Type 0
TellsNames t zone n r =
    (σ : Settings) (d : Description) (rs : List Record) → Accepts σ t d rs → r ≡ among n (gathered (names_of zone) rs)

-- an element stands at a place of an accepted table; and whether something names it
abbrev pub Standing : List ℕ → ℕ → Type 0
Standing t at = (σ : Settings) × (d : Description) × (rs : List Record) × (x : Role) × Accepts σ t d rs × RoleBytes t at x

abbrev pub TellsNamed : List ℕ → ℕ → Bool → Type 0
TellsNamed t at r =
    (σ : Settings) (d : Description) (rs : List Record) (x : Role) → Accepts σ t d rs → RoleBytes t at x → r ≡ named_as d rs x

-- so many bytes at a place behind the description, in a table
pub record Closable (b : List ℕ) (at n : ℕ) : Type 0 where
  pub behind : 16 ≤ at
  pub within : at + n ≤ length b
  pub top : length b ≤ 4096

-- what was decided, as the call's words
abbrev pub Judges : Chip → List ℕ → ℕ → Answered Out → Type 0
Judges chip b k (Gives o) = Closable b o.at o.len × Removed chip b k (Length (length b - o.len)) (closed b o.at o.len)
Judges chip b k (Refused j p) = Removed chip b k (NotWritten j p) b
