-- What is lent from call to call, and when it stands for the bytes so far.
-- Assumes nothing.
use Rattle.std.specs.Prelude.{ℕ, ◌-◌, ◌<◌, ◌≤◌, ◌≡◌, List, length}
use Rattle.format.specs.Slots.{byte}
use Rattle.format.specs.Table.{description_breaks}
use Rattle.format.specs.Decode.{read_description}
use Rattle.format.specs.declared.settings.Settings.{Settings}
use Rattle.format.specs.declared.records.Description.{Description}
use Rattle.pass.specs.Tracks.{Flags}
use Rattle.stream.specs.Arriving.{State, after}
use Rattle.underway.specs.Under.{Holds}
use Rattle.closing.specs.Ways.{WayIs}
use Rattle.states.specs.Numbers.{settings_of, number, way_of}
use Rattle.advancing.specs.Advancing.{opened, Fresh}
use Rattle.advancing.specs.Quiet.{QuietRun}

-- 16 numbers; the description's bytes; of the element under way the first 30 bytes; which zone and string numbers are declared and
-- which named, and the place of the first element that names each
pub record Lent : Type 0 where
  pub numbers : List ℕ
  pub first : List ℕ
  pub head : List ℕ
  pub marks : Flags
  pub zone_first : List ℕ
  pub string_first : List ℕ

abbrev pub lent : List ℕ → List ℕ → List ℕ → Flags → List ℕ → List ℕ → Lent
lent n first head f zp sp = record { numbers = n; first = first; head = head; marks = f; zone_first = zp; string_first = sp }

-- the description, by the bytes that are held of it
abbrev pub described : Settings → State → Description
described σ s = read_description σ.chip (byte s.first)

-- what is lent is what the definitions hold (`stream`); before the first element flags and places mean nothing
pub record Stands (σ : Settings) (s : State) (l : Lent) : Type 0 where
  pub size : length l.numbers ≡ 16
  pub live : number l.numbers 0 ≡ 0
  pub settings : settings_of (number l.numbers 1) ≡ σ
  pub count : number l.numbers 2 ≡ s.count
  pub first : Holds l.first s.first
  pub head : s.count ≤ 16 → length l.head ≡ 30
  pub fresh : s.count ≡ 16 → Fresh σ (described σ s) (way_of l.numbers)
  pub pass :
      16 < s.count
      → WayIs (described σ s) (way_of l.numbers) l.head l.marks l.zone_first l.string_first
      (opened (description_breaks σ.chip (described σ s)) s.run)
  -- up to the count that number 15 gives, where it is ahead, the bytes of the element under way decide nothing
  pub quiet :
      number l.numbers 2 < number l.numbers 15
      → (16 < number l.numbers 2)
      × (number l.numbers 15 ≤ 4097)
      × QuietRun (number l.numbers 15 - number l.numbers 2) (way_of l.numbers).under
      (opened (description_breaks σ.chip (described σ s)) s.run)

-- .. after some bytes
abbrev pub StandsFor : Settings → List ℕ → Lent → Type 0
StandsFor σ b l = Stands σ (after σ b) l
