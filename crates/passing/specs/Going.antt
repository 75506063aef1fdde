-- What the bytes of a piece make of the pass: in turn the element under way, whole elements, and one that begins.
-- Assumes nothing.
use Rattle.std.specs.Prelude.{ℕ, ◌+◌, ◌-◌, ◌<◌, ◌≤◌, ◌≡◌, true, List, ◌++◌, length, take, drop}
use Rattle.format.specs.Slots.{byte, Bytes}
use Rattle.format.specs.Records.{Record}
use Rattle.format.specs.Layout.{place_after}
use Rattle.format.specs.Verdict.{stated}
use Rattle.format.specs.declared.settings.Settings.{Settings}
use Rattle.format.specs.declared.records.Description.{Description}
use Rattle.pass.specs.Tracks.{Flags, Low}
use Rattle.pass.specs.declared.State.{State}
use Rattle.stream.specs.Running.{Run, going, unready, run_bytes}
use Rattle.underway.specs.Under.{Holds, UnderIs}
use Rattle.underway.specs.declared.Under.{Under}
use Rattle.closing.specs.Ways.{Gone, On, WayIs, Whole}
use Rattle.closing.specs.declared.Way.{Way}
use Rattle.closing.specs.declared.Ran.{Ran}
use Rattle.passing.specs.declared.Share.{Share}

pub record ByteOf (head : List ℕ) (had : ℕ) (p : List ℕ) (k r : ℕ) : Type 0 where
  pub is : (v : List ℕ) → Holds head v → had ≡ length v → r ≡ byte (v ++ p) k

pub record ToldOf (head : List ℕ) (had : ℕ) (p : List ℕ) (r : ℕ) : Type 0 where
  pub is : (v : List ℕ) → Holds head v → had ≡ length v → r ≡ stated (v ++ p)

-- what the header says of an element that waits, with the bytes of a piece
pub data Shares (v p : List ℕ) (told take' : ℕ) : Type 0 where
  waits : 3 ≤ told → unready (v ++ p) ≡ true → take' ≡ length p → length v + take' < told → Shares v p told take'
  low : told < 3 → 3 ≤ length (v ++ p) → stated (v ++ p) < 3 → Shares v p told take'
  whole : 3 ≤ told → length v + take' ≡ told → take' ≤ length p → 0 < take' → Whole (v ++ take take' p) → Shares v p told take'

pub record DueIs (head : List ℕ) (had : ℕ) (p : List ℕ) (r : Share) : Type 0 where
  pub within : r.take ≤ length p
  pub some : 0 < length p → 0 < r.take
  pub shares : (v : List ℕ) → Holds head v → had ≡ length v → unready v ≡ true → 0 < length p → Shares v p r.told r.take

-- numbers that the pass can go on from with the rest of a piece
pub record Onto (p : List ℕ) (r : Ran) : Type 0 where
  pub low : Low r.way.state
  pub cut : r.way.under.at ≤ 10000
  pub within : r.taken ≤ length p
  pub ends : r.way.stop ≡ 0 → r.way.at + r.way.under.len + (length p - r.taken) ≤ 4097

-- where the pass is with the bytes that are taken; from there the rest leads where the whole piece leads
pub record Turned (σ : Settings) (d : Description) (s : Run) (p : List ℕ) (r : Ran) (head : List ℕ) (f : Flags)
    (zp sp : List ℕ) : Type 0 where
  pub run : Run
  pub now : WayIs d r.way head f zp sp run
  pub same : run_bytes σ s p ≡ run_bytes σ run (drop r.taken p)

pub record ResumeIs (σ : Settings) (u : Under) (at : ℕ) (s : State) (p head : List ℕ) (f : Flags) (zp sp : List ℕ) (r : Ran)
    (head' : List ℕ) (f' : Flags) (zp' sp' : List ℕ) : Type 0 where
  pub onto : Onto p r
  pub some : 0 < length p → 0 < r.taken
  pub goes :
      (d : Description) (before : List Record) (v : List ℕ)
      → 0 < length p
      → Bytes p
      → UnderIs u head v
      → unready v ≡ true
      → at ≡ place_after before
      → Gone d s f zp sp before
      → Turned σ d (going before at v) p r head' f' zp' sp'

-- whole elements, where none is under way
pub record AheadIs (σ : Settings) (w : Way) (p : List ℕ) (f : Flags) (zp sp : List ℕ) (r : Ran) (f' : Flags)
    (zp' sp' : List ℕ) : Type 0 where
  pub onto : Onto p r
  pub goes :
      (d : Description) (before : List Record) (at : ℕ) (u head : List ℕ)
      → Bytes p
      → On d w head f zp sp before at u
      → Turned σ d (going before at u) p r head f' zp' sp'

pub record TurnIs (σ : Settings) (w : Way) (p head : List ℕ) (f : Flags) (zp sp : List ℕ) (r : Ran) (head' : List ℕ) (f' : Flags)
    (zp' sp' : List ℕ) : Type 0 where
  pub onto : Onto p r
  pub some : 0 < length p → 0 < r.taken
  pub goes :
      (d : Description) (before : List Record) (at : ℕ) (u : List ℕ)
      → Bytes p
      → On d w head f zp sp before at u
      → Turned σ d (going before at u) p r head' f' zp' sp'

pub record PassIs (σ : Settings) (w : Way) (p head : List ℕ) (f : Flags) (zp sp : List ℕ) (r : Way) (head' : List ℕ) (f' : Flags)
    (zp' sp' : List ℕ) : Type 0 where
  pub goes :
      (d : Description) (before : List Record) (at : ℕ) (u : List ℕ)
      → 0 < length p
      → Bytes p
      → On d w head f zp sp before at u
      → WayIs d r head' f' zp' sp' (run_bytes σ (going before at u) p)
