-- One byte more of the element under way, where it does not complete it, and what is held then.
-- Assumes nothing.
use Rattle.std.specs.Prelude.{ℕ, ◌+◌, ◌-◌, ◌/◌, ◌%◌, ◌<◌, ◌≤◌, ◌≡◌, Bool, true, false, ◌&&◌, List, [], ◌∷◌, ◌++◌, length, set, eqb}
use Rattle.format.specs.Slots.{Bytes}
use Rattle.format.specs.Utf16.{agrees}
use Rattle.format.specs.declared.settings.Settings.{Settings}
use Rattle.format.specs.declared.records.Description.{Description}
use Rattle.pass.specs.Tracks.{Flags}
use Rattle.stream.specs.Running.{Run, unready, run_bytes}
use Rattle.underway.specs.Under.{Holds, KeepIs, is_good, is_high, TextOn, CutOn, most_of, lead_of, UnderIs, MoreIs}
use Rattle.underway.specs.declared.Under.{Under}
use Rattle.closing.specs.Ways.{WayIs}
use Rattle.states.specs.Numbers.{number, way_of}
use Rattle.advancing.specs.Advancing.{PlacedAt}
use Rattle.advancing.specs.Quiet.{Quiet, QuietRun}

pub record StaysIs (head : List ℕ) (had x : ℕ) (r : Bool) : Type 0 where
  pub few : r ≡ true → had < 65536
  pub waits : r ≡ true → (v : List ℕ) → Holds head v → had ≡ length v → unready (v ++ x ∷ []) ≡ true

-- a unit more, by its upper byte
pub record Marked (mark x r : ℕ) : Type 0 where
  pub good : is_good r ≡ is_good mark && agrees (is_high mark) (eqb (x / 4) 55)
  pub high : is_high r ≡ eqb (x / 4) 54

-- numbers of an element that a table has
pub record Fits (u : Under) : Type 0 where
  pub cut : u.at ≤ 10000
  pub room : u.len < 4097

pub record UnitIs (u : Under) (x : ℕ) (r : Under) : Type 0 where
  pub on : Fits u → TextOn u (x ∷ []) r

pub record EntryIs (u : Under) (lead most x : ℕ) (r : Under) : Type 0 where
  pub on : Fits u → CutOn u lead most (x ∷ []) r

pub record OneIs (u : Under) (x : ℕ) (head : List ℕ) (r : Under) (head' : List ℕ) : Type 0 where
  pub on : Fits u → MoreIs u (x ∷ []) head r head'

-- the next byte of an element, of so many that are there, that may decide something
pub record NextIs (id : ℕ) (u : Under) (r : ℕ) : Type 0 where
  pub text : id ≡ 12 → u.len < r → u.mark ≡ 0
  pub first : (most_of id ≡ 0 → ⊥) → u.len ≤ 12 → r ≤ 12
  pub later : (most_of id ≡ 0 → ⊥) → 12 < u.len → u.blocks < most_of id → u.at ≤ 10000 → r ≤ 12 - lead_of id + u.at

-- the count up to which no byte decides anything, where it is ahead
pub record QuietTo (head : List ℕ) (u : Under) (count r : ℕ) : Type 0 where
  pub low : r ≤ 4097
  pub quiet : count < r → (v : List ℕ) → UnderIs u head v → Quiet u v (r - count)

-- the numbers that change
abbrev pub puts : List ℕ → ℕ → Under → ℕ → List ℕ
puts n count u quiet = set (set (set (set (set (set n 2 count) 5 u.len) 6 u.at) 7 u.blocks) 8 u.mark) 15 quiet

-- those that change with a byte that decides nothing
pub record LengthenIs (n head : List ℕ) (count x : ℕ) (n' head' : List ℕ) : Type 0 where
  pub numbers : n' ≡ set (set n 2 (count + 1)) 5 (number n 5 % 65536 + 1)
  pub kept : KeepIs (number n 5 % 65536) (x ∷ []) head head'

-- where number 15 is ahead of the count, no byte up to there decides anything
abbrev pub QuietNow : List ℕ → Run → Type 0
QuietNow n s = number n 2 < number n 15 → (number n 15 ≤ 4097) × QuietRun (number n 15 - number n 2) (way_of n).under s

-- one byte more is counted, and the pass goes on with it
pub record Longer (n head : List ℕ) (x : ℕ) (n' head' : List ℕ) : Type 0 where
  pub ended : number n' 0 ≡ number n 0
  pub size : length n' ≡ length n
  pub code : number n' 1 ≡ number n 1
  pub count : length n ≡ 16 → number n' 2 ≡ number n 2 + 1
  pub on :
      length n ≡ 16
      → (σ : Settings) (d : Description) (f : Flags) (zp sp : List ℕ) (m : ℕ) (s : Run)
      → WayIs d (way_of n) head f zp sp s
      → PlacedAt m s
      → Bytes (x ∷ [])
      → m < 4097
      → WayIs d (way_of n') head' f zp sp (run_bytes σ s (x ∷ [])) × QuietNow n' (run_bytes σ s (x ∷ []))

pub record ByteIs (n head : List ℕ) (x : ℕ) (r : Bool) (n' head' : List ℕ) : Type 0 where
  pub yes : r ≡ true → Longer n head x n' head'
  pub no : r ≡ false → (n' ≡ n) × (head' ≡ head)
