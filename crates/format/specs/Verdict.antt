-- The answer that a table's bytes are to be given: 'What comes back', over the layout and the rules alone.
-- Assumes nothing.
use Rattle.std.specs.Prelude.{ℕ, ◌+◌, ◌*◌, ◌<◌, ◌≤◌, ◌≡◌, Bool, true, false, ◌&&◌, List, [], ◌∷◌, length, leb}
use Rattle.std.proofs.Math.Option.{none, some}
use Rattle.format.specs.Slots.{Starts, Fits, byte}
use Rattle.format.specs.Records.{Record}
use Rattle.format.specs.Layout.{layout, layouts, opening, table, place_after}
use Rattle.format.specs.Pins.{among}
use Rattle.format.specs.Rules.{of_its_kind, description_kind}
use Rattle.format.specs.ZonesAndStrings.{zoneless, nameless}
use Rattle.format.specs.Claims.{contested}
use Rattle.format.specs.Table.{element_breaks, description_breaks, PassKept, Keeps}
use Rattle.format.specs.declared.pins.Chip.{Chip}
use Rattle.format.specs.declared.settings.Settings.{Settings}
use Rattle.format.specs.declared.records.Description.{Description}
use Rattle.format.specs.Answers.{Answer}
use Rattle.format.specs.Answers.{Gives as Accepted, Refused}

-- the length that stands in bytes 1-2 of a table, and of an element
abbrev pub stated : List ℕ → ℕ
stated bs = byte bs 1 + 256 * byte bs 2

-- 6: 'under 3 bytes left for a header, or element length under 3 or past the end'; here, that it is none of these
abbrev pub framed : List ℕ → Bool
framed bs = leb 3 (length bs) && (leb 3 (stated bs) && leb (stated bs) (length bs))

-- 7: 'identifier not in the list above', to which request 1/14 adds 'the four elements of clause 8 still left out'
abbrev pub known : ℕ → Bool
known id = among id (0x01 ∷ 0x02 ∷ 0x03 ∷ 0x04 ∷ 0x05 ∷ 0x06 ∷ 0x07 ∷ 0x08 ∷ 0x09 ∷ 0x0a ∷ 0x0b ∷ 0x0c ∷ 0x0d ∷ 0x0e ∷ [])

-- What stands at the head of the bytes: a record whose layout they start with, reserved places aside, and which is of
-- its kind: an address by its bus type ('A device address is either .. or .., by the bus type'), each pin of the named chip, FFh an
-- unused place.
pub record Stands (c : Chip) (bs : List ℕ) (r : Record) : Type 0 where
  pub rest : List ℕ
  pub starts : Starts bs (layout r) rest
  pub kind : of_its_kind c r ≡ true

-- What stands at the head of the bytes, after the elements before, breaks the named rule of the pass and none before it:
-- '6, the 97th (11), 7, 8, 9', 23, '10' of its own pins and of the fan list, 'the 13th zone (11), 12'.
pub data Breaks (s : Settings) (before : List Record) (bs : List ℕ) : ℕ → Type 0 where
  header : 0 < length bs → framed bs ≡ false → Breaks s before bs 6
  crowded : framed bs ≡ true → 96 ≤ length before → Breaks s before bs 11
  unknown : framed bs ≡ true → length before < 96 → known (byte bs 0) ≡ false → Breaks s before bs 7
  -- 8: no record has a layout of that length and those blocks
  unlaid :
      framed bs ≡ true
      → length before < 96
      → known (byte bs 0) ≡ true
      → ((r : Record) → Stands s.chip bs r → ⊥)
      → Breaks s before bs 8
  -- 8 to 12, and 23: a record stands there and breaks a rule
  faulty :
      {k : ℕ} (r : Record)
      → length before < 96
      → Stands s.chip bs r
      → element_breaks s before r ≡ some k
      → Breaks s before bs k

-- the bytes start with the layout of a description, in a table of as many bytes as there are, and then the rest; its
-- pins are of the named chip
pub record Opened (c : Chip) (b : List ℕ) (d : Description) (rest : List ℕ) : Type 0 where
  pub limit : length b ≤ 4096
  pub starts : Starts b (opening d (length b)) rest
  pub kind : description_kind c d ≡ true

-- the bytes are the layout of a table that breaks none of the rules up to 12
pub record Passed (s : Settings) (b : List ℕ) (d : Description) (rs : List Record) : Type 0 where
  pub limit : length b ≤ 4096
  pub fits : Fits b (table d rs)
  pub described : description_breaks s.chip d ≡ none
  pub passed : PassKept s [] rs

-- the records keep the rules and limits, and their layout is the bytes, reserved places aside
pub record Accepts (s : Settings) (b : List ℕ) (d : Description) (rs : List Record) : Type 0 where
  pub keeps : Keeps s d rs
  pub fits : Fits b (table d rs)

-- one case for each row of 'What comes back' that the reader can give, 0 to 15 and 23: those of the description are the list
-- `description_rules`, those of the pass the cases of `Breaks`
pub data Verdict (s : Settings) (b : List ℕ) : Answer → Type 0 where
  -- 0
  accepted : (d : Description) (rs : List Record) → Accepts s b d rs → Verdict s b (Accepted (length rs))
  -- 1: 'fewer than 16 bytes'
  short : length b < 16 → Verdict s b (Refused 1 0)
  -- 2: 'byte 0 is not 01h'
  unrevised : 16 ≤ length b → (byte b 0 ≡ 1 → ⊥) → Verdict s b (Refused 2 0)
  -- 3: 'table length differs from the bytes lent, or is over 4,096'
  missized : 16 ≤ length b → byte b 0 ≡ 1 → ((stated b ≡ length b) × (stated b ≤ 4096) → ⊥) → Verdict s b (Refused 3 0)
  -- 4, 5, 10, of the description
  misdescribed :
      {k : ℕ} (d : Description) (rest : List ℕ) → Opened s.chip b d rest → description_breaks s.chip d ≡ some k
      → Verdict s b (Refused k 0)
  -- 6 to 12, and 23: 'the bytes from 16 up to its place are the layout .. of elements that break none of the pass's rules, and what
  -- stands there breaks the named rule and none before it'
  stopped :
      {k : ℕ} (d : Description) (rest : List ℕ) (rs : List Record) (here : List ℕ)
      → Opened s.chip b d rest
      → description_breaks s.chip d ≡ none
      → Starts rest (layouts rs) here
      → PassKept s [] rs
      → Breaks s rs here k
      → Verdict s b (Refused k (place_after rs))
  -- 13: 'the zone of an element has no descriptor'
  unzoned : {p : ℕ} (d : Description) (rs : List Record) → Passed s b d rs → zoneless rs ≡ some p → Verdict s b (Refused 13 p)
  -- 14: 'a string index that is not 0 and has no string'
  unnamed :
      {p : ℕ} (d : Description) (rs : List Record)
      → Passed s b d rs
      → zoneless rs ≡ none
      → nameless d rs ≡ some p
      → Verdict s b (Refused 14 p)
  -- 15: 'a claim clashes'
  clashing :
      {p : ℕ} (d : Description) (rs : List Record)
      → Passed s b d rs
      → zoneless rs ≡ none
      → nameless d rs ≡ none
      → contested d rs ≡ some p
      → Verdict s b (Refused 15 p)
