-- What is laid out of the elements that are kept, each from its old place.
-- Assumes nothing.
use Rattle.std.specs.Prelude.{ℕ, ◌+◌, ◌-◌, ◌<◌, ◌≤◌, ◌≡◌, Bool, false, cond, List, [], ◌∷◌, ◌++◌, length, take, drop, set, get_or, eqb}
use Rattle.format.specs.Slots.{byte, written, Bytes}
use Rattle.format.specs.Records.{Record}
use Rattle.format.specs.Layout.{opening, layouts, table, place_after}
use Rattle.format.specs.Verdict.{stated}
use Rattle.format.specs.Decode.{read_description}
use Rattle.format.specs.declared.pins.Chip.{Chip}
use Rattle.format.specs.declared.records.Description.{Description}
use Rattle.spelling.specs.Spelling.{Put}
use Rattle.saving.specs.Saving.{At, records, unindexed_description}
use Rattle.fates.specs.Noted.{Each, Keeps}
use Rattle.fates.specs.declared.Kept.{Kept}
use Rattle.reserved.specs.Zeroed.{zeroed}
use Rattle.mending.specs.declared.Run.{Run}

-- the bytes with the string index of the element at a place at 0, by its identifier
abbrev pub cleared_at : ℕ → ℕ → List ℕ → List ℕ
cleared_at id at b = cond (eqb id 11) (set b (at + 4) 0) (cond (eqb id 12) b (set b (at + 3) 0))

-- the bytes with the element at a place tidied: reserved places at zero, its string index cleared or not
abbrev pub tidied : ℕ → Bool → ℕ → List ℕ → List ℕ
tidied id cleared at b = cond cleared (cleared_at id at (zeroed id at b)) (zeroed id at b)

-- all of them
pub record Listed (t : List ℕ) (kept : List Kept) : Type 0 where
  pub c : Chip
  pub ks : List (At Record)
  pub keeps : Each (Keeps c t) kept ks
  pub few : length kept ≤ 96
  pub top : length t ≤ 4096

abbrev pub LengthIs : List ℕ → List Kept → ℕ → Type 0
LengthIs t kept r = (c : Chip) (ks : List (At Record)) → Each (Keeps c t) kept ks → r ≡ place_after (records ks)

-- the bytes of an element that is kept, as they stand; and those of several, end to end
abbrev pub raw : List ℕ → Kept → List ℕ
raw t n = take (stated (drop n.place t)) (drop n.place t)

abbrev pub raws : List ℕ → List Kept → List ℕ
raws t [] = []
raws t (n ∷ ns) = raw t n ++ raws t ns

-- the old place of the i-th
abbrev pub nobody : Kept
nobody = record { place = 0; cleared = false }

abbrev pub place_at : List Kept → ℕ → ℕ
place_at kept i = (get_or kept i nobody).place

-- a run: it is the bytes of those from the i-th to the next
pub record RunIs (t : List ℕ) (kept : List Kept) (i : ℕ) (r : Run) : Type 0 where
  pub on : i < r.next
  pub most : r.next ≤ length kept
  pub low : place_at kept i ≤ r.to
  pub inside : r.to ≤ length t
  pub bytes :
      raws t (take r.next kept)
      ≡ raws t (take i kept) ++ take (r.to - place_at kept i) (drop (place_at kept i) t)

-- they have room behind the description
pub record Copyable (t : List ℕ) (kept : List Kept) (out : List ℕ) : Type 0 where
  pub list : Listed t kept
  pub most : 16 + length (raws t kept) ≤ 4096
  pub room : 16 + length (raws t kept) ≤ length out

abbrev pub Copied : List ℕ → List Kept → List ℕ → List ℕ → Type 0
Copied t kept out after = Put out 16 (raws t kept) (16 + length (raws t kept)) after

abbrev pub Tidies : List ℕ → List Kept → List ℕ → List ℕ → Type 0
Tidies t kept out after =
    (c : Chip) (ks : List (At Record)) (x y : List ℕ)
    → Each (Keeps c t) kept ks
    → length x ≡ 16
    → out ≡ x ++ (raws t kept ++ y)
    → after ≡ x ++ (written (layouts (records ks)) ++ y)

-- the description that is laid out
abbrev pub described_as : Bool → Description → Description
described_as cleared d = cond cleared (unindexed_description d) d

abbrev pub PutsOpening : Chip → List ℕ → Bool → ℕ → List ℕ → List ℕ → Type 0
PutsOpening c t cleared len out after = Put out 0 (written (opening (described_as cleared (read_description c (byte t))) len)) 16 after

-- the whole table
pub record Fitting (c : Chip) (t : List ℕ) (kept : List Kept) (len : ℕ) (out : List ℕ) : Type 0 where
  pub ks : List (At Record)
  pub keeps : Each (Keeps c t) kept ks
  pub few : length kept ≤ 96
  pub start : 16 ≤ length t
  pub revised : byte t 0 ≡ 1
  pub top : length t ≤ 4096
  pub bytes : Bytes t
  pub size : LengthIs t kept len
  pub most : len ≤ 4096
  pub room : len ≤ length out

abbrev pub PutsTable : Chip → List ℕ → List Kept → Bool → ℕ → List ℕ → List ℕ → Type 0
PutsTable c t kept cleared len out after =
    (ks : List (At Record))
    → Each (Keeps c t) kept ks
    → Put out 0 (written (table (described_as cleared (read_description c (byte t))) (records ks))) len after
