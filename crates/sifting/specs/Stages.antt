-- What each of the three passes makes of an element, and of all that are kept.
-- Assumes nothing.
use Rattle.std.specs.Prelude.{ℕ, ◌+◌, ◌≤◌, ◌≡◌, Bool, true, List, [], ◌∷◌, ◌++◌, length, take}
use Rattle.std.proofs.Math.Option.{none}
use Rattle.format.specs.Records.{Record}
use Rattle.format.specs.Pins.{among}
use Rattle.format.specs.Claims.{Made, claims, contested}
use Rattle.format.specs.declared.pins.Chip.{Chip}
use Rattle.format.specs.declared.records.Description.{Description}
use Rattle.flags.specs.Marks.{Marks}
use Rattle.claims.specs.Taken.{HeldIs, whats}
use Rattle.claims.specs.declared.Held.{Held}
use Rattle.saving.specs.Saving.{At, Saved, by_zone, by_string, by_claim}
use Rattle.saving.specs.Saving as saving
use Rattle.fates.specs.Noted.{Each, Keeps, Codes, Notes, Tells}
use Rattle.fates.specs.declared.Kept.{Kept}
use Rattle.fates.specs.declared.Note.{Note}
use Rattle.fates.specs.declared.Counts.{Counts}
use Rattle.fates.specs.declared.Fate.{Fate}
use Rattle.sifting.specs.declared.Stage.{Stage}
use Rattle.sifting.specs.declared.Stage.TheVariants.{Zones, Strings, Pins}
use Rattle.sifting.specs.declared.Judged.{Judged}

-- what a pass makes of a record, after those that it has kept
abbrev pub by_stage : Stage → List ℕ → Description → List Record → Record → saving.Fate
by_stage Zones ns d = by_zone ns
by_stage Strings ns d = by_string ns
by_stage Pins ns d = by_claim d

-- the pins that the description and some records claim, places aside; no claim clashes
pub record Claimed (d : Description) (kept : List Record) (h : Held) : Type 0 where
  pub made : List Made
  pub held : HeldIs h made
  pub same : whats made ≡ whats (claims d kept)
  pub clear : contested d kept ≡ none

-- what is carried from element to element: for the strings that 0 is an index, for the pins who holds them
abbrev pub Carries : Stage → List ℕ → Description → List Record → Held → Type 0
Carries Zones ns d kept h = Unit {0}
Carries Strings ns d kept h = among 0 ns ≡ true
Carries Pins ns d kept h = Claimed d kept h

-- the records that are kept then
abbrev pub afterwards : List Record → saving.Fate → List Record
afterwards kept (saving.stays r) = kept ++ r ∷ []
afterwards kept (saving.leaves k) = kept
afterwards kept (saving.mends r) = kept ++ r ∷ []
afterwards kept saving.unseen = kept

pub record JudgeIs (c : Chip) (stage : Stage) (t : List ℕ) (n : Kept) (l : List Bool) (h : Held) (r : Judged) : Type 0 where
  pub judges :
      (d : Description) (ns : List ℕ) (kept : List Record) (k : At Record)
      → Keeps c t n k
      → Marks l ns
      → Carries stage ns d kept h
      → Tells c t n k.place r.fate (by_stage stage ns d kept k.what)
      × Carries stage ns d (afterwards kept (by_stage stage ns d kept k.what)) r.held

abbrev pub JudgeZone : Chip → List ℕ → Kept → List Bool → Fate → Type 0
JudgeZone c t n l f =
    (ns : List ℕ) (kept : List Record) (k : At Record) → Keeps c t n k → Marks l ns → Tells c t n k.place f (by_zone ns kept k.what)

abbrev pub JudgeString : Chip → List ℕ → Kept → List Bool → Fate → Type 0
JudgeString c t n l f =
    (ns : List ℕ) (kept : List Record) (k : At Record)
    → Keeps c t n k
    → Marks l ns
    → among 0 ns ≡ true
    → Tells c t n k.place f (by_string ns kept k.what)

abbrev pub JudgeClaim : Chip → List ℕ → Kept → Held → Judged → Type 0
JudgeClaim c t n h r =
    (d : Description) (kept : List Record) (k : At Record)
    → Keeps c t n k
    → Claimed d kept h
    → Tells c t n k.place r.fate (by_claim d kept k.what) × Claimed d (afterwards kept (by_claim d kept k.what)) r.held

-- what a pass starts from: some elements are kept and some lines made
pub record Given (c : Chip) (stage : Stage) (t : List ℕ) (from : List Kept) (l : List Bool) (h : Held) (log : List Note) (m : ℕ) (d : Description)
    (ns : List ℕ) (s : Saved) (ks : List (At Record)) : Type 0 where
  pub few : length from ≤ 96
  pub log_long : length log ≡ 1649
  pub fitting : m + length from ≤ 1649
  pub keeps : Each (Keeps c t) from ks
  pub codes : Each Codes (take m log) s.lines
  pub none_yet : s.kept ≡ []
  pub marks : Marks l ns
  pub carries : Carries stage ns d [] h

pub record Ready (c : Chip) (stage : Stage) (t : List ℕ) (from : List Kept) (l : List Bool) (h : Held) (log : List Note) (m : ℕ) : Type 0 where
  pub d : Description
  pub ns : List ℕ
  pub s : Saved
  pub ks : List (At Record)
  pub given : Given c stage t from l h log m d ns s ks
  pub small : length t ≤ 4096

pub record Sifted (c : Chip) (stage : Stage) (t : List ℕ) (from : List Kept) (l : List Bool) (h : Held) (log : List Note) (m : ℕ) (r : Counts)
    (to : List Kept) (log' : List Note) : Type 0 where
  pub fewer : r.kept ≤ length from
  pub not_many : r.lines ≤ m + length from
  pub sifts :
      (d : Description) (ns : List ℕ) (s : Saved) (ks : List (At Record))
      → Given c stage t from l h log m d ns s ks
      → Notes c t to log' r (saving.sift (by_stage stage ns d) s ks)
