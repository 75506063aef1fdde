-- What is decided before anything is written.
-- Assumes nothing.
use Rattle.std.specs.Prelude.{ℕ, ◌+◌, ◌≤◌, ◌<◌, ◌≡◌, Bool, false, not, cond, List, [], ◌∷◌, ◌++◌, length, take}
use Rattle.format.specs.Slots.{byte}
use Rattle.format.specs.Pins.{among}
use Rattle.format.specs.ZonesAndStrings.{zones}
use Rattle.format.specs.Decode.{read_description}
use Rattle.format.specs.Writing.{writing}
use Rattle.format.specs.declared.pins.Chip.{Chip}
use Rattle.format.specs.declared.records.Description.{Description}
use Rattle.flags.specs.Marks.{Marks, Lacks}
use Rattle.saving.specs.Saving.{Line, line, cleared, Saved, records, string_indexes, in_zones, named, ending}
use Rattle.fates.specs.Noted.{Each, Codes, Notes}
use Rattle.fates.specs.declared.Kept.{Kept}
use Rattle.fates.specs.declared.Note.{Note}
use Rattle.fates.specs.declared.Counts.{Counts}
use Rattle.scanning.specs.Scanned.{after_pass}
use Rattle.mending.specs.Laid.{LengthIs}
use Rattle.salvaging.specs.declared.Plan.{Plan}

-- the description that stands in the bytes
abbrev pub described : Chip → List ℕ → Description
described c t = read_description c (byte t)

-- after 13, after 14, and in the end, by the writer's rules
unfoldable pub after_zones : Chip → List ℕ → Saved
after_zones c t = in_zones (writing c) t

unfoldable pub after_strings : Chip → List ℕ → Saved
after_strings c t = named (described c t) (in_zones (writing c) t)

unfoldable pub after_all : Chip → List ℕ → Saved
after_all c t = ending (described c t) (in_zones (writing c) t)

abbrev pub counts_of : Plan → Counts
counts_of p = record { kept = p.kept; lines = p.lines }

pub record Decided (c : Chip) (t : List ℕ) (p : Plan) (kept : List Kept) (log : List Note) : Type 0 where
  pub notes : Notes c t kept log (counts_of p) (after_all c t)
  pub clears : p.cleared ≡ not (among (described c t).string (string_indexes (after_zones c t)))
  pub size : LengthIs t (take p.kept kept) p.len

-- no element can stand behind the description, whose string index is 0
abbrev pub Alone : List ℕ → Type 0
Alone t = (length t ≤ 18) × (byte t 4 ≡ 0)

-- every number that is named is declared, and no claim clashes
abbrev pub Complete : List Bool → List Bool → List Bool → List Bool → ℕ → Type 0
Complete zs ss zu su clash = Lacks zu zs false × Lacks su ss false × (clash ≡ 65536)

-- what 13, 14 and 15 start from, after the pass
pub record Passed (c : Chip) (t : List ℕ) (kept : List Kept) (log : List Note) (zs ss : List Bool) (n : Counts) : Type 0 where
  pub notes : Notes c t kept log n (after_pass c t)
  pub zone : Marks zs (zones (records (after_pass c t).kept))
  pub index : Marks ss (string_indexes (after_zones c t))
  pub few_lines : n.lines ≤ 1360

-- the plan of what is noted
pub record PlanIs (t : List ℕ) (kept : List Kept) (n : Counts) (clears : Bool) (p : Plan) : Type 0 where
  pub keeps : p.kept ≡ n.kept
  pub lines : p.lines ≡ n.lines
  pub clear : p.cleared ≡ clears
  pub size : LengthIs t kept p.len

-- the description's line, where there is one
pub record NotesFirst (log : List Note) (n : ℕ) (clear : Bool) (r : ℕ) (log' : List Note) : Type 0 where
  pub long : length log' ≡ length log
  pub more : r ≤ n + 1
  pub notes :
      (ls : List Line)
      → n < length log
      → Each Codes (take n log) ls
      → Each Codes (take r log') (ls ++ cond clear (line 0 14 cleared ∷ []) [])
