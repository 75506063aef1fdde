-- A table moved into a lent buffer, as the text or the bytes that it becomes.
-- Assumes nothing.
use Rattle.std.specs.Prelude.{ℕ, ◌<◌, ◌≤◌, List, ◌++◌, length, drop}
use Rattle.format.specs.Verdict.{Verdict}
use Rattle.format.specs.declared.pins.Chip.{Chip}
use Rattle.format.specs.declared.settings.Settings.{Settings}
use Rattle.format.specs.declared.settings.Rules.TheVariants.{Archive}
use Rattle.format.specs.Answers.{Gives as Accepted, Refused as RefusedTable}
use Rattle.format.specs.Answers.{Written}
use Rattle.format.specs.Answers.{Gives as Length, Refused}

-- 'Moving .. use[s] the archive reader' (12/14); the caller names the chip
abbrev pub moving : Chip → Settings
moving chip = record { chip = chip; rules = Archive }

-- of the table's bytes, what they become, and the buffer's bytes: the answer, and the buffer's bytes afterwards
pub data Moved (chip : Chip) (b text c : List ℕ) : Written → List ℕ → Type 0 where
  done :
      {n : ℕ}
      → Verdict (moving chip) b (Accepted n)
      → length text ≤ length c
      → Moved chip b text c (Length (length text)) (text ++ drop (length text) c)
  -- 'then the table's own; then 16'
  refused : {k p : ℕ} → Verdict (moving chip) b (RefusedTable k p) → Moved chip b text c (Refused k p) c
  no_room : {n : ℕ} → Verdict (moving chip) b (Accepted n) → length c < length text → Moved chip b text c (Refused 16 0) c
