-- What rewriting a table into a lent buffer gives: 'that table again with its reserved places at zero', or a refusal.
-- Assumes nothing.
use Rattle.std.specs.Prelude.{ℕ, ◌<◌, ◌≤◌, List, ◌++◌, length, drop}
use Rattle.format.specs.Records.{Record}
use Rattle.format.specs.Layout.{table}
use Rattle.format.specs.Cleared.{cleared}
use Rattle.format.specs.Verdict.{Accepts, Verdict}
use Rattle.format.specs.declared.records.Description.{Description}
use Rattle.format.specs.Answers.{Refused as RefusedTable}
use Rattle.format.specs.Answers.{Written}
use Rattle.format.specs.Answers.{Gives as Length, Refused}
use Rattle.format.specs.declared.pins.Chip.{Chip}
use Rattle.format.specs.Writing.{writing}

-- with this chip named and by the writer's rules, of the table's bytes and the buffer's: the answer, and the buffer's bytes afterwards
pub data Rewritten (chip : Chip) (b c : List ℕ) : Written → List ℕ → Type 0 where
  done :
      (d : Description) (rs : List Record)
      → Accepts (writing chip) b d rs
      → length b ≤ length c
      → Rewritten chip b c (Length (length b)) (cleared b (table d rs) ++ drop (length b) c)
  -- 16: 'no room'
  no_room : (d : Description) (rs : List Record) → Accepts (writing chip) b d rs → length c < length b → Rewritten chip b c (Refused 16 0) c
  refused : {k p : ℕ} → Verdict (writing chip) b (RefusedTable k p) → Rewritten chip b c (Refused k p) c
