-- What taking element k out of the lent bytes answers, and what it leaves in them (13/14).
-- Assumes nothing.
use Rattle.std.specs.Prelude.{ℕ, ◌-◌, ◌≡◌, true, false, List, length}
use Rattle.std.proofs.Math.Option.{none, some}
use Rattle.format.specs.Records.{Record}
use Rattle.format.specs.Layout.{layout}
use Rattle.format.specs.Verdict.{Accepts, Verdict}
use Rattle.format.specs.Asked.{nth}
use Rattle.format.specs.Writing.{writing}
use Rattle.format.specs.declared.pins.Chip.{Chip}
use Rattle.format.specs.declared.records.Description.{Description}
use Rattle.format.specs.Answers.{Refused as RefusedTable}
use Rattle.format.specs.Answers.{Written}
use Rattle.format.specs.Answers.{Gives as Length, Refused}
use Rattle.removal.specs.Taking.{place_of, named, closed}

-- of a table with this description and these records
pub data Taken (b : List ℕ) (d : Description) (rs : List Record) (k : ℕ) : Written → List ℕ → Type 0 where
  -- 17: there is no element k
  past : nth rs k ≡ none → Taken b d rs k (Refused 17 0) b
  -- '22 at the element when something still names it'
  stays_named : {r : Record} → nth rs k ≡ some r → named d rs r ≡ true → Taken b d rs k (Refused 22 (place_of rs k)) b
  -- 'its bytes closed up and the length mended': 0 with the new length
  out :
      {r : Record}
      → nth rs k ≡ some r
      → named d rs r ≡ false
      → Taken b d rs k (Length (length b - length (layout r))) (closed b (place_of rs k) (length (layout r)))

-- 'Refusals: the reader's', by the writer's rules, and then these
pub data Removed (chip : Chip) (b : List ℕ) (k : ℕ) : Written → List ℕ → Type 0 where
  refused : {j p : ℕ} → Verdict (writing chip) b (RefusedTable j p) → Removed chip b k (Refused j p) b
  judged :
      {w : Written} {after : List ℕ} (d : Description) (rs : List Record)
      → Accepts (writing chip) b d rs
      → Taken b d rs k w after
      → Removed chip b k w after
