-- A run of the writer: start, then append for each record in turn, each call as its own words say.
-- Assumes nothing.
use Rattle.std.specs.Prelude.{ℕ, ◌+◌, ◌≡◌, List, [], ◌∷◌, ◌++◌, length, drop}
use Rattle.format.specs.Slots.{written}
use Rattle.format.specs.Records.{Record, element_of}
use Rattle.format.specs.Layout.{part, layouts, table}
use Rattle.format.specs.declared.records.Description.{Description}
use Rattle.format.specs.Answers.{Written}
use Rattle.format.specs.Answers.{Gives as Length}
use Rattle.writer.specs.Calls.{Appended}
use Rattle.format.specs.declared.pins.Chip.{Chip}

-- appending the records to a buffer, with this chip named, gives these answers and leaves these bytes
abbrev pub Appends : Chip → List ℕ → List Record → List Written → List ℕ → Type 0
Appends chip b [] [] after = b ≡ after
Appends chip b [] (w ∷ ws) after = ⊥
Appends chip b (r ∷ rs) [] after = ⊥
Appends chip b (r ∷ rs) (w ∷ ws) after =
    (between : List ℕ) × Appended chip b (element_of r) (written (part r)) w between × Appends chip between rs ws after

-- the buffer when so many records are written: their table, and the rest as it was
abbrev pub standing : Description → List Record → List ℕ → List ℕ
standing d rs c = written (table d rs) ++ drop (16 + length (layouts rs)) c

-- every answer is 0, with a length
abbrev pub AllDone : List Written → Type 0
AllDone [] = Unit {0}
AllDone (w ∷ ws) = ((m : ℕ) × (w ≡ Length m)) × AllDone ws
