-- The pin sheet from C: the answer as one number, and the 25 numbers that are left, by the ordinary rules.
-- Assumes nothing.
use Rattle.std.specs.Prelude.{ℕ, ◌≡◌, List}
use Rattle.format.specs.Records.{Record}
use Rattle.format.specs.Writing.{writing}
use Rattle.format.specs.declared.pins.Chip.{Chip}
use Rattle.format.specs.declared.records.Description.{Description}
use Rattle.format.specs.Answers.{Answer}
use Rattle.pinsheet.specs.Sheet.{Claimant}
use Rattle.sheets.specs.Lines.{Leaves}
use Rattle.esa.specs.Face.{packed}

-- a sheet was made, or brought forward
pub record SheetFor
    (c : Chip) (b : List ℕ) (f : Description → List Record → List Claimant) (old : List ℕ) (r : ℕ) (after : List ℕ) : Type 0 where
  pub answer : Answer
  pub leaves : Leaves (writing c) b f old answer after
  pub number : r ≡ packed answer
