-- The writer's answers as one number, and the bytes that are left.
-- Assumes nothing.
use Rattle.std.specs.Prelude.{ℕ, ◌≡◌, List, Option, Some, None}
use Rattle.format.specs.Answers.{number_of, value_of}
use Rattle.format.specs.declared.records.Element.{Element}
use Rattle.format.specs.Answers.{Written}
use Rattle.writer.specs.Calls.{Started, Appended}
use Rattle.rewriting.specs.Again.{Rewritten}
use Rattle.removing.specs.Removed.{Removed}
use Rattle.numbers.specs.From.{description_from, element_from}
use Rattle.esa.specs.Face.{packs}
use Rattle.format.specs.declared.pins.Chip.{Chip}

abbrev pub packed_written : Written → ℕ
packed_written w = packs (number_of w) (value_of w)

-- a table was started with the description in the numbers
pub record StartedFor (c : Chip) (b n : List ℕ) (r : ℕ) (after : List ℕ) : Type 0 where
  pub answer : Written
  pub started : Started c b (description_from n) answer after
  pub number : r ≡ packed_written answer

-- an element was appended
pub record AppendedOne (c : Chip) (b : List ℕ) (e : Element) (p : List ℕ) (r : ℕ) (after : List ℕ) : Type 0 where
  pub answer : Written
  pub appended : Appended c b e p answer after
  pub number : r ≡ packed_written answer

-- 7: 'identifier not in the list above'; then no byte is altered
abbrev pub AppendedAs : Chip → Option Element → List ℕ → List ℕ → ℕ → List ℕ → Type 0
AppendedAs c (Some e) b p r after = AppendedOne c b e p r after
AppendedAs c None b p r after = (r ≡ 7) × (after ≡ b)

-- the element of the identifier in the numbers was appended
pub record AppendedFor (c : Chip) (b : List ℕ) (id : ℕ) (n p : List ℕ) (r : ℕ) (after : List ℕ) : Type 0 where
  pub appended : AppendedAs c (element_from id n) b p r after

-- the records of a table were written again
pub record RewrittenFor (chip : Chip) (b c : List ℕ) (r : ℕ) (after : List ℕ) : Type 0 where
  pub answer : Written
  pub rewritten : Rewritten chip b c answer after
  pub number : r ≡ packed_written answer

-- an element was taken out of a table
pub record RemovedFor (chip : Chip) (b : List ℕ) (k r : ℕ) (after : List ℕ) : Type 0 where
  pub answer : Written
  pub removed : Removed chip b k answer after
  pub number : r ≡ packed_written answer
