-- What differs between two tables, as one number beside the text in the buffer.
-- Assumes nothing.
use Rattle.std.specs.Prelude.{ℕ, ◌+◌, ◌*◌, ◌≤◌, ◌≡◌, List}
use Rattle.format.specs.declared.pins.Chip.{Chip}
use Rattle.comparing.specs.Lines.{Compares}
use Rattle.comparing.specs.Outcomes.{Outcome}
use Rattle.comparing.specs.Outcomes.{Text, Refused}
use Rattle.esa.specs.Face.{packs}

-- beside 0 the length of the text; beside a refusal its place, and 65,536 times 1 or 2, the table that is refused
abbrev pub packed_outcome : Outcome → ℕ
packed_outcome (Text n) = packs 0 n
packed_outcome (Refused w k p) = packs k (p + 65536 * w)

-- no length and no place that is too large
abbrev pub Fitted : Outcome → Type 0
Fitted (Text n) = n ≤ 59016
Fitted (Refused w k p) = (w ≤ 2) × (p ≤ 4096)

pub record DiffFor (c : Chip) (b b' buf : List ℕ) (r : ℕ) (after : List ℕ) : Type 0 where
  pub answer : Outcome
  pub compares : Compares c b b' buf answer after
  pub number : r ≡ packed_outcome answer
