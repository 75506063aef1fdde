-- What the comparison says: how long the text is, or which of the two tables is refused, with the number and the place.
-- Assumes nothing.
use Rattle.std.specs.Prelude.{ℕ, Result, Ok, Err}
use Rattle.format.specs.Answers.{rule_number}
use Rattle.comparing.specs.declared.Which.{Which}
use Rattle.comparing.specs.declared.Which.TheVariants.{First, Second}
use Rattle.comparing.specs.declared.RefusedTable.{RefusedTable}

pub data Outcome : Type 0 where
  Text : ℕ → Outcome
  Refused : ℕ → ℕ → ℕ → Outcome

abbrev pub which_number : Which → ℕ
which_number First = 1
which_number Second = 2

abbrev pub outcome_of : Result ℕ RefusedTable → Outcome
outcome_of (Ok n) = Text n
outcome_of (Err r) = Refused (which_number r.which) (rule_number r.refusal.rule) r.refusal.place
