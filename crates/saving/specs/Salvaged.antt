-- What salvage answers: done, with the length of the new table and that of the text of its lines; or the number and the place of a
-- refusal.
-- Assumes nothing.
use Rattle.std.specs.Prelude.{ℕ, Result, Ok, Err}
use Rattle.format.specs.Answers.{rule_number}
use Rattle.format.specs.declared.answers.Refusal.{Refusal}
use Rattle.saving.specs.declared.Lengths.{Lengths}

pub data Salvaged : Type 0 where
  Done : ℕ → ℕ → Salvaged
  Refused : ℕ → ℕ → Salvaged

abbrev pub salvaged : Result Lengths Refusal → Salvaged
salvaged (Ok l) = Done l.table l.lines
salvaged (Err r) = Refused (rule_number r.rule) r.place
