-- When one answer is no hotter than another: 'under 0' is below every reading, 'over 100' above.
-- Assumes nothing.
use Rattle.std.specs.Prelude.{ℕ, ◌≤◌, Result, Ok}
use Rattle.converting.specs.Outcomes.{tenths}
use Rattle.format.specs.declared.answers.Rule.{Rule}
use Rattle.converting.specs.declared.Converted.{Converted}
use Rattle.converting.specs.declared.Converted.TheVariants.{Under, Over}

pub data NotHotter : Result Converted Rule → Result Converted Rule → Type 0 where
  from_under : {r : Result Converted Rule} → NotHotter (Ok Under) r
  to_over : {r : Result Converted Rule} → NotHotter r (Ok Over)
  by_tenths : {a b : ℕ} → a ≤ b → NotHotter (tenths a) (tenths b)
