-- What a count means at element k of a table: the table's refusal, 17, or the element's own answer.
-- Assumes nothing.
use Rattle.std.specs.Prelude.{ℕ, ◌<◌, ◌≤◌, List, Result, Ok, Err}
use Rattle.format.specs.declared.settings.Settings.{Settings}
use Rattle.format.specs.declared.records.Element.{Element}
use Rattle.format.specs.Answers.{Gives as Given, Refused as NotGiven}
use Rattle.reader.specs.Answered.{GivesElement}
use Rattle.converting.specs.Outcomes.{outcome_of}
use Rattle.format.specs.Answers.{rule_number}
use Rattle.format.specs.declared.answers.Rule.{Rule}
use Rattle.converting.specs.declared.Converted.{Converted}
use Rattle.converting.specs.declared.Outcome.{Outcome}
use Rattle.converting.specs.declared.Outcome.TheVariants.{Reading, Under, Over}
use Rattle.sensing.specs.Answers.{sensor_of, Answers}
use Rattle.format.specs.declared.answers.Refusal.{Refusal}

-- a reading in the unit of the element's kind, 'under 0', 'over 100', or a refusal and its place
pub data Metered : Type 0 where
  Read : ℕ → Metered
  UnderZero : Metered
  OverHundred : Metered
  RefusedAt : ℕ → ℕ → Metered

-- without a line there is no line number: 18 and 19 stand at 0
abbrev pub metered_of : Result Outcome Rule → Metered
metered_of (Ok (Reading v)) = Read v
metered_of (Ok Under) = UnderZero
metered_of (Ok Over) = OverHundred
metered_of (Err n) = RefusedAt (rule_number n) 0

-- what the call's result says
abbrev pub metered : Result Outcome Refusal → Metered
metered (Ok o) = metered_of (Ok o)
metered (Err r) = RefusedAt (rule_number r.rule) r.place

-- a count, or of all counts over 65,535 the first
pub data Short (c : ℕ) : ℕ → Type 0 where
  whole : c < 65536 → Short c c
  cut : 65536 ≤ c → Short c 65536

-- 'Refusals, after the table's own'
pub data Meters (σ : Settings) (b : List ℕ) (k c : ℕ) : Metered → Type 0 where
  -- the table's own, or 17, as asking for element k gives them
  ungiven : {j p : ℕ} → GivesElement σ b k (NotGiven j p) → Meters σ b k c (RefusedAt j p)
  -- the element's answer to the count
  given : {e : Element} (r : Result Converted Rule) → GivesElement σ b k (Given e) → Answers (sensor_of e) c r → Meters σ b k c (metered_of (outcome_of r))
