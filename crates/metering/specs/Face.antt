-- The answer over the C face: the number of 'What comes back', and 256 times what stands beside it.
-- Assumes nothing.
use Rattle.std.specs.Prelude.{ℕ, ◌+◌, ◌*◌, ◌≡◌, List, Result}
use Rattle.format.specs.declared.settings.Settings.{Settings}
use Rattle.converting.specs.Outcomes.{outcome_of}
use Rattle.converting.specs.Conversions.{Temperature}
use Rattle.format.specs.declared.answers.Rule.{Rule}
use Rattle.converting.specs.declared.Converted.{Converted}
use Rattle.thermistor.specs.Ready.{ours}
use Rattle.metering.specs.Meters.{metered_of, Meters}
use Rattle.metering.specs.Meters.{Metered}
use Rattle.metering.specs.Meters.{Read as Reading, UnderZero as Under, OverHundred as Over, RefusedAt as Refused}

abbrev pub number_of : Metered → ℕ
number_of (Reading v) = 0
number_of Under = 0
number_of Over = 0
number_of (Refused j p) = j

-- the place of a refusal
abbrev pub place_of : Metered → ℕ
place_of (Reading v) = 0
place_of Under = 0
place_of Over = 0
place_of (Refused j p) = p

-- four times the reading, or 1 for 'under 0', 2 for 'over 100'; the place of a refusal
abbrev pub beside_of : Metered → ℕ
beside_of (Reading v) = 4 * v
beside_of Under = 1
beside_of Over = 2
beside_of (Refused j p) = p

abbrev pub packed_of : Metered → ℕ
packed_of m = number_of m + 256 * beside_of m

pub record ReadingFor (σ : Settings) (b : List ℕ) (k c r : ℕ) : Type 0 where
  pub answer : Metered
  pub meters : Meters σ b k c answer
  pub number : r ≡ packed_of answer

-- of a sensor with our own calibration
pub record OwnFor (c r : ℕ) : Type 0 where
  pub answer : Result Converted Rule
  pub reads : Temperature ours c answer
  pub number : r ≡ packed_of (metered_of (outcome_of answer))
