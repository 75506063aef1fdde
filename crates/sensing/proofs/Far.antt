-- No conversion tells counts over 65,535 apart: what answers 65,536 answers every greater one.
-- Assumes nothing.
use Prim.Native.Nat.{ℕ, ◌≤◌}
use native.Mathlib.Omega.{arith}
use Rattle.std.specs.Prelude.{Result, Option, Some, None}
use Rattle.converting.specs.Conversions.{Linear, Speed, Temperature}
use Rattle.converting.specs.Conversions.Linear.{past, read}
use Rattle.converting.specs.Conversions.Speed.{many, none, read as turning}
use Rattle.converting.specs.Conversions.Temperature.{past as off, bent, under, along}
use Rattle.format.specs.declared.answers.Rule.{Rule}
use Rattle.converting.specs.declared.Converted.{Converted}
use Rattle.converting.specs.declared.Calibration.{Calibration}
use Rattle.sensing.specs.declared.Sensor.{Sensor}
use Rattle.sensing.specs.declared.Sensor.TheVariants.{Current, Voltage, Points, Pulses}
use Rattle.sensing.specs.Answers.{Answers}

module _ {c : ℕ} (far : 65536 ≤ c) where
  linear : {unit : ℕ → Result Converted Rule} {low high : ℕ} {r : Result Converted Rule} → Linear unit low high 65536 r → Linear unit low high c r
  linear (past h) = past (omega arith)
  linear (read h n) = absurd (omega arith)

  speed : {ppr : ℕ} {r : Result Converted Rule} → Speed ppr 65536 r → Speed ppr c r
  speed (many h) = many (omega arith)
  speed (none h z) = absurd (omega arith)
  speed (turning h n) = absurd (omega arith)

  temperature : {p : Calibration} {r : Result Converted Rule} → Temperature p 65536 r → Temperature p c r
  temperature (off h) = off (omega arith)
  temperature (bent h k) = bent h k
  temperature (under up l s h) = absurd (omega arith)
  temperature (along up l s x) = absurd (omega arith)

  pub answers_far : (s : Option Sensor) (r : Result Converted Rule) → Answers s 65536 r → Answers s c r
  answers_far (Some (Current imin imax)) r x = linear x
  answers_far (Some (Voltage vmin vmax)) r x = linear x
  answers_far (Some (Points p)) r x = temperature x
  answers_far (Some (Pulses ppr)) r x = speed x
  answers_far None r x = x
