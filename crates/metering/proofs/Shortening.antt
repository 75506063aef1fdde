-- The answer to a shortened count is the answer to the count.
-- Assumes nothing.
use Prim.Native.Nat.{ℕ}
use Rattle.std.specs.Prelude.{Result, Option}
use Rattle.format.specs.declared.answers.Rule.{Rule}
use Rattle.converting.specs.declared.Converted.{Converted}
use Rattle.sensing.specs.declared.Sensor.{Sensor}
use Rattle.sensing.specs.Answers.{Answers}
use Rattle.sensing.proofs.Far.{answers_far}
use Rattle.metering.specs.Meters.{Short, whole, cut}

pub unshortened : (s : Option Sensor) (r : Result Converted Rule) {c n : ℕ} → Short c n → Answers s n r → Answers s c r
unshortened s r (whole h) x = x
unshortened s r (cut h) x = answers_far h s r x
