-- No place is over 4,096: a refusal of the element stands at 0, and the reader's places are bounded.
-- Assumes nothing.
use Prim.Native.Nat.{ℕ, ◌≤◌}
use native.Mathlib.Omega.{arith}
use mathlib.Core.Path.{◌≡◌, refl}
use mathlib.Core.List.{List}
use Rattle.std.specs.Prelude.{Result, Ok, Err}
use Rattle.format.specs.declared.settings.Settings.{Settings}
use Rattle.reader.proofs.Bounds.{place_bound}
use Rattle.converting.specs.Outcomes.{outcome_of}
use Rattle.format.specs.declared.answers.Rule.{Rule}
use Rattle.converting.specs.declared.Outcome.{Outcome}
use Rattle.converting.specs.declared.Outcome.TheVariants.{Reading, Under, Over}
use Rattle.metering.specs.Meters.{metered_of, Meters, given, ungiven}
use Rattle.metering.specs.Face.{place_of}
use Rattle.metering.specs.Meters.{Metered}

pub at_zero : (o : Result Outcome Rule) → place_of (metered_of o) ≡ 0
at_zero (Ok (Reading v)) = refl
at_zero (Ok Under) = refl
at_zero (Ok Over) = refl
at_zero (Err n) = refl

pub placed : (σ : Settings) (b : List ℕ) (k c : ℕ) (m : Metered) → Meters σ b k c m → place_of m ≤ 4096
placed σ b k c m (ungiven g) = place_bound σ b k _ g.beside g.gives
placed σ b k c m (given r g a) = omega (arith, at_zero (outcome_of r))
