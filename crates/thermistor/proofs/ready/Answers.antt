-- `ready` meets its contract: one test, computed over all 1,024 entries, and carried to each of them.
-- Assumes nothing.
use Prim.Native.Nat.{ℕ}
use native.Mathlib.Omega.{arith}
use mathlib.Core.Path.{◌≡◌, refl, ap}
use mathlib.Core.Bool.{Bool, true, false, ◌&&◌, false≢true}
use mathlib.Core.List.{List}
use lib.Dec.{leb, eqb}
use lib.ListN.{length, get_or}
use borrow.Author.Tests.{eqb-true}
use Rattle.std.specs.Prelude.{Result, Ok, Err}
use Rattle.converting.specs.Outcomes.{tenths}
use Rattle.converting.specs.Formula.{step, temperature_of, meant}
use Rattle.format.specs.declared.answers.Rule.{Rule}
use Rattle.converting.specs.declared.Converted.{Converted}
use Rattle.converting.specs.declared.Converted.TheVariants.{Temperature, Current, Voltage, Speed, Under, Over}
use Rattle.converting.proofs.Walking.{both}
use Rattle.thermistor.specs.Ready.{ours, Ready}
use Rattle.thermistor.proofs.Table.{every, at}
use Rattle.thermistor.proofs.ready.Goals as goal

means : ℕ → Result Converted Rule → Bool
means x (Ok (Temperature t)) = leb x 1000 && eqb x t.0
means x (Ok (Current i)) = false
means x (Ok (Voltage u)) = false
means x (Ok (Speed s)) = false
means x (Ok Under) = eqb x 1001
means x (Ok Over) = eqb x 1002
means x (Err n) = false

means-meant : (x : ℕ) (r : Result Converted Rule) → means x r ≡ true → meant x ≡ r
unfolding means meant
means-meant x (Ok (Temperature t)) h = let b = both (leb x 1000) (eqb x t.0) h in rw b.0 (ap tenths (eqb-true x t.0 b.1))
means-meant x (Ok (Current i)) h = absurd (false≢true h)
means-meant x (Ok (Voltage u)) h = absurd (false≢true h)
means-meant x (Ok (Speed s)) h = absurd (false≢true h)
means-meant x (Ok Under) h = rw (eqb-true x 1001 h)
means-meant x (Ok Over) h = rw (eqb-true x 1002 h)
means-meant x (Err n) h = absurd (false≢true h)

right : ℕ → ℕ → Bool
right k x = means x (temperature_of ours k)

carried : (xs : List ℕ) → length xs ≡ 1024 → every right 0 xs ≡ true → Ready xs
unfolding right
carried xs l t = record { rule = λ k h. means-meant (get_or xs k 0) (temperature_of ours k) (at right xs t k (omega arith)) }

pub returns : goal.returns
unfolding right means meant temperature_of step
returns c = carried _ refl refl
