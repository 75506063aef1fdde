-- `place_of` meets its contract: each turn puts one element behind.
-- Assumes nothing.
use Prim.Native.Nat.{ℕ, ◌<◌}
use Rattle.format.specs.Verdict.{Verdict}
use Rattle.format.specs.declared.settings.Settings.{Settings}
use Rattle.format.specs.Answers.{Gives as Accepted}
use Rattle.walking.proofs.Counting.{Count}
use Rattle.walking.proofs.place_of.Given as goal

abbrev pub invariant-loop : goal.invariant-loop
invariant-loop l = (σ : Settings) (n : ℕ) → Verdict σ l.t (Accepted n) → l.k < n → Count σ l.t l.k l.at l.counter
