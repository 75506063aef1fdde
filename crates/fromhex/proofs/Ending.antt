-- What the walk said, taken apart; and a table that is too long: 2 by its first byte, or 3.
-- Assumes nothing.
use Prim.Native.Nat.{ℕ, ◌<◌}
use native.Mathlib.Omega.{arith}
use mathlib.Core.Path.{◌≡◌, refl}
use mathlib.Core.List.{List}
use lib.ListN.{length}
use Rattle.format.specs.Slots.{byte}
use Rattle.format.specs.Verdict.{Verdict, unrevised, missized}
use Rattle.format.specs.declared.settings.Settings.{Settings}
use Rattle.format.specs.Answers.{Refused}
use Rattle.hextext.specs.Meaning.{Meaning, bytes, bad}
use Rattle.std.specs.Prelude.{Ok, Err}
use Rattle.fromhex.specs.declared.BadLine.{BadLine}
use Rattle.fromhex.specs.Reading.{Said, sends, fails}

module _ {Is : Meaning → Type 0} {b : List ℕ} where
  pub said_bytes : {n : ℕ} → Said Is b (Ok n) → Is (bytes b) × (length b ≡ n)
  said_bytes (sends i) = (i, refl)

  pub said_bad : {e : BadLine} → Said Is b (Err e) → Is (bad e.line)
  said_bad (fails i) = i

module _ (σ : Settings) (b : List ℕ) (h : 4096 < length b) where
  pub long_unrevised : (byte b 0 ≡ 1 → ⊥) → Verdict σ b (Refused 2 0)
  long_unrevised e = unrevised (omega arith) e

  pub long_missized : byte b 0 ≡ 1 → Verdict σ b (Refused 3 0)
  long_missized e = missized (omega arith) e (λ p. omega (arith, p.0, p.1))
