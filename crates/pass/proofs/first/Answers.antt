-- `first` meets its contract: past the end a byte is 0.
-- Assumes nothing.
use Prim.Native.Nat.{ℕ}
use native.Mathlib.Omega.{arith}
use mathlib.Core.Path.{◌≡◌, refl}
use mathlib.Core.List.{List, [], ◌∷◌}
use lib.ListN.{length}
use Rattle.format.specs.Slots.{byte}
use Rattle.pass.proofs.first.Goals as goal

no-first : (b : List ℕ) → length b ≡ 0 → 0 ≡ byte b 0
no-first [] h = refl
no-first (x ∷ b) h = absurd (omega arith)

pub returns-then-b-eq0 : goal.returns-then-b-eq0
returns-then-b-eq0 c = no-first c.args.b.now c.if-b-eq0.true
