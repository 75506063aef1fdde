-- `read_bytes` meets its contract: the bytes below k are read.
-- Assumes nothing.
use Prim.Native.Nat.{ℕ, ◌+◌, ◌*◌, ◌<◌}
use mathlib.Core.Path.{◌≡◌}
use lib.ListN.{length}
use Rattle.format.specs.Slots.{byte}
use Rattle.hextext.specs.Digits.{pair_at}
use Rattle.fromhex.proofs.read_bytes.Given as goal

abbrev pub invariant-loop-k : goal.invariant-loop-k
invariant-loop-k l =
    (length l.into ≡ length l.initial.into) × ((j : ℕ) → j < l.k → byte l.into j ≡ pair_at l.text (9 + 2 * j))
