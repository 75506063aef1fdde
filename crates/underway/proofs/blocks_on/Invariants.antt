-- `blocks_on` meets its contract: whatever follows, the cut goes on from where it is as from the start.
-- Assumes nothing.
use Prim.Native.Nat.{ℕ, ◌+◌, ◌-◌, ◌≤◌}
use mathlib.Core.Path.{◌≡◌}
use mathlib.Core.List.{List}
use lib.ListN.{length}
use Rattle.underway.specs.Under.{CutIs}
use Rattle.underway.proofs.Block.{Within}
use Rattle.underway.proofs.blocks_on.Given as goal

abbrev pub invariant-loop-n : goal.invariant-loop-n
invariant-loop-n l =
    (l.from ≡ 12 - l.lead)
    × (l.total ≡ l.had + length l.p - l.from)
    × (l.c.at ≤ 10000)
    × ((v : List ℕ) → l.had ≡ length v → CutIs l.lead l.most l.initial.c.at l.initial.n l.initial.c.full v → Within l.lead l.most l.c.at l.n l.c.full v l.p)

abbrev pub decreases-loop-n : goal.decreases-loop-n
decreases-loop-n l = l.most - l.n
