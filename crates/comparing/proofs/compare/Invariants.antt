-- `compare` meets its contract: the descriptions' lines, and a pair of elements a turn. The loop's invariant is `Going`.
-- Assumes nothing.
use Prim.Native.Nat.{◌+◌, ◌-◌}
use lib.ListN.{length}
use Rattle.format.specs.declared.pins.Chip.{Chip}
use Rattle.comparing.proofs.Going.{Agreed, Going}
use Rattle.comparing.proofs.compare.Given as goal

abbrev pub invariant-loop-a : goal.invariant-loop-a
invariant-loop-a l = (c : Chip) (g : Agreed c l.one l.two) → Going c l.one l.two g l.initial.out l.initial.end l.end l.out l.a l.b

abbrev pub decreases-loop-a : goal.decreases-loop-a
decreases-loop-a l = (length l.one - l.a) + (length l.two - l.b)

-- both checks have accepted
