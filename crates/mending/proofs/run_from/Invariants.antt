-- `run_from` meets its contract: the run so far is the bytes of those that it has passed.
-- Assumes nothing.
use Prim.Native.Nat.{◌≤◌}
use lib.ListN.{length}
use Rattle.mending.specs.Laid.{place_at}
use Rattle.mending.proofs.Copying.{Running}
use Rattle.mending.proofs.run_from.Given as goal

abbrev pub invariant-loop-j : goal.invariant-loop-j
invariant-loop-j l = (place_at l.kept l.i ≤ l.to) × (l.to ≤ length l.t) × Running l.t l.kept l.i l.j l.to
