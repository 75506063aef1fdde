-- `new_length` meets its contract: so far, and what is left, are the whole.
-- Assumes nothing.
use Prim.Native.Nat.{◌+◌, ◌*◌, ◌≤◌}
use Rattle.mending.proofs.Listing.{Summing}
use Rattle.mending.proofs.new_length.Given as goal

abbrev pub invariant-loop-held : goal.invariant-loop-held
invariant-loop-held l = (l.end ≤ 16 + 4096 * l.held-index) × Summing l.t l.kept l.held-index l.end
