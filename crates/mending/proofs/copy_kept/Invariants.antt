-- `copy_kept` meets its contract: run by run, what stands in the buffer is the bytes of those before.
-- Assumes nothing.
use Prim.Native.Nat.{◌-◌}
use mathlib.Core.Path.{◌≡◌}
use lib.ListN.{length, take}
use Rattle.spelling.specs.Spelling.{Put}
use Rattle.mending.specs.Laid.{raws}
use Rattle.mending.proofs.copy_kept.Given as goal

abbrev pub invariant-loop-i : goal.invariant-loop-i
invariant-loop-i l = (length l.out ≡ length l.initial.out) × Put l.initial.out 16 (raws l.t (take l.i l.kept)) l.end l.out

abbrev pub decreases-loop-i : goal.decreases-loop-i
decreases-loop-i l = length l.kept - l.i
