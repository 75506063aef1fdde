-- `walk` meets its contract. The loop's invariant: good lines so far, and their bytes kept.
-- Assumes nothing.
use Prim.Native.Nat.{◌-◌}
use mathlib.Core.Path.{◌≡◌}
use lib.ListN.{length}
use Rattle.fromhex.specs.Reading.{Midway}
use Rattle.fromhex.proofs.walk.Given as goal

abbrev pub invariant-loop-n : goal.invariant-loop-n
invariant-loop-n l =
    Midway l.text l.at l.lines l.total l.table × (length l.into ≡ 255) × (length l.table ≡ length l.initial.table)

abbrev pub decreases-loop-n : goal.decreases-loop-n
decreases-loop-n l = length l.text - l.at
