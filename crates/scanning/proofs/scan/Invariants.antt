-- `scan` meets its contract: what is left to do ends where the whole ends.
-- Assumes nothing.
use Prim.Native.Nat.{◌-◌, ◌≤◌}
use lib.ListN.{length}
use Rattle.pass.specs.Tracks.{flags_of, Same}
use Rattle.scanning.proofs.Scanning.{Scanning}
use Rattle.scanning.proofs.scan.Given as goal

abbrev pub invariant-loop-at : goal.invariant-loop-at
invariant-loop-at l =
    (l.at ≤ length l.t)
    × Scanning l.settings.chip l.t l.kept l.log (flags_of l.marks) l.n l.s l.end l.at
    × Same l.initial.marks l.marks

abbrev pub decreases-loop-at : goal.decreases-loop-at
decreases-loop-at l = length l.t - l.at
