-- `walk` meets its contract: some elements are taken, the state and the flags track them, and the loop is where the pass is.
-- Assumes nothing.
use Prim.Native.Nat.{◌-◌, ◌≤◌}
use mathlib.Core.Path.{◌≡◌}
use mathlib.Core.List.{List}
use lib.ListN.{length}
use Rattle.format.specs.Slots.{Bytes}
use Rattle.format.specs.Records.{Record}
use Rattle.format.specs.Layout.{place_after}
use Rattle.format.specs.declared.records.Description.{Description}
use Rattle.pass.specs.Tracks.{flags_of, Same, Low, Tracks}
use Rattle.pass.proofs.Walking.{Onward}
use Rattle.pass.proofs.walk.Given as goal

abbrev pub invariant-loop-at : goal.invariant-loop-at
invariant-loop-at l =
    (l.at ≤ length l.t)
    × Low l.s
    × Same l.initial.marks l.marks
    × ((d : Description) (before : List Record) → Bytes l.t → l.base ≡ place_after before → Tracks d l.initial.s (flags_of l.initial.marks) before
    → Onward l.settings d l.t l.base before l.s (flags_of l.marks) l.at)

abbrev pub decreases-loop-at : goal.decreases-loop-at
decreases-loop-at l = length l.t - l.at
