-- `pass_on` meets its contract: turn by turn the rest of the piece leads where the whole piece leads.
-- Assumes nothing.
use Prim.Native.Nat.{ℕ, ◌-◌}
use mathlib.Core.List.{List}
use lib.ListN.{length}
use Rattle.format.specs.Slots.{Bytes}
use Rattle.format.specs.Records.{Record}
use Rattle.format.specs.declared.records.Description.{Description}
use Rattle.pass.specs.Tracks.{flags_of, Same}
use Rattle.stream.specs.Running.{going}
use Rattle.naming.specs.Naming.{SamePlaces}
use Rattle.closing.specs.Ways.{On}
use Rattle.passing.specs.Going.{Onto, Turned}
use Rattle.passing.proofs.pass_on.Given as goal

abbrev pub invariant-loop-way : goal.invariant-loop-way
invariant-loop-way l =
    Onto l.p (record { taken = l.from; way = l.way })
    × ((d : Description) (before : List Record) (at : ℕ) (u : List ℕ)
    → Bytes l.p
    → On d l.initial.way l.initial.head (flags_of l.initial.marks) l.initial.places.zones.now l.initial.places.strings.now before at u
    → Turned l.settings d (going before at u) l.p (record { taken = l.from; way = l.way }) l.head (flags_of l.marks) l.places.zones.now l.places.strings.now)
    × Same l.initial.marks l.marks
    × SamePlaces l.initial.places l.places

abbrev pub decreases-loop-way : goal.decreases-loop-way
decreases-loop-way l = length l.p - l.from
