-- `well_formed` meets its contract. The loop's invariant: what is left of the units ends where the whole ends.
-- Assumes nothing.
use Prim.Native.Nat.{◌-◌, ◌*◌, ◌/◌, ◌≤◌}
use mathlib.Core.Path.{◌≡◌}
use mathlib.Core.Bool.{◌&&◌}
use lib.ListN.{length, drop}
use Rattle.format.specs.Utf16.{units, paired_after, well_formed}
use Rattle.rules.proofs.well_formed.Given as goal

abbrev pub invariant-loop-i : goal.invariant-loop-i
invariant-loop-i l =
    (l.count ≡ length l.text / 2) × (l.i ≤ l.count) × (l.good && paired_after l.high (units (drop (2 * l.i) l.text)) ≡ well_formed l.text)
