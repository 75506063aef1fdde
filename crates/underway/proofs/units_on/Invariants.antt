-- `units_on` meets its contract: what is left of the units ends where it ended.
-- Assumes nothing.
use Prim.Native.Nat.{ℕ}
use mathlib.Core.Path.{◌≡◌}
use mathlib.Core.List.{List, ◌++◌}
use lib.ListN.{length, drop}
use lib.Dec.{eqb}
use Rattle.format.specs.Slots.{Bytes}
use Rattle.underway.specs.Under.{left_from}
use Rattle.underway.proofs.units_on.Given as goal

abbrev pub invariant-loop-k : goal.invariant-loop-k
invariant-loop-k l =
    (v q : List ℕ) → l.had ≡ length v → Bytes (v ++ (l.p ++ q)) → left_from l.k l.good (eqb l.last 54) (drop 6 (v ++ (l.p ++ q)))
    ≡ left_from l.initial.k l.initial.good (eqb l.initial.last 54) (drop 6 (v ++ (l.p ++ q)))
