-- `blocks_from` meets its contract: what is left to pass is the invariant, and each turn passes one block.
-- Assumes nothing.
use Prim.Native.Nat.{◌-◌}
use mathlib.Core.Path.{◌≡◌}
use Rattle.parts.specs.Inside.{blocks_from}
use Rattle.parts.proofs.blocks_from.Given as goal

abbrev pub invariant-loop : goal.invariant-loop
invariant-loop l = blocks_from l.r (l.j - l.counter) ≡ blocks_from l.part l.j
