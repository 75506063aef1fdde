-- `lists_from` meets its contract: what is left to pass is the invariant, and each turn passes one block.
-- Assumes nothing.
use Prim.Native.Nat.{◌+◌, ◌-◌}
use mathlib.Core.Path.{◌≡◌}
use Rattle.parts.specs.Inside.{lists_from}
use Rattle.parts.proofs.lists_from.Given as goal

abbrev pub invariant-loop : goal.invariant-loop
invariant-loop l = lists_from (l.w - l.counter + (l.blocks - l.w)) l.r (l.w - l.counter) ≡ lists_from l.blocks l.part l.w
