-- `cut_blocks` meets its contract. The loop's invariant: what is left of the steps leads from here to where all of them lead.
-- Assumes nothing.
use Prim.Native.Nat.{◌+◌, ◌*◌, ◌-◌, ◌≤◌}
use mathlib.Core.Path.{◌≡◌}
use Rattle.blocks.specs.Cutting.{cut_from}
use Rattle.blocks.proofs.cut_blocks.Given as goal

abbrev pub invariant-loop : goal.invariant-loop
invariant-loop l =
    (cut_from (l.most - l.counter) l.lead l.p l.c ≡ cut_from l.most l.lead l.p l.initial.c) × (l.c.at ≤ l.lead + 1022 * l.counter)
