-- `read_speed_blocks` meets its contract. The loop's invariant: it stands on a block, and the cut leads from `end` to where all of
-- it leads. Assumes nothing.
use Prim.Native.Nat.{◌+◌, ◌*◌, ◌-◌, ◌≤◌}
use mathlib.Core.Path.{◌≡◌}
use mathlib.Core.Bool.{true}
use Rattle.blocks.specs.Cutting.{cut, cut_from, cut_of}
use Rattle.blocks.proofs.Standing.{Stands}
use Rattle.blocks.proofs.read_speed_blocks.Given as goal

abbrev pub invariant-loop : goal.invariant-loop
invariant-loop l =
    (cut_from (6 - l.counter) 1 l.p (cut l.end true) ≡ cut_of 6 1 l.p) × Stands l.p l.at l.end × (l.at ≤ 1 + 1022 * l.counter) × (l.end ≤ 1 + 1022 * l.counter)
