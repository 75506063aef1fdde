-- The place that `index_of` answers is `pin_index`'s, by the branch, and below 32 by the table's law.
-- Assumes nothing.
use Prim.Native.Nat.{◌+◌, ◌*◌, ◌/◌, ◌%◌}
use native.Mathlib.Omega.{arith}
use mathlib.Core.Path.{◌≡◌, refl}
use mathlib.Core.Bool.{◌&&◌}
use lib.Dec.{ltb}
use Rattle.pinsets.specs.Sets.{pin_index, pick}
use Rattle.pinsets.proofs.Table.{picked, picked_not}
use Rattle.pinsets.proofs.Rows.{index_small}
use Rattle.pinsets.proofs.index_of.Goals as goal
use Rattle.pinsets.proofs.index_of.Goals.{then-b, else-b}

pub returns : goal.returns
unfolding pin_index
returns c =
    let b = c.args.b in
    let t = ltb (b % 16) 8 && ltb b 49 in
    let d = c.if-b.c in
    let f : d ≡ pick t b 55 =
    elim c.if-b.branch [ then-b w ↦ picked t b 55 w.if-b.true w.c-is | else-b w ↦ picked_not t b 55 w.if-b.false w.c-is ] in
    let r : d / 16 * 8 + d % 8 ≡ pin_index b = rw f refl in
    (r, rw r (index_small b (omega arith)))
