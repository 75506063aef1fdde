-- `moved_kept` meets its contract: all bytes are there, or they are too many.
-- Assumes nothing.
use Prim.Native.Nat.{◌<◌}
use native.Mathlib.Omega.{arith}
use mathlib.Core.Path.{◌≡◌, sym, ◌∙◌}
use lib.ListN.{length, take}
use lib.Seq.{length-take-le}
use Rattle.hextext.specs.Moved.{refused}
use Rattle.fromhex.proofs.Walking.{kept_head, kept_whole}
use Rattle.fromhex.proofs.Ending.{long_unrevised, long_missized}
use Rattle.fromhex.proofs.moved_kept.Goals as goal

pub slice_bounds-moved-end : goal.slice_bounds-moved-end
slice_bounds-moved-end c = sym (length-take-le _ _ (omega arith))

pub returns-then-n-le4096 : goal.returns-then-n-le4096
returns-then-n-le4096 c =
    λ b e k.
    let args = c.args in
    let is : take args.n args.table.now ≡ b = rw e at (kept_whole (omega (arith, c.if-n-le4096.true)) k) in
    rw is at c.moved.ensures

pub returns-then-table-ne1 : goal.returns-then-table-ne1
returns-then-table-ne1 c =
    λ b e k.
    let h : 4096 < length b = omega (arith, c.if-n-le4096.false) in
    rw c.at.ensures (refused (long_unrevised _ b h (λ x. c.if-table-ne1.true (kept_head h k ∙ x))))

pub returns : goal.returns
returns c =
    λ b e k.
    let h : 4096 < length b = omega (arith, c.if-n-le4096.false) in
    rw c.at-2.ensures (refused (long_missized _ b h (sym (kept_head h k) ∙ c.if-table-ne1.false)))
