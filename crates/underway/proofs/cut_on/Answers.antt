-- `cut_on` meets its contract, by whether a block has begun.
-- Assumes nothing.
use native.Mathlib.Omega.{arith}
use mathlib.Core.Path.{refl}
use lib.ListN.{length-append}
use Rattle.underway.proofs.Block.{blocks_grow}
use Rattle.underway.proofs.cut_on.Goals as goal

pub returns-then-len-le12 : goal.returns-then-len-le12
returns-then-len-le12 c =
    let a = c.args in
    record {
      long = c.so_many.ensures.0;
      low = omega (arith, c.so_many.ensures.1);
      on = λ v e h l. absurd (omega (arith, e, l, c.if-len-le12.true, length-append v a.p.now));
    }

pub blocks_on-b-requires : goal.blocks_on-b-requires
blocks_on-b-requires c =
    let p = c.requires in
    let l = c.if-len-le12.false in
    (p.0, p.1, c.blocks_from.ensures.low p.0 p.2, omega arith, p.3)

pub returns : goal.returns
returns c =
    record {
      long = refl;
      low = c.blocks_on-b.ensures.low;
      on =
          λ v e h l.
          blocks_grow _ _ _ _ _ _ c.requires.0 c.blocks_from.ensures
          c.blocks_on-b.ensures c.mark_of.ensures v e h;
    }
