-- `pairs_blocks` meets its contract by the law of the cut: by whether the last block begins before the end.
-- Assumes nothing.
use native.Mathlib.Omega.{arith}
use mathlib.Core.Path.{refl, ◌∙◌, ap}
use lib.Dec.{eqb}
use lib.ListN.{length}
use Rattle.blocks.specs.declared.Cut.{Cut}
use Rattle.blocks.proofs.EachKind.{pairs_begun, pairs_short}
use Rattle.blocks.proofs.pairs_blocks.Goals as goal

pub past_block-requires : goal.past_block-requires
past_block-requires c = (omega arith, omega (arith, c.if-c-p.true), omega (arith, c.cut_blocks-c.ensures.1))

pub returns-then-c-p : goal.returns-then-c-p
returns-then-c-p c =
    let p = c.args.p.now in
    let k = c.cut_blocks-c in (
      ap (λ (d : Cut). eqb d.at (length p)) c.past_block.ensures.0
          ∙ pairs_begun c.args.blocks p k.result c.requires.0 k.ensures.0 c.if-c-p.true,
      refl,
    )

pub returns-else-c-p : goal.returns-else-c-p
returns-else-c-p c =
    let k = c.cut_blocks-c in
    (pairs_short c.args.blocks c.args.p.now k.result c.requires.0 k.ensures.0 c.if-c-p.false, refl)
