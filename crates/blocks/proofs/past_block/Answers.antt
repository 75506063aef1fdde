-- `past_block` meets its contract: where there is a block more its ENTRIES byte is looked at, and else some byte.
-- Assumes nothing.
use native.Mathlib.Omega.{arith}
use mathlib.Core.Path.{◌∙◌}
use borrow.Author.Tests.{ltb-true}
use Rattle.blocks.proofs.Stepping.{looked}
use Rattle.blocks.proofs.past_block.Goals as goal
use Rattle.blocks.proofs.past_block.Goals.{then-more, else-more}

pub bounds-p-i : goal.bounds-p-i
bounds-p-i c =
    let a = c.args in
    elim c.if-more.branch [
      | then-more w ↦ omega (arith, w.i-is, w.if-more.true)
      | else-more w ↦ omega (arith, w.i-is)
    ]

pub returns : goal.returns
returns c =
    let e = c.enter.ensures in (
      e.0
          ∙ looked c.args.lead c.args.p.now _ c.if-more.i c.args.c
          (λ t. elim c.if-more.branch [ then-more w ↦ w.i-is | else-more w ↦ absurd (omega (arith, ltb-true _ _ t, w.if-more.false)) ]),
      e.1,
    )
