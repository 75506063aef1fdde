-- `put_on_chip` meets its contract: nothing where the chip lacks the pin, else its line.
-- Assumes nothing.
use native.Mathlib.Omega.{arith}
use mathlib.Core.Path.{sym, ◌∙◌}
use borrow.Author.Tests.{not-true, not-false}
use Rattle.pinlines.proofs.Lining.{sized, put_there, put_nothing}
use Rattle.pinlines.proofs.put_on_chip.Goals as goal

pub returns-then-not-allowed : goal.returns-then-not-allowed
returns-then-not-allowed c =
    let s = c.args in
    put_nothing s.chip s.pin s.n s.out.now s.at (sym c.allowed.ensures ∙ not-true _ c.if-not-allowed.true-raw)

pub slice_bounds-put-end : goal.slice_bounds-put-end
slice_bounds-put-end c = sized c.put_line-length.ensures.0

pub put-requires : goal.put-requires
put-requires c =
    omega (arith, sized c.put_line-length.ensures.0, c.put_line-length.ensures.1, c.requires)

pub returns : goal.returns
returns c =
    let s = c.args in
    let on = sym c.allowed.ensures ∙ not-false _ c.if-not-allowed.false-raw in
    put_there s.chip s.pin s.n s.out.now s.at _ _ _ on c.put_line-length.ensures c.put.ensures
