-- `lists_from` meets its contract: what is left to pass is the invariant, and each turn passes one block.
-- Assumes nothing.
use Prim.Native.Nat.{◌-◌}
use mathlib.Core.Path.{◌∙◌}
use lib.Seq.{drop-length}
use Rattle.parts.proofs.Reading.{no_more, list_turn}
use Rattle.parts.proofs.lists_from.Goals as goal

pub returns-then-blocks-w : goal.returns-then-blocks-w
returns-then-blocks-w c =
    let a = c.args in
    c.past.ensures ∙ drop-length a.part.now ∙ no_more a.blocks a.part.now a.w c.if-blocks-w.true

pub loop-preserved : goal.loop-preserved
loop-preserved c =
    let l = c.loop in
    let a = c.args in
    list_turn l.r.now c.after_list-r.result.now a.w l.counter (a.blocks - a.w) c.loop-test.true c.after_list-r.ensures
    ∙ l.invariant
