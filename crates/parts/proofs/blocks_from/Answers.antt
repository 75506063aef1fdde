-- `blocks_from` meets its contract: what is left to pass is the invariant, and each turn passes one block.
-- Assumes nothing.
use mathlib.Core.Path.{◌∙◌}
use Rattle.std.proofs.Common.{rules}
use Prim.Native.Nat.{◌-◌}
use Rattle.parts.proofs.Reading.{none_left, turn}
use Rattle.parts.proofs.blocks_from.Goals as goal

pub returns-then-is_empty : goal.returns-then-is_empty
returns-then-is_empty c =
    let l = c.loop in
    none_left l.r.now (c.args.j - l.counter) (search rules) ∙ l.invariant

pub loop-preserved : goal.loop-preserved
loop-preserved c =
    let l = c.loop in
    let s = c.past in
    turn l.r.now s.result.now c.after_list-r.result.now c.args.j l.counter c.loop-test.true s.ensures
    c.after_list-r.ensures
    ∙ l.invariant
