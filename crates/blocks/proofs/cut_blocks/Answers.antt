-- `cut_blocks` meets its contract. The loop's invariant: what is left of the steps leads from here to where all of them lead.
-- Assumes nothing.
use Prim.Native.Nat.{◌-◌}
use native.Mathlib.Omega.{arith}
use mathlib.Core.Path.{◌≡◌, refl, sym, ◌∙◌}
use mathlib.Core.Bool.{true}
use borrow.Author.Rules.{rules}
use Rattle.blocks.proofs.Stepping.{stays}
use Rattle.blocks.proofs.Stepping.{turn}
use Rattle.blocks.proofs.cut_blocks.Goals as goal

pub returns-then-p-lead : goal.returns-then-p-lead
returns-then-p-lead c =
    let a = c.args in
    (sym (stays a.lead a.p.now a.most a.lead true c.if-p-lead.true), omega (arith, c.requires))

pub loop-init : goal.loop-init
loop-init c =
    let m = c.args.most in
    let e : m - 0 ≡ m = omega arith in
    (rw e refl, omega arith)

pub past_block-c-requires : goal.past_block-c-requires
past_block-c-requires c = (search rules, omega arith, omega arith)

pub loop-preserved : goal.loop-preserved
loop-preserved c =
    let l = c.loop in
    let a = c.args in
    let e = c.past_block-c.ensures in
    let h = c.loop-test.true in
    (sym (turn a.lead a.p.now a.most l.counter l.c _ h e.0) ∙ l.invariant.0, omega (arith, e.1))

pub returns : goal.returns
returns c =
    let l = c.loop in
    let m = c.args.most in
    let e : m - l.counter ≡ 0 = omega (arith, c.loop-test.false) in
    (rw e at l.invariant.0, omega arith)
