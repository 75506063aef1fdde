-- `one_step` meets its contract: 6, the 97th, or what is taken there.
-- Assumes nothing.
use mathlib.Core.Path.{refl}
use native.Mathlib.Omega.{arith}
use Rattle.format.proofs.Refusals.{handed, rule_above}
use Rattle.pass.proofs.Stepped.{low_kept}
use Rattle.pass.proofs.Moving.{stated_at, unframed_small, unframed_long, framed_good, content_at, move_6, move_11, move_on}
use Rattle.pass.proofs.one_step.Goals as goal

pub returns-then-len-lt3-clause-moves : goal.returns-then-len-lt3-clause-moves
returns-then-len-lt3-clause-moves c =
    let a = c.args in
    let low = c.requires.2 in
    let e = stated_at a.t.now a.at c.from.ensures c.from-2.ensures in
    move_6 _ _ _ _ _ _ _ _ (low_kept _ _ low.most low.few refl) refl
    refl refl (unframed_small a.t.now a.at e c.if-len-lt3.true)

pub returns-then-left-len-clause-moves : goal.returns-then-left-len-clause-moves
returns-then-left-len-clause-moves c =
    let a = c.args in
    let low = c.requires.2 in
    let e = stated_at a.t.now a.at c.from.ensures c.from-2.ensures in
    move_6 _ _ _ _ _ _ _ _ (low_kept _ _ low.most low.few refl) refl
    refl refl (unframed_long a.t.now a.at e c.if-left-len.true)

pub returns-then-s-ge96-clause-moves : goal.returns-then-s-ge96-clause-moves
returns-then-s-ge96-clause-moves c =
    let a = c.args in
    let low = c.requires.2 in
    let e = stated_at a.t.now a.at c.from.ensures c.from-2.ensures in
    move_11 _ _ _ _ _ _ _ _ (low_kept _ _ low.most low.few refl) refl
    refl refl
    (framed_good a.t.now a.at e c.if-len-lt3.false c.if-left-len.false)
    c.if-s-ge96.true

pub returns-in_err-state-clause-moves : goal.returns-in_err-state-clause-moves
returns-in_err-state-clause-moves c =
    let a = c.args in
    let r = c.in_err-state.field-0.0 in
    let above = rule_above r in
    let e = stated_at a.t.now a.at c.from.ensures c.from-2.ensures in
    rw (handed _ r c.from_residual.ensures.1)
    (move_on _ _ _ _ _ _ _ _ _ refl (content_at _ _ e c.if-len-lt3.false) c.in_err-state.ensures.takes refl refl
    (λ n. absurd (omega (arith, above, n))) e
    c.if-len-lt3.false c.if-left-len.false (omega arith) c.if-s-ge96.false)

pub returns-clause-moves : goal.returns-clause-moves
returns-clause-moves c =
    let a = c.args in
    let e = stated_at a.t.now a.at c.from.ensures c.from-2.ensures in
    move_on _ _ _ _ _ _ _ _ _ refl (content_at _ _ e c.if-len-lt3.false) c.in_ok-state.ensures.takes refl refl (λ _. refl) e
    c.if-len-lt3.false c.if-left-len.false (omega arith) c.if-s-ge96.false
