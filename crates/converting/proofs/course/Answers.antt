-- `course` meets its contract: the points that the count comes after lead to its interval.
-- Assumes nothing.
use mathlib.Core.Path.{refl, sym, ◌∙◌, ap}
use Rattle.converting.specs.Outcomes.{tenths}
use Rattle.converting.specs.Conversions.{points}
use Rattle.converting.specs.Formula.{meant}
use Rattle.converting.proofs.Interval.{over_last, found, ready, met}
use Rattle.converting.proofs.Meant.{meant_tenths}
use Rattle.converting.proofs.course.Goals as goal

pub returns-then-after : goal.returns-then-after
unfolding meant
returns-then-after c = rw (sym c.after.ensures ∙ c.if-after.true)

pub returns-then-after-2 : goal.returns-then-after-2
unfolding meant
returns-then-after-2 c =
    let a = c.args in
    let first = sym c.after.ensures ∙ c.if-after.false in
    let last = sym c.after-2.ensures ∙ c.if-after-2.true in
    rw first (over_last a.up a.c (points a.p) refl c.requires first last)

pub step-t-requires : goal.step-t-requires
step-t-requires c =
    let first = sym c.after.ensures ∙ c.if-after.false in
    let last = sym c.after-2.ensures ∙ c.if-after-2.false in
    let up = c.args.up in
    let x = c.args.c in
    let ps = points c.args.p in
    let i = found up x ps refl c.requires first last c.passed.ensures.0 c.passed-2.ensures.0 c.passed-3.ensures.0 refl in
    ready up x ps refl _ i.left i.few c.requires i.next

pub returns : goal.returns
returns c =
    let first = sym c.after.ensures ∙ c.if-after.false in
    let last = sym c.after-2.ensures ∙ c.if-after-2.false in
    let up = c.args.up in
    let x = c.args.c in
    let ps = points c.args.p in
    let i = found up x ps refl c.requires first last c.passed.ensures.0 c.passed-2.ensures.0 c.passed-3.ensures.0 refl in
    rw first (meant_tenths _ c.step-t.ensures.1 ∙ ap tenths c.step-t.ensures.0 ∙ met up x ps refl _ i.left i.few i.next)
