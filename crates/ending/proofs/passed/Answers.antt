-- `passed` meets its contract: where the pass stopped, or what follows it.
-- Assumes nothing.
use mathlib.Core.Path.{refl}
use Rattle.ending.proofs.Answering.{passed_stop, passed_alone, passed_6, passed_over}
use Rattle.ending.proofs.passed.Goals as goal

pub returns-then-w-ne0 : goal.returns-then-w-ne0
returns-then-w-ne0 c = passed_stop _ _ _ _ _ _ _ c.if-w-ne0.true (rw c.byte_of.ensures refl)

pub returns-then-bare : goal.returns-then-bare
returns-then-bare c =
    passed_alone _ _ _ _ _ _ _ c.if-w-ne0.false c.if-bare.true c.alone.ensures

pub returns-then-u-ne0 : goal.returns-then-u-ne0
returns-then-u-ne0 c =
    rw c.by.ensures
    (passed_6 _ _ _ _ _ _ _ c.if-w-ne0.false c.if-bare.false c.if-u-ne0.true refl)

pub returns : goal.returns
returns c =
    passed_over _ _ _ _ _ _ _ c.if-w-ne0.false c.if-bare.false c.if-u-ne0.false c.concluded.ensures
