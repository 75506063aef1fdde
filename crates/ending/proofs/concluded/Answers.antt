-- `concluded` meets its contract: 13, 14, 15 or accepted, by what was gathered.
-- Assumes nothing.
use native.Mathlib.Omega.{arith}
use mathlib.Core.Path.{refl}
use borrow.Author.Tests.{not-true, not-false}
use Rattle.ending.proofs.Over.{over_13, over_14_description, over_14, over_15, over_0}
use Rattle.ending.proofs.concluded.Goals as goal

pub returns-then-z-ne0 : goal.returns-then-z-ne0
returns-then-z-ne0 c =
    rw c.by.ensures
    (over_13 _ _ _ _ _ _ _ c.lacking-z.ensures c.if-z-ne0.true refl)

pub returns-then-not-seen-i : goal.returns-then-not-seen-i
returns-then-not-seen-i c =
    rw c.by-then-not-seen-i.ensures
    (over_14_description _ _ _ _ _ _ _ c.lacking-z.ensures c.if-z-ne0.false _ (c.from-i.ensures, omega arith)
    (not-true _ c.if-not-seen-i.true-raw) refl)

pub returns-then-t-ne0 : goal.returns-then-t-ne0
returns-then-t-ne0 c =
    rw c.by-then-t-ne0.ensures
    (over_14 _ _ _ _ _ _ _ c.lacking-z.ensures c.if-z-ne0.false _ (c.from-i.ensures, omega arith) (not-false _ c.if-not-seen-i.false-raw) _
    c.lacking-t.ensures c.if-t-ne0.true refl)

pub returns-then-held-ne65536 : goal.returns-then-held-ne65536
returns-then-held-ne65536 c =
    rw c.by-then-held-ne65536.ensures
    (over_15 _ _ _ _ _ _ _ c.lacking-z.ensures c.if-z-ne0.false _ (c.from-i.ensures, omega arith) (not-false _ c.if-not-seen-i.false-raw) _
    c.lacking-t.ensures c.if-t-ne0.false c.if-held-ne65536.true refl)

pub returns : goal.returns
returns c =
    over_0 _ _ _ _ _ _ _ c.lacking-z.ensures c.if-z-ne0.false _ (c.from-i.ensures, omega arith) (not-false _ c.if-not-seen-i.false-raw) _
    c.lacking-t.ensures c.if-t-ne0.false c.if-held-ne65536.false refl
