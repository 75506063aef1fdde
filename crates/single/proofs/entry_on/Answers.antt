-- `entry_on` meets its contract: before the first ENTRIES byte, the first, and by whether it is another.
-- Assumes nothing.
use native.Mathlib.Omega.{arith}
use mathlib.Core.Path.{refl}
use Rattle.single.proofs.Adding.{cut_before, cut_beside, cut_full, cut_first, cut_next}
use Rattle.single.proofs.entry_on.Goals as goal

pub returns-then-u-lt12 : goal.returns-then-u-lt12
returns-then-u-lt12 c =
    let e = c.longer.ensures in
    record {
      on = λ f. cut_before _ _ _ _ _ c.requires.0 e.0 (omega (arith, e.1, f.cut))
          c.if-u-lt12.true;
    }

pub returns-then-u-eq12 : goal.returns-then-u-eq12
returns-then-u-eq12 c =
    let p = c.requires in
    let e = c.entered.ensures in
    record {
      on =
          λ f.
          cut_first _ _ _ _ _ p.0 e.0 c.enter.result e.1 (omega (arith, c.enter.ensures.1, p.0)) e.3 _ refl refl
          c.enter.ensures.0 e.2 p.1 c.if-u-eq12.true;
    }

pub returns-then-u-lead : goal.returns-then-u-lead
returns-then-u-lead c =
    let l = c.if-u-eq12.false in
    let m = c.if-u-lt12.false in
    let e = c.longer-then-u-lead.ensures in
    record { on = λ f. cut_beside _ _ _ _ _ c.requires.0 e.0 e.1 e.2 e.3 f.cut (omega arith) c.if-u-lead.true }

pub returns-then-most-u : goal.returns-then-most-u
returns-then-most-u c =
    let l = c.if-u-eq12.false in
    let m = c.if-u-lt12.false in
    let e = c.longer-then-most-u.ensures in
    record { on = λ f. cut_full _ _ _ _ _ c.requires.0 e.0 e.1 e.2 e.3 f.cut (omega arith) c.if-most-u.true }

pub returns : goal.returns
returns c =
    let p = c.requires in
    let l = c.if-u-eq12.false in
    let m = c.if-u-lt12.false in
    let q = c.if-u-lead.false in
    let e = c.entered-2.ensures in
    record {
      on =
          λ f.
          cut_next _ _ _ _ _ p.0 e.0 c.enter-2.result e.1 (omega (arith, c.enter-2.ensures.1, f.cut, f.room, q, p.0))
          e.3 _ refl refl c.enter-2.ensures.0 e.2 c.if-most-u.false (omega arith) q;
    }
