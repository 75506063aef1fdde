-- `resume` meets its contract: its length is under 3, it waits, or it is whole.
-- Assumes nothing.
use native.Mathlib.Omega.{arith}
use mathlib.Core.Path.{◌≡◌, refl, ap}
use Prim.Native.Nat.{◌-◌}
use lib.Seq.{length-take-le}
use Rattle.underway.specs.declared.Under.{Under}
use Rattle.passing.proofs.Resuming.{resume_low, resume_waits, resume_whole}
use Rattle.passing.proofs.resume.Goals as goal

pub returns-then-mine-lt3-clause-turns : goal.returns-then-mine-lt3-clause-turns
returns-then-mine-lt3-clause-turns c =
    let y = c.due-mine.ensures in
    let p = c.requires in
    let b = c.broken.ensures in
    record {
      onto = record {
        low = rw b.4 p.2;
        cut = omega (arith, b.3);
        within = omega arith;
        ends = λ _. omega
            (arith, b.1, b.2, p.0);
      };
      some = λ m. m;
      goes =
          λ d before v m small k w e g.
          resume_low _ d before _ v _ _ _ _ _ _ _ m small k w e g _ _ _ c.if-mine-lt3.true (y.shares v k.held k.long w m)
          b.0 b.1;
    }

pub returns-then-u-mine-clause-turns : goal.returns-then-u-mine-clause-turns
returns-then-u-mine-clause-turns c =
    let y = c.due-mine in
    let b = c.going.ensures in
    let n = y.result.take in
    let z : n - 0 ≡ n = omega arith in
    let l = length-take-le (n - 0) c.args.p.now (omega (arith, y.ensures.within)) in
    record {
      onto =
          record {
            low = rw b.3 c.requires.2;
            cut = rw b.2 c.more-u.ensures.low;
            within = y.ensures.within;
            ends = λ _. omega (arith, b.1, ap (λ (u : Under). u.len) b.2, c.more-u.ensures.long, l, y.ensures.within, c.requires.0);
          };
      some = y.ensures.some;
      goes =
          λ d before v m small k w e g.
          resume_waits _ d before _ v _ _ _ _ _ _ _ m small k w e g _ _ _ _ _ (n - 0) (y.ensures.shares v k.held k.long w m)
          c.more-u.ensures z c.if-mine-lt3.false c.if-u-mine.true refl b.0 b.1 b.2 b.3;
    }

pub returns-clause-turns : goal.returns-clause-turns
returns-clause-turns c =
    let y = c.due-mine in
    let n = y.result.take in
    let z : n - 0 ≡ n = omega arith in
    let l = length-take-le (n - 0) c.args.p.now (omega (arith, y.ensures.within)) in
    let a = c.close.ensures.closes.plain in
    record {
      onto =
          record {
            low = a.low;
            cut = omega (arith, a.none_cut);
            within = y.ensures.within;
            ends = λ _. omega (arith, a.none_held, a.within, c.more-u.ensures.long, l, y.ensures.within, c.requires.0);
          };
      some = y.ensures.some;
      goes =
          λ d before v m small k w e g.
          resume_whole _ d before _ v _ _ _ _ _ _ _ m small k w e g _ _ _ _ _ _ _ _ (n - 0) (y.ensures.shares v k.held k.long w m)
          c.more-u.ensures z c.if-u-mine.false
          c.if-mine-lt3.false c.close.ensures.closes refl;
    }
