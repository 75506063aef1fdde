-- `close` meets its contract, by the identifier and the length.
-- Assumes nothing.
use Prim.Native.Nat.{◌-◌}
use native.Mathlib.Omega.{arith}
use mathlib.Core.Path.{◌≡◌, refl, ◌∙◌}
use mathlib.Core.Logic.{inl, inr}
use Rattle.closing.proofs.Closed.{first_kept, judged_as, plain_fixed, closed_11, closed_long, closed_fixed}
use Rattle.closing.proofs.close.Goals as goal

pub returns-then-s-ge96-clause-closes : goal.returns-then-s-ge96-clause-closes
returns-then-s-ge96-clause-closes c =
    let b = c.broken.ensures in
    let p = c.requires in
    record {
      plain = record { low = rw b.4 p.2; none_held = b.2; none_cut = b.3; within = omega (arith, b.1) };
      then = closed_11 _ _ _ _ _ _ _ _ _ c.if-s-ge96.true b.0 b.1;
    }

pub returns-then-id-eq12-clause-closes : goal.returns-then-id-eq12-clause-closes
returns-then-id-eq12-clause-closes c =
    record {
      plain = c.text.ensures.plain;
      then =
          λ d before v u whole p g.
          c.text.ensures.then _ d before v _ _ _ _ _ u whole (first_kept _ _ v u whole ∙ c.if-id-eq12.true) p g;
    }

pub returns-then-id-eq9-clause-closes : goal.returns-then-id-eq9-clause-closes
returns-then-id-eq9-clause-closes c =
    let t = c.if-id-eq9.true in
    record {
      plain = c.device.ensures.closes.plain;
      then =
          λ d before v u whole p g.
          let first = first_kept _ _ v u whole in
          c.device.ensures.closes.then _ d before v _ _ u whole first (inl t)
          (judged_as _ 9 _ _ _ t (c.controller.ensures.judged v u (first ∙ t))) p g;
    }

pub returns-then-id-eq10-clause-closes : goal.returns-then-id-eq10-clause-closes
returns-then-id-eq10-clause-closes c =
    let t = c.if-id-eq10.true in
    record {
      plain = c.device-then-id-eq10.ensures.closes.plain;
      then =
          λ d before v u whole p g.
          let first = first_kept _ _ v u whole in
          c.device-then-id-eq10.ensures.closes.then _ d before v _ _ u whole first (inr (inl t))
          (judged_as _ 10 _ _ _ t (c.tachometer.ensures.judged v u (first ∙ t))) p g;
    }

pub returns-then-id-eq13-clause-closes : goal.returns-then-id-eq13-clause-closes
returns-then-id-eq13-clause-closes c =
    let t = c.if-id-eq13.true in
    record {
      plain = c.device-then-id-eq13.ensures.closes.plain;
      then =
          λ d before v u whole p g.
          let first = first_kept _ _ v u whole in
          c.device-then-id-eq13.ensures.closes.then _ d before v _ _ u whole first (inr (inr t))
          (judged_as _ 13 _ _ _ t (c.external.ensures.judged v u (first ∙ t))) p g;
    }

pub returns-then-len-gt30-clause-closes : goal.returns-then-len-gt30-clause-closes
returns-then-len-gt30-clause-closes c =
    let b = c.broken-then-len-gt30.ensures in
    let p = c.requires in
    record {
      plain = record { low = rw b.4 p.2; none_held = b.2; none_cut = b.3; within = omega (arith, b.1) };
      then =
          closed_long _ _ _ _ _ _ _ _ _ refl c.if-s-ge96.false c.if-id-eq9.false c.if-id-eq10.false
          c.if-id-eq12.false c.if-id-eq13.false c.if-len-gt30.true
          c.too_long.ensures b.0 b.1;
    }

pub returns-clause-closes : goal.returns-clause-closes
returns-clause-closes c =
    let n = c.args.u.len in
    let z : n - 0 ≡ n = omega arith in
    record {
      plain = plain_fixed _ _ (n - 0) n _ z c.fixed.ensures.closes.plain;
      then = closed_fixed _ _ _ _ _ _ _ _ _ _ _ _ (n - 0) z c.if-len-gt30.false c.fixed.ensures.closes;
    }
