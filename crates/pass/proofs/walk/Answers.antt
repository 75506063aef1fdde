-- `walk` meets its contract: some elements are taken, the state and the flags track them, and the loop is where the pass is.
-- Assumes nothing.
use native.Mathlib.Omega.{arith}
use mathlib.Core.Path.{refl}
use Rattle.format.proofs.Refusals.{rule_above}
use Rattle.pass.proofs.Walking.{begin, go_on, stopped, cut_short, finish}
use Rattle.pass.proofs.walk.Goals as goal

pub loop-at-init : goal.loop-at-init
loop-at-init c = (omega arith, c.requires.1, record { zones = refl; strings = refl; zone_uses = refl; string_uses = refl }, λ d before small e k. begin _ _ _ _ _ _ _ e k)

pub overflow_add-at : goal.overflow_add-at
overflow_add-at c = omega (arith, c.loop-at.invariant.0, c.requires.0)

pub one_step-requires : goal.one_step-requires
one_step-requires c =
    (omega (arith, c.loop-at-test.true), c.requires.0, c.loop-at.invariant.1)

pub overflow_add-result : goal.overflow_add-result
overflow_add-result c =
    omega (arith, c.loop-at.invariant.0, c.requires.0)

pub returns-in-Err-clause-walks : goal.returns-in-Err-clause-walks
returns-in-Err-clause-walks c =
    let i = c.loop-at.invariant in
    let above = rule_above c.in-Err.rule in
    record {
      from = omega arith;
      to = omega (arith, i.0);
      low = c.in-Err.ensures.moves.low;
      walks =
          λ e before small p k.
          stopped _ _ _ _ _ _ _ _ (i.3 e before small p k) small _ _
          (omega (arith, c.loop-at-test.true)) c.in-Err.ensures.moves
          (λ n. omega (arith, above, n)) _ refl refl refl;
    }

pub overflow_add-at-in-Ok : goal.overflow_add-at-in-Ok
overflow_add-at-in-Ok c =
    let g = c.in-Ok.ensures.moves.fits refl in
    omega (arith, g.1, c.requires.0)

pub loop-at-smaller : goal.loop-at-smaller
loop-at-smaller c =
    let g = c.in-Ok.ensures.moves.fits refl in
    omega (arith, g.0, g.1)

pub loop-at-preserved : goal.loop-at-preserved
loop-at-preserved c =
    let i = c.loop-at.invariant in
    let g = c.in-Ok.ensures.moves.fits refl in (
      g.1,
      c.in-Ok.ensures.moves.low,
      search (i.2, c.in-Ok.ensures.same_arrays),
      λ e before small p k.
          go_on _ _ _ _ _ _ _ _ (i.3 e before small p k) small _ _
          (omega (arith, c.loop-at-test.true)) c.in-Ok.ensures.moves refl,
    )

pub overflow_add-result-then-at-t : goal.overflow_add-result-then-at-t
overflow_add-result-then-at-t c = omega (arith, c.loop-at.invariant.0, c.requires.0)

pub returns-then-at-t-clause-walks : goal.returns-then-at-t-clause-walks
returns-then-at-t-clause-walks c =
    let i = c.loop-at.invariant in
    record {
      from = omega arith;
      to = omega (arith, i.0);
      low = i.1;
      walks = λ e before small p k. cut_short _ _ _ _ _ _ _ _ (i.3 e before small p k) _ refl refl c.if-at-t.true
          (omega (arith, c.loop-at-test.false)) refl;
    }

pub overflow_add-result-2 : goal.overflow_add-result-2
overflow_add-result-2 c = omega (arith, c.loop-at.invariant.0, c.requires.0)

pub returns-clause-walks : goal.returns-clause-walks
returns-clause-walks c =
    let i = c.loop-at.invariant in
    record {
      from = omega arith;
      to = omega (arith, i.0);
      low = i.1;
      walks = λ e before small p k. finish _ _ _ _ _ _ _ _ (i.3 e before small p k) _ refl refl c.if-at-t.false refl;
    }
