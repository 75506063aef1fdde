-- `text_judged` meets its contract: its own fault, a number that comes a second time, or one element more.
-- Assumes nothing.
use native.Mathlib.Omega.{arith}
use mathlib.Core.Path.{refl, ◌∙◌}
use Rattle.format.proofs.Refusals.{handed}
use Rattle.pass.proofs.Stepped.{low_kept, own_fault_lem}
use Rattle.pass.proofs.Taking.{text_fault, text_good}
use Rattle.pass.proofs.text_judged.Goals as goal

pub returns-in_err-own : goal.returns-in_err-own
returns-in_err-own g c =
    let e = c.in_err-own.field-0.0 in
    rw (handed _ e c.from_residual.ensures.1, c.in_err-own.was) (
    record {
      low = low_kept _ _ (omega arith) (omega arith) refl;
      steps = λ σ q small i n at zs zu su. own_fault_lem σ _ at _ _ _ _ i (g.met.E.Stops.above e) refl refl refl;
    })

pub returns-then-ss-t : goal.returns-then-ss-t
returns-then-ss-t g c =
    rw c.in_ok-own.was (
    record {
      low = low_kept _ _ (omega arith) (omega arith) refl;
      steps =
          λ σ p small e n at zs zu su.
          text_fault σ p small at _ zs _ zu su _ e refl (c.from-t.ensures ∙ n) c.if-ss-t.true c.by.ensures refl;
    })

pub returns : goal.returns
returns g c =
    rw c.in_ok-own.was (
    record {
      low = record { most = omega arith; few = omega arith };
      steps =
          λ σ p small e n at zs zu su.
          text_good σ p small at _ zs _ zu su _ e refl (c.from-t.ensures ∙ n)
          c.if-ss-t.false refl refl refl refl refl refl;
    })
