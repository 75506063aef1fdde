-- `placed_step` meets its contract: its fault, 10 of the fan list, or one element more.
-- Assumes nothing.
use native.Mathlib.Omega.{arith}
use mathlib.Core.Path.{refl}
use borrow.Author.Tests.{not-true, not-false}
use Rattle.format.proofs.Refusals.{handed}
use Rattle.pass.proofs.Stepped.{low_kept}
use Rattle.pass.proofs.Taking.{placed_fault, placed_late, placed_good}
use Rattle.pass.proofs.placed_step.Goals as goal

pub returns-in_err-f : goal.returns-in_err-f
returns-in_err-f g c =
    let e = c.in_err-f.field-0.0 in
    rw (handed _ e c.from_residual.ensures.1, c.in_err-f.was)
    (placed_fault _ _ (λ i. omega (arith, c.type_inv.b i)) _ _ _ _ _
    (low_kept _ _ (omega arith) (omega arith) refl) (g.met.E.Stops.above e) refl refl)

pub returns-then-not-follows : goal.returns-then-not-follows
returns-then-not-follows g c =
    rw c.in_ok-f.was
    (placed_late _ _ (λ i. omega (arith, c.type_inv.b i)) _ _ _ _ _
    (low_kept _ _ (omega (arith, c.requires.0.0)) c.requires.0.1 refl)
    refl c.follows.ensures (not-true _ c.if-not-follows.true-raw) c.by.ensures refl)

pub bounds-b-4 : goal.bounds-b-4
bounds-b-4 g c = let l = rw c.in_ok-f.was at c.requires.2 in omega (arith, l refl)

pub bounds-b-0 : goal.bounds-b-0
bounds-b-0 g c = let l = rw c.in_ok-f.was at c.requires.2 in omega (arith, l refl)

pub returns : goal.returns
returns g c =
    rw c.in_ok-f.was
    (placed_good _ _ (λ i. omega (arith, c.type_inv.b i)) _ _ _ _ _
    (record { most = omega (arith, c.requires.0.0); few = c.requires.0.1 }) refl
    c.follows.ensures (not-false _ c.if-not-follows.false-raw) c.requires.1
    c.from-z.ensures c.from-t.ensures refl refl refl refl c.claim.ensures c.last_of.ensures refl refl)
