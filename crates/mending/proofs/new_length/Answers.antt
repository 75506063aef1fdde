-- `new_length` meets its contract: so far, and what is left, are the whole.
-- Assumes nothing.
use native.Mathlib.Omega.{arith}
use mathlib.Core.Path.{refl}
use Rattle.mending.proofs.Laying.{size_there, inside}
use Rattle.mending.proofs.Listing.{place_is, keeps_at, sum_on, sum_ends}
use Rattle.mending.proofs.new_length.Goals as goal

pub loop-held-init : goal.loop-held-init
loop-held-init c = (omega arith, λ chip ks all. refl)

pub length_at-end-requires : goal.length_at-end-requires
length_at-end-requires c =
    let e = place_is _ _ c.loop-held-test.true _ c.from.ensures in
    omega (arith, e, inside _ _ _ _ (keeps_at _ _ _ _ c.requires.keeps _ c.loop-held-test.true))

pub overflow_add-end : goal.overflow_add-end
overflow_add-end c =
    let t = c.loop-held-test.true in
    let k = keeps_at _ _ _ _ c.requires.keeps _ t in
    let e = place_is _ _ t _ c.from.ensures in
    omega (
      arith,
      rw e at c.length_at-end.ensures,
      size_there _ _ _ _ k,
      inside _ _ _ _ k,
      c.requires.top,
      c.requires.few,
      t,
      c.loop-held.invariant.0,
    )

pub loop-held-preserved : goal.loop-held-preserved
loop-held-preserved c =
    let t = c.loop-held-test.true in
    let k = keeps_at _ _ _ _ c.requires.keeps _ t in
    let e = place_is _ _ t _ c.from.ensures in
    let i = c.loop-held.invariant in (
      omega (arith, rw e at c.length_at-end.ensures, size_there _ _ _ _ k, inside _ _ _ _ k, c.requires.top, i.0),
      sum_on _ _ _ _ _ t (rw e at c.length_at-end.ensures) (λ chip x h. size_there chip _ _ x h) i.1,
    )

pub returns : goal.returns
returns c = sum_ends _ _ _ _ c.loop-held-test.false c.loop-held.invariant.1
