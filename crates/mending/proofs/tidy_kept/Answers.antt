-- `tidy_kept` meets its contract: what it has passed is written as its records are, the rest stands as it did.
-- Assumes nothing.
use native.Mathlib.Omega.{arith}
use mathlib.Core.Path.{refl}
use Rattle.mending.proofs.Laying.{size_there, inside}
use Rattle.mending.proofs.Listing.{entry_is, place_is, keeps_at, sum_on}
use Rattle.mending.proofs.Tidying.{tidy_begun, tidy_room, tidy_on, tidy_ends}
use Rattle.mending.proofs.tidy_kept.Goals as goal

pub loop-held-init : goal.loop-held-init
loop-held-init c = (refl, omega arith, λ chip ks all. refl, λ chip ks x y all l e. tidy_begun _ _ ks x y _ l e)

pub bounds-t-from : goal.bounds-t-from
bounds-t-from c =
    let e = place_is _ _ c.loop-held-test.true _ c.from-from.ensures in
    omega (arith, e, inside _ _ _ _ (keeps_at _ _ _ _ c.requires.list.keeps _ c.loop-held-test.true))

pub tidy-requires : goal.tidy-requires
tidy-requires c =
    let p = c.requires.list in
    let r =
    tidy_room p.c c.args.t.now c.args.kept.now p.ks p.keeps c.loop-held.held-index c.loop-held.end
    c.loop-held-test.true c.loop-held.invariant.2 in
    let e = place_is _ _ c.loop-held-test.true _ c.from-from.ensures in (
      rw e (omega (arith, r.0, c.requires.room, c.loop-held.invariant.0)),
      omega (arith, r.1, c.requires.room, c.loop-held.invariant.0),
    )

pub length_at-end-requires : goal.length_at-end-requires
length_at-end-requires c =
    let e = place_is _ _ c.loop-held-test.true _ c.from-from.ensures in
    omega (arith, e, inside _ _ _ _ (keeps_at _ _ _ _ c.requires.list.keeps _ c.loop-held-test.true))

pub overflow_add-end : goal.overflow_add-end
overflow_add-end c =
    let p = c.requires.list in
    let k = keeps_at _ _ _ _ p.keeps _ c.loop-held-test.true in
    let e = place_is _ _ c.loop-held-test.true _ c.from-from.ensures in
    omega (
      arith,
      rw e at c.length_at-end.ensures,
      size_there _ _ _ _ k,
      inside _ _ _ _ k,
      p.top,
      p.few,
      c.loop-held-test.true,
      c.loop-held.invariant.1,
    )

pub loop-held-preserved : goal.loop-held-preserved
loop-held-preserved c =
    let i = c.loop-held.invariant in
    let p = c.requires.list in
    let t = c.loop-held-test.true in
    let e = place_is _ _ t _ c.from-from.ensures in
    let k = keeps_at _ _ _ _ p.keeps _ t in (
      omega (arith, c.out-1.given, i.0),
      omega (arith, rw e at c.length_at-end.ensures, size_there _ _ _ _ k, inside _ _ _ _ k, p.top, i.1),
      sum_on _ _ _ _ _ t (rw e at c.length_at-end.ensures) (λ chip x h. size_there chip _ _ x h) i.2,
      λ chip ks x y all l q.
          tidy_on chip _ _ ks all x y _ _ _ (i.3 chip ks x y all l q) t _ _ (rw (e, entry_is _ _ t _) at c.tidy.ensures)
          (rw e at c.length_at-end.ensures),
    )

pub returns : goal.returns
returns c =
    λ chip ks x y all l e.
    tidy_ends chip _ _ ks all x y _ _ _ (c.loop-held.invariant.3 chip ks x y all l e) c.loop-held-test.false
