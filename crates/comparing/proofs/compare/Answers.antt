-- `compare` meets its contract: the descriptions' lines, and a pair of elements a turn. The loop's invariant is `Going`.
-- Assumes nothing.
use mathlib.Core.Path.{refl}
use native.Mathlib.Omega.{arith}
use Rattle.comparing.specs.Lines.{first_refused}
use Rattle.comparing.proofs.Going.{agreed, refused_so, second_refused_lem, going_begun, enough, x, y, there, there'}
use Rattle.comparing.proofs.Going.{space, turned, nearer, whole}
use Rattle.comparing.proofs.compare.Goals as goal

pub returns-in-Err : goal.returns-in-Err
returns-in-Err c = first_refused (refused_so _ _ c.archived.ensures c.in-Err.ensures)

pub returns-in-Err-check : goal.returns-in-Err-check
returns-in-Err-check c =
    second_refused_lem _ _ _ _ c.archived.ensures c.in_default.ensures refl
    (refused_so _ _ c.archived-2.ensures c.in-Err-check.ensures)

pub put_rows-end-requires : goal.put_rows-end-requires
put_rows-end-requires c =
    let g = agreed _ _ _ c.archived.ensures c.in_default.ensures refl c.archived-2.ensures c.in_default-check.ensures refl in
    (omega (arith, enough _ _ _ g, c.put_rows-arg-1.given), omega arith, omega arith, omega arith)

pub loop-a-init : goal.loop-a-init
loop-a-init c = λ k g. going_begun k _ _ g _ _

pub put_next-end-requires : goal.put_next-end-requires
put_next-end-requires c =
    let g = agreed _ _ _ c.archived.ensures c.in_default.ensures refl c.archived-2.ensures c.in_default-check.ensures refl in
    let w = c.loop-a.invariant _ g in (
      _,
      x _ _ _ g w,
      y _ _ _ g w,
      there _ _ _ g w,
      there' _ _ _ g w,
      w.low,
      w.low',
      omega (arith, space _ _ _ g w c.put_rows-end.ensures.ends, c.put_rows-end.ensures.long, c.put_next-arg-1.given),
    )

pub after-a-requires : goal.after-a-requires
after-a-requires c =
    let g = agreed _ _ _ c.archived.ensures c.in_default.ensures refl c.archived-2.ensures c.in_default-check.ensures refl in
    let w = c.loop-a.invariant _ g in
    (_, x _ _ _ g w, there _ _ _ g w)

pub after-b-requires : goal.after-b-requires
after-b-requires c =
    let g = agreed _ _ _ c.archived.ensures c.in_default.ensures refl c.archived-2.ensures c.in_default-check.ensures refl in
    let w = c.loop-a.invariant _ g in
    (_, y _ _ _ g w, there' _ _ _ g w)

pub loop-a-smaller : goal.loop-a-smaller
loop-a-smaller c =
    let g = agreed _ _ _ c.archived.ensures c.in_default.ensures refl c.archived-2.ensures c.in_default-check.ensures refl in
    let w = c.loop-a.invariant _ g in
    nearer _ _ _ g w c.loop-a-test.true (c.after-a.ensures _ (x _ _ _ g w) (there _ _ _ g w))
    (c.after-b.ensures _ (y _ _ _ g w) (there' _ _ _ g w))

pub loop-a-preserved : goal.loop-a-preserved
loop-a-preserved c =
    λ k g.
    let w = c.loop-a.invariant k g in
    turned k _ _ g w (c.put_next-end.ensures k (x k _ _ g w) (y k _ _ g w) (there k _ _ g w) (there' k _ _ g w))
    (c.after-a.ensures k (x k _ _ g w) (there k _ _ g w)) (c.after-b.ensures k (y k _ _ g w) (there' k _ _ g w))

pub returns : goal.returns
returns c =
    let g = agreed _ _ _ c.archived.ensures c.in_default.ensures refl c.archived-2.ensures c.in_default-check.ensures refl in
    whole _ _ _ g (c.loop-a.invariant _ g) c.loop-a-test.false c.put_rows-end.ensures
