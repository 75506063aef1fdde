-- `rewrite` meets its contract. The loop's invariant: the records behind the place are appended to what start left.
-- Assumes nothing.
use native.Mathlib.Omega.{arith}
use mathlib.Core.Path.{refl}
use Rattle.reader.proofs.Asking.{long}
use Rattle.walking.proofs.Left.{verdict_divided, here}
use Rattle.walking.proofs.Stepping.{came, over}
use Rattle.rewriting.specs.Again.{refused}
use Rattle.rewriting.proofs.Run.{too_short, begun, turned, ran}
use Rattle.rewriting.proofs.rewrite.Goals as goal

pub returns-in_default : goal.returns-in_default
returns-in_default c = rw c.in_default.is (refused (rw c.in_default.is at c.check-answer.ensures))

pub returns-then-out-table : goal.returns-then-out-table
returns-then-out-table c = rw c.at.ensures (too_short _ _ _ (rw c.in-Ok.is at c.check-answer.ensures) c.if-out-table.true)

pub description-requires : goal.description-requires
description-requires c =
    omega (arith, long _ _ (rw c.in-Ok.is at c.check-answer.ensures))

pub of-at-items-requires : goal.of-at-items-requires
of-at-items-requires c = verdict_divided _ _ (rw c.in-Ok.is at c.check-answer.ensures)

pub loop-at-init : goal.loop-at-init
loop-at-init c =
    let o = c.of-at-items.ensures in
    let v = rw c.in-Ok.is at c.check-answer.ensures in
    rw (c.into_iter-at-iterator.ensures.into_iter_gives, o.0, o.1)
    (verdict_divided _ _ v, tt, refl, refl, begun _ _ _ v)

pub element_at-e-requires : goal.element_at-e-requires
element_at-e-requires c =
    let v = c.loop-at.invariant in
    let s = came c.loop-at.at-iterator c.next.new.self v.2 c.in-Some.ensures.steps in
    here _ _ _ _ (rw s.here at v.4) s.before_end

pub part_at-requires : goal.part_at-requires
part_at-requires c =
    let v = c.loop-at.invariant in
    let s = came c.loop-at.at-iterator c.next.new.self v.2 c.in-Some.ensures.steps in
    let h = here _ _ _ _ (rw s.here at v.4) s.before_end in
    (_, h.0, h.1)

pub loop-at-preserved : goal.loop-at-preserved
loop-at-preserved c =
    let v = c.loop-at.invariant in
    let s = came c.loop-at.at-iterator c.next.new.self v.2 c.in-Some.ensures.steps in (
      c.in-Some.ensures.goes.keeps,
      tt,
      s.table,
      omega (arith, c.out-in-loop-at-1.given, v.3),
      rw s.next
          (turned _ _ _ _ _ (rw s.here at v.4) _ _ _ _ s.before_end refl c.element_at-e.ensures c.part_at.ensures c.append.ensures),
    )

pub shape_of-out : goal.shape_of-out
shape_of-out c = omega (arith, c.loop-at.invariant.3, c.out-1.given)

pub returns : goal.returns
returns c =
    let v = c.loop-at.invariant in
    ran _ _ _ _ _ v.4 _ _ _ (over c.loop-at.at-iterator c.next.new.self v.2 c.in-None.ensures.steps) c.if-out-table.false
    c.description.ensures c.start.ensures
