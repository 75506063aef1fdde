-- `list` meets its contract. The loop's invariant: the lines of the elements behind the place stand in the buffer.
-- Assumes nothing.
use native.Mathlib.Omega.{arith}
use Rattle.reader.proofs.Asking.{long}
use mathlib.Core.Path.{refl}
use Rattle.walking.proofs.Left.{verdict_divided, here}
use Rattle.walking.proofs.Stepping.{came, over}
use Rattle.listing.proofs.Turn.{refusal, begun, room, unpinned, turned, whole}
use Rattle.listing.proofs.list.Goals as goal

pub returns-in_default : goal.returns-in_default
returns-in_default c =
    refusal _ _ _ _ (rw c.unwrap_err-refusal.ensures at c.check-answer.ensures) (rw c.number.ensures at c.put_refused.ensures)

pub description-requires : goal.description-requires
description-requires c =
    omega (arith, long _ _ (rw c.in-Ok.is at c.check-answer.ensures))

pub of-at-items-requires : goal.of-at-items-requires
of-at-items-requires c = verdict_divided _ _ (rw c.in-Ok.is at c.check-answer.ensures)

pub loop-at-init : goal.loop-at-init
loop-at-init c =
    let o = c.of-at-items.ensures in
    let v = rw c.in-Ok.is at c.check-answer.ensures in
    rw (c.into_iter-at-iterator.ensures.into_iter_gives, o.0, o.1)
    (verdict_divided _ _ v, tt, refl, begun _ _ _ _ v)

pub element_at-e-requires : goal.element_at-e-requires
element_at-e-requires c =
    let v = c.loop-at.invariant in
    let s = came c.loop-at.at-iterator c.next.new.self v.2 c.in-Some.ensures.steps in
    here _ _ _ _ (rw s.here at v.3) s.before_end

pub part_at-requires : goal.part_at-requires
part_at-requires c =
    let v = c.loop-at.invariant in
    let s = came c.loop-at.at-iterator c.next.new.self v.2 c.in-Some.ensures.steps in
    let h = here _ _ _ _ (rw s.here at v.3) s.before_end in
    (_, h.0, h.1)

pub put_element-end-requires : goal.put_element-end-requires
put_element-end-requires c =
    let v = c.loop-at.invariant in
    let s = came c.loop-at.at-iterator c.next.new.self v.2 c.in-Some.ensures.steps in
    let w = rw s.here at v.3 in (
      omega (arith, room _ _ _ _ _ _ _ w s.before_end c.put_table-end.ensures.1, c.put_element-arg-1.given),
      unpinned _ _ _ _ _ _ _ w _ s.before_end c.element_at-e.ensures,
    )

pub loop-at-preserved : goal.loop-at-preserved
loop-at-preserved c =
    let v = c.loop-at.invariant in
    let s = came c.loop-at.at-iterator c.next.new.self v.2 c.in-Some.ensures.steps in (
      c.in-Some.ensures.goes.keeps,
      tt,
      s.table,
      rw s.next
          (turned _ _ _ _ _ _ _ (rw s.here at v.3) _ _ _ s.before_end refl c.element_at-e.ensures c.part_at.ensures
          c.put_element-end.ensures),
    )

pub returns : goal.returns
returns c =
    let v = c.loop-at.invariant in
    whole _ _ _ _ _ _ _ v.3 _ _ (over c.loop-at.at-iterator c.next.new.self v.2 c.in-None.ensures.steps) c.description.ensures
    c.put_table-end.ensures.0
