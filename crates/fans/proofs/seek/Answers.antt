-- `seek` meets its contract: what is left to seek ends where the whole ends.
-- Assumes nothing.
use native.Mathlib.Omega.{arith}
use mathlib.Core.Path.{refl}
use Rattle.walking.proofs.Left.{accepted_divided}
use Rattle.walking.proofs.Stepping.{came, over}
use Rattle.fans.proofs.Seeking.{begun, room, visitable, hit, turned, not_there}
use Rattle.fans.proofs.seek.Goals as goal

pub of-at-items-requires : goal.of-at-items-requires
of-at-items-requires c = let p = c.requires in accepted_divided p.settings _ p.description p.records p.accepts

pub loop-at-init : goal.loop-at-init
loop-at-init c =
    let p = c.requires in
    let o = c.of-at-items.ensures in
    rw (c.into_iter-at-iterator.ensures.into_iter_gives, o.0, o.1)
    (accepted_divided p.settings _ p.description p.records p.accepts, tt, refl, begun _ _)

pub length_at-requires : goal.length_at-requires
length_at-requires c =
    let v = c.loop-at.invariant in
    let s = came c.loop-at.at-iterator c.next.new.self v.2 c.in-Some.ensures.steps in
    omega (arith, room _ _ _ _ (rw s.here at v.3) c.requires s.before_end)

pub step-v-requires : goal.step-v-requires
step-v-requires c =
    let v = c.loop-at.invariant in
    let s = came c.loop-at.at-iterator c.next.new.self v.2 c.in-Some.ensures.steps in
    visitable _ _ _ _ (rw s.here at v.3) c.requires s.before_end c.length_at.ensures

pub returns-then-v : goal.returns-then-v
returns-then-v c =
    let v = c.loop-at.invariant in
    let s = came c.loop-at.at-iterator c.next.new.self v.2 c.in-Some.ensures.steps in
    hit _ _ _ _ (rw s.here at v.3) s.before_end c.length_at.ensures _ c.step-v.ensures c.if-v.true

pub loop-at-preserved : goal.loop-at-preserved
loop-at-preserved c =
    let v = c.loop-at.invariant in
    let s = came c.loop-at.at-iterator c.next.new.self v.2 c.in-Some.ensures.steps in (
      c.in-Some.ensures.goes.keeps,
      tt,
      s.table,
      rw (s.next, ← c.length_at.ensures)
          (turned _ _ _ _ (rw s.here at v.3) s.before_end c.length_at.ensures _ c.step-v.ensures c.if-v.false),
    )

pub returns : goal.returns
returns c =
    let v = c.loop-at.invariant in
    not_there _ _ _ _ v.3 (over c.loop-at.at-iterator c.next.new.self v.2 c.in-None.ensures.steps)

pub slice_bounds-step-end : goal.slice_bounds-step-end
slice_bounds-step-end c =
    let v = c.loop-at.invariant in
    let s = came c.loop-at.at-iterator c.next.new.self v.2 c.in-Some.ensures.steps in
    omega (arith, c.length_at.ensures, room _ _ _ _ (rw s.here at v.3) c.requires s.before_end)
