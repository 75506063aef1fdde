-- `unmarked` meets its contract: what is left to search ends where the whole ends.
-- Assumes nothing.
use mathlib.Core.Path.{refl}
use Rattle.walking.proofs.Division.{divided}
use Rattle.walking.proofs.Stepping.{came, over}
use Rattle.places.proofs.Search.{came as through, begin, some_role, go_on, found, finish}
use Rattle.places.proofs.unmarked.Goals as goal

pub of-at-items-requires : goal.of-at-items-requires
of-at-items-requires c = let p = c.requires in divided _ 16 _ (through p.0 _ p.1).0

pub loop-at-init : goal.loop-at-init
loop-at-init c =
    let p = c.requires in
    let o = c.of-at-items.ensures in
    rw (c.into_iter-at-iterator.ensures.into_iter_gives, o.0, o.1)
    (divided _ 16 _ (through p.0 _ p.1).0, tt, refl, λ σ w m. begin σ _ _ _ _ w m)

pub marked-requires : goal.marked-requires
marked-requires c =
    let p = c.requires in
    let v = c.loop-at.invariant in
    let g = came c.loop-at.at-iterator c.next.new.self v.2 c.in-Some.ensures.steps in
    some_role _ _ _ _ _ _ (rw g.here at (v.3 p.0 p.1 p.2)) g.before_end

pub returns-then-not-marked : goal.returns-then-not-marked
returns-then-not-marked c =
    λ σ w m.
    let v = c.loop-at.invariant in
    let g = came c.loop-at.at-iterator c.next.new.self v.2 c.in-Some.ensures.steps in
    found σ _ _ _ _ _ (rw g.here at (v.3 σ w m)) g.before_end c.marked.result c.marked.ensures c.if-not-marked.true w.rs w.whole

pub loop-at-preserved : goal.loop-at-preserved
loop-at-preserved c =
    let v = c.loop-at.invariant in
    let g = came c.loop-at.at-iterator c.next.new.self v.2 c.in-Some.ensures.steps in (
      c.in-Some.ensures.goes.keeps,
      tt,
      g.table,
      λ σ w m. rw g.next
          (go_on σ _ _ _ _ _ (rw g.here at (v.3 σ w m)) g.before_end c.marked.result c.marked.ensures c.if-not-marked.false),
    )

pub returns : goal.returns
returns c =
    λ σ w m.
    let v = c.loop-at.invariant in
    finish σ _ _ _ _ _ (v.3 σ w m) (over c.loop-at.at-iterator c.next.new.self v.2 c.in-None.ensures.steps) w.rs w.whole
