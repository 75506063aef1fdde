-- `any_names` meets its contract: what is left to search ends where the whole ends.
-- Assumes nothing.
use mathlib.Core.Path.{refl}
use Rattle.walking.proofs.Left.{accepted_divided}
use Rattle.walking.proofs.Stepping.{came, over}
use Rattle.removing.proofs.Seeking.{begun, some_role, hit, turned, not_there}
use Rattle.removing.proofs.any_names.Goals as goal

pub of-at-items-requires : goal.of-at-items-requires
of-at-items-requires c = let p = c.requires in accepted_divided p.0 _ p.1 p.2 p.3

pub loop-at-init : goal.loop-at-init
loop-at-init c =
    let p = c.requires in
    let o = c.of-at-items.ensures in
    rw (c.into_iter-at-iterator.ensures.into_iter_gives, o.0, o.1)
    (accepted_divided p.0 _ p.1 p.2 p.3, tt, refl, begun _ _ _)

pub names-requires : goal.names-requires
names-requires c =
    let p = c.requires in
    let v = c.loop-at.invariant in
    let g = came c.loop-at.at-iterator c.next.new.self v.2 c.in-Some.ensures.steps in
    some_role _ _ _ _ _ _ (rw g.here at (v.3 p.0 p.1 p.2 p.3)) g.before_end

pub returns-then-names : goal.returns-then-names
returns-then-names c =
    let v = c.loop-at.invariant in
    let g = came c.loop-at.at-iterator c.next.new.self v.2 c.in-Some.ensures.steps in
    hit _ _ _ _ (rw g.here at v.3) g.before_end _ c.names.ensures c.if-names.true

pub loop-at-preserved : goal.loop-at-preserved
loop-at-preserved c =
    let v = c.loop-at.invariant in
    let g = came c.loop-at.at-iterator c.next.new.self v.2 c.in-Some.ensures.steps in (
      c.in-Some.ensures.goes.keeps,
      tt,
      g.table,
      rw g.next (turned _ _ _ _ (rw g.here at v.3) g.before_end _ c.names.ensures c.if-names.false),
    )

pub returns : goal.returns
returns c =
    let v = c.loop-at.invariant in
    not_there _ _ _ _ v.3 (over c.loop-at.at-iterator c.next.new.self v.2 c.in-None.ensures.steps)
