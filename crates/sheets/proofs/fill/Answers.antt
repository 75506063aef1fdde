-- `fill` meets its contract: at each place the numbers are the sheet of the elements behind it.
-- Assumes nothing.
use native.Mathlib.Omega.{arith}
use Rattle.reader.proofs.Asking.{long}
use mathlib.Core.Path.{refl}
use Rattle.walking.proofs.Left.{verdict_divided, here, top}
use Rattle.walking.proofs.Stepping.{came, over}
use Rattle.sheets.proofs.Filling.{begun, turned, whole}
use Rattle.sheets.proofs.fill.Goals as goal

pub first-requires : goal.first-requires
first-requires c = omega (arith, long _ _ c.requires.1)

pub of-at-items-requires : goal.of-at-items-requires
of-at-items-requires c = verdict_divided _ _ c.requires.1

pub loop-at-init : goal.loop-at-init
loop-at-init c =
    let o = c.of-at-items.ensures in
    rw (c.into_iter-at-iterator.ensures.into_iter_gives, o.0, o.1)
    (verdict_divided _ _ c.requires.1, tt, refl, begun _ _ _ c.requires.1 c.first.ensures)

pub enter_element-requires : goal.enter_element-requires
enter_element-requires c =
    let v = c.loop-at.invariant in
    let s = came c.loop-at.at-iterator c.next.new.self v.2 c.in-Some.ensures.steps in
    let w = rw s.here at v.3 in
    (here _ _ _ _ w s.before_end, omega (arith, s.before_end, top _ _ _ _ w))

pub loop-at-preserved : goal.loop-at-preserved
loop-at-preserved c =
    let v = c.loop-at.invariant in
    let s = came c.loop-at.at-iterator c.next.new.self v.2 c.in-Some.ensures.steps in (
      c.in-Some.ensures.goes.keeps,
      tt,
      s.table,
      rw s.next (turned _ _ _ _ (rw s.here at v.3) _ s.before_end refl c.enter_element.ensures),
    )

pub returns : goal.returns
returns c =
    let v = c.loop-at.invariant in
    whole _ _ _ _ v.3 (over c.loop-at.at-iterator c.next.new.self v.2 c.in-None.ensures.steps)
