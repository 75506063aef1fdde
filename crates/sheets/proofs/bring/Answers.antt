-- `bring` meets its contract: the last element of the one list, entered; nothing where there is none.
-- Assumes nothing.
use native.Mathlib.Omega.{arith}
use Rattle.sheets.proofs.Bringing.{low, brought, stays}
use Rattle.sheets.proofs.bring.Goals as goal

pub returns-then-n-eq0 : goal.returns-then-n-eq0
returns-then-n-eq0 c =
    stays _ _ c.args.s.now _ c.requires.1 c.if-n-eq0.true c.own.ensures c.enter.ensures

pub place_of-requires : goal.place_of-requires
place_of-requires c = (_, _, c.requires.1, omega (arith, c.if-n-eq0.false))

pub enter_element-requires : goal.enter_element-requires
enter_element-requires c =
    let p = c.requires in
    let some = c.if-n-eq0.false in
    let l = c.place_of.ensures _ _ p.1 (omega (arith, some)) in
    ((l.r, l.here), low _ _ _ _ p.0 p.1 (omega (arith, some)) l)

pub returns : goal.returns
returns c =
    let p = c.requires in
    let some = c.if-n-eq0.false in
    let l = c.place_of.ensures _ _ p.1 (omega (arith, some)) in
    brought _ _ _ _ p.0 p.1 (omega (arith, some)) l c.args.s.now _ c.enter_element.ensures
