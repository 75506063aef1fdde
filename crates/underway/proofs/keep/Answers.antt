-- `keep` meets its contract: fewer than eight bytes one by one, up to 16 by two eights, or all by four.
-- Assumes nothing.
use native.Mathlib.Omega.{arith}
use Rattle.underway.proofs.Eights.{copied_all, eight_fits, by_two, by_four}
use Rattle.underway.proofs.keep.Goals as goal

pub returns-then-end-lt8 : goal.returns-then-end-lt8
returns-then-end-lt8 c = copied_all _ _ _ _ _ c.room-end.ensures c.each.ensures

pub eight-requires : goal.eight-requires
eight-requires c =
    let l = c.if-end-lt8.false in
    let f = eight_fits _ _ _ 0 c.room-end.ensures (omega arith) in
    (omega (arith, f.0), omega (arith, f.1))

pub eight-requires-then-end-le16 : goal.eight-requires-then-end-le16
eight-requires-then-end-le16 c =
    let l = c.if-end-lt8.false in
    eight_fits _ _ _ _ c.room-end.ensures (omega arith)

pub returns-then-end-le16 : goal.returns-then-end-le16
returns-then-end-le16 c =
    by_two _ _ _ _ _ _ c.room-end.ensures c.eight.ensures c.if-end-lt8.false c.if-end-le16.true c.eight-then-end-le16.ensures

pub eight-requires-2 : goal.eight-requires-2
eight-requires-2 c =
    let l = c.if-end-le16.false in
    eight_fits _ _ _ _ c.room-end.ensures (omega arith)

pub eight-requires-3 : goal.eight-requires-3
eight-requires-3 c =
    let l = c.if-end-le16.false in
    eight_fits _ _ _ _ c.room-end.ensures (omega arith)

pub eight-requires-4 : goal.eight-requires-4
eight-requires-4 c =
    let l = c.if-end-le16.false in
    eight_fits _ _ _ _ c.room-end.ensures (omega arith)

pub returns : goal.returns
returns c =
    by_four _ _ _ _ _ _ c.room-end.ensures c.eight.ensures _ _ c.if-end-le16.false
    c.eight-2.ensures c.eight-3.ensures c.eight-4.ensures
