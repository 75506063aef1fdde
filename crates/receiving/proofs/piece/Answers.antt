-- `piece` meets its contract: 20 after the end; a byte that decides nothing, skipped bytes, none, a stopped pass, a single byte, or some.
-- Assumes nothing.
use Prim.Native.Nat.{◌-◌}
use native.Mathlib.Omega.{arith}
use mathlib.Core.Path.{sym}
use lib.ListN.{length, take}
use lib.Seq.{length-take-le}
use Rattle.states.specs.Numbers.{number}
use Rattle.receiving.proofs.Calls.{piece_late, piece_over, piece_none, piece_goes, piece_quick, cut_to, short_take}
use Rattle.receiving.proofs.Late.{grows_single, grows_quick, grows_stopped, one_byte}
use Rattle.receiving.proofs.Late.{stopped_test, going_test, single_test, quick_test, plain_test}
use Rattle.receiving.proofs.piece.Goals as goal

pub returns-then-n-ne0 : goal.returns-then-n-ne0
returns-then-n-ne0 c = piece_late _ _ c.if-n-ne0.true

pub bounds-p-0 : goal.bounds-p-0
bounds-p-0 c =
    let a = c.args in
    let n = a.n.now in
    omega (arith, (quick_test (length a.p.now) (number n 2) (number n 15) c.if-p-count.true).0)

pub bounds-p-0-then-plain : goal.bounds-p-0-then-plain
bounds-p-0-then-plain c =
    let a = c.args in
    let n = a.n.now in
    omega (arith, (quick_test (length a.p.now) (number n 2) (number n 15) c.if-p-count.true).0)

pub lengthen-requires : goal.lengthen-requires
lengthen-requires c =
    let a = c.args in
    let n = a.n.now in
    (quick_test (length a.p.now) (number n 2) (number n 15) c.if-p-count.true).1

pub returns-then-plain : goal.returns-then-plain
returns-then-plain c =
    let p = c.args.p.now in
    let n = c.args.n.now in
    let w = quick_test (length p) (number n 2) (number n 15) c.if-p-count.true in
    piece_quick _ p c.if-n-ne0.false _ _ w.1 (λ e. omega (arith, w.0, e))
    (λ h. one_byte p (4097 - number n 2) w.0 (omega (arith, h))) (λ i. omega (arith, c.type_inv.p i))
    (grows_quick _ _ _ _ _ _ _ _ _ c.if-n-ne0.false w.1 (plain_test _ c.plain.ensures c.if-plain.true) c.lengthen.ensures)

pub returns-then-count-gt4096 : goal.returns-then-count-gt4096
returns-then-count-gt4096 c = piece_over _ _ c.if-n-ne0.false c.if-count-gt4096.true

pub returns-then-p-eq0 : goal.returns-then-p-eq0
returns-then-p-eq0 c = piece_none _ _ c.if-n-ne0.false c.if-p-eq0.true

pub returns-then-count-n : goal.returns-then-count-n
returns-then-count-n c =
    let p = c.args.p.now in
    let end = c.min-end.result in
    let h = c.min-end.ensures in
    let t = stopped_test _ _ c.if-count-n.true in
    piece_goes _ p c.if-n-ne0.false (take (end - 0) p) _ c.if-count-gt4096.false c.if-p-eq0.false (cut_to p (4097 - number c.args.n.now 2) end (omega (arith, h)) (λ k. omega (arith, h, k)))
    (λ i. omega (arith, c.type_inv.p i))
    (grows_stopped _ _ _ _ _ _ (take (end - 0) p) t.1 (omega (arith, length-take-le (end - 0) p (omega (arith, h)))) c.if-n-ne0.false
    t.0 (short_take end p (number c.args.n.now 2) (omega (arith, h)) c.if-count-gt4096.false))

pub byte-requires : goal.byte-requires
byte-requires c =
    let a = c.args in
    let n = a.n.now in
    (c.if-count-gt4096.false, going_test (number n 2) (number n 3) c.if-count-n.false (single_test (length a.p.now) (number n 2) c.if-p-count-2.true).1)

pub returns-then-byte : goal.returns-then-byte
returns-then-byte c =
    let p = c.args.p.now in
    let count = number c.args.n.now 2 in
    let w = single_test (length p) count c.if-p-count-2.true in
    piece_goes _ p c.if-n-ne0.false _ _ c.if-count-gt4096.false c.if-p-eq0.false (one_byte p (4097 - count) w.0 (omega (arith, c.if-count-gt4096.false)))
    (λ i. omega (arith, c.type_inv.p i))
    (grows_single _ _ _ _ _ _ _ _ _ c.if-n-ne0.false w.1 c.if-count-gt4096.false (c.byte.ensures.yes c.if-byte.true))

pub receive-requires : goal.receive-requires
receive-requires c =
    rw (c.byte.ensures.no c.if-byte.false).0
    (c.if-n-ne0.false, short_take 1 c.args.p.now _ (omega (arith, c.if-count-gt4096.false)) c.if-count-gt4096.false)

pub returns-then-p-count-2 : goal.returns-then-p-count-2
returns-then-p-count-2 c =
    let n = c.byte.ensures.no c.if-byte.false in
    let p = c.args.p.now in
    let count = number c.args.n.now 2 in
    let w = single_test (length p) count c.if-p-count-2.true in
    piece_goes _ p c.if-n-ne0.false _ _ c.if-count-gt4096.false c.if-p-eq0.false
    (cut_to p (4097 - count) 1 (omega (arith, c.if-count-gt4096.false)) (λ _. sym w.0))
    (λ i. omega (arith, c.type_inv.p i)) (rw (n.0, n.1) at c.receive.ensures)

pub returns : goal.returns
returns c =
    piece_goes _ c.args.p.now c.if-n-ne0.false _ _ c.if-count-gt4096.false c.if-p-eq0.false
    (cut_to c.args.p.now (4097 - number c.args.n.now 2) c.min-end.result (omega (arith, c.min-end.ensures)) (λ k. omega (arith, c.min-end.ensures, k)))
    (λ i. omega (arith, c.type_inv.p i)) c.receive-2.ensures
