-- `put_bytes` meets its contract. The loop's invariant: the text of the bytes passed is put.
-- Assumes nothing.
use native.Mathlib.Omega.{arith}
use lib.ListN.{take}
use lib.Seq.{take_all, length-take-le}
use Rattle.spelling.proofs.Putting.{put_none, then}
use Rattle.hextext.proofs.Spelled.{text_next, text_length}
use Rattle.hextext.proofs.put_bytes.Goals as goal

pub loop-b-init : goal.loop-b-init
loop-b-init c = put_none _ _

pub put_hex-end-requires : goal.put_hex-end-requires
put_hex-end-requires c =
    let d = c.args.bytes.now in
    let put = c.loop-b.invariant in
    omega (arith, put.ends, put.long, text_length (take c.loop-b.b-index d), length-take-le c.loop-b.b-index d (omega arith))

pub loop-b-preserved : goal.loop-b-preserved
loop-b-preserved c = rw (text_next _ c.loop-b.b-index c.loop-b-test.true) (then c.loop-b.invariant c.put_hex-end.ensures.0)

pub returns : goal.returns
returns c =
    let p = rw (take_all _ _ c.loop-b-test.false) at c.loop-b.invariant in
    (p, omega (arith, p.ends, text_length c.args.bytes.now))
