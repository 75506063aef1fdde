-- `to_hex` meets its contract: refused, no room, or the data records and the end record put.
-- Assumes nothing.
use native.Mathlib.Omega.{arith}
use lib.ListN.{length}
use Rattle.spelling.proofs.Putting.{then}
use Rattle.hextext.specs.Moved.{no_room, refused}
use Rattle.hextext.specs.Text.{line_count, hex_of}
use Rattle.hextext.proofs.Moving.{accepted_short, put_done}
use Rattle.tohex.proofs.Lines.{lines_length, hex_length}
use Rattle.format.proofs.Refusals.{handed}
use Rattle.tohex.proofs.to_hex.Goals as goal

pub returns-in_err-check : goal.returns-in_err-check
returns-in_err-check c = rw (handed _ _ c.from_residual.ensures.1) (refused c.in_err-check.ensures)

pub overflow_add-n-2 : goal.overflow_add-n-2
overflow_add-n-2 c = omega (arith, accepted_short c.in_ok-check.ensures)

pub overflow_add-n-3 : goal.overflow_add-n-3
overflow_add-n-3 c = omega (arith, accepted_short c.in_ok-check.ensures)

pub returns-then-out-n : goal.returns-then-out-n
returns-then-out-n c =
    let t = c.args.table.now in
    rw c.at.ensures (no_room c.in_ok-check.ensures (omega (arith, c.if-out-n.true, hex_length t)))

pub put_lines-end-requires : goal.put_lines-end-requires
put_lines-end-requires c =
    (accepted_short c.in_ok-check.ensures, omega (arith, c.if-out-n.false))

pub put-requires : goal.put-requires
put-requires c =
    let t = c.args.table.now in
    omega (
      arith,
      c.put_lines-end.ensures.ends,
      c.put_lines-end.ensures.long,
      lines_length t (line_count (length t)) (omega arith),
      c.if-out-n.false,
    )

pub returns : goal.returns
unfolding hex_of
returns c =
    let t = c.args.table.now in
    put_done _ c.in_ok-check.ensures
    (omega (arith, hex_length t, c.if-out-n.false))
    (then c.put_lines-end.ensures c.put.ensures)
