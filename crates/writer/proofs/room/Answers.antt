-- `room` meets its contract: 16 when the new length passes the buffer or 4,096.
-- Assumes nothing.
use native.Mathlib.Omega.{arith}
use Rattle.laying.proofs.Laws.{element_length}
use Rattle.writer.proofs.Answering.{fixed_short, too_long, past_buffer, fits_there}
use Rattle.writer.proofs.room.Goals as goal

pub returns-then-part-gt4096 : goal.returns-then-part-gt4096
returns-then-part-gt4096 c =
    let a = c.args in
    rw c.at.ensures
    (too_long a.buffer.now a.n a.e a.part.now (omega (arith, element_length a.e a.part.now, c.if-part-gt4096.true)))

pub overflow_add-m-2 : goal.overflow_add-m-2
overflow_add-m-2 c =
    omega (arith, fixed_short c.args.e, c.fixed_length.ensures, c.requires)

pub overflow_add-m-3 : goal.overflow_add-m-3
overflow_add-m-3 c =
    omega (arith, fixed_short c.args.e, c.fixed_length.ensures, c.if-part-gt4096.false, c.requires)

pub returns-then-buffer-m : goal.returns-then-buffer-m
returns-then-buffer-m c =
    let a = c.args in
    rw c.at-then-buffer-m.ensures
    (past_buffer a.buffer.now a.n a.e a.part.now
    (omega (arith, element_length a.e a.part.now, c.fixed_length.ensures, c.if-buffer-m.true)))

pub returns-then-m-gt4096 : goal.returns-then-m-gt4096
returns-then-m-gt4096 c =
    let a = c.args in
    rw c.at-then-m-gt4096.ensures
    (too_long a.buffer.now a.n a.e a.part.now
    (omega (arith, element_length a.e a.part.now, c.fixed_length.ensures, c.if-m-gt4096.true)))

pub returns : goal.returns
returns c =
    let a = c.args in
    fits_there a.buffer.now a.n a.e a.part.now _
    (omega (arith, element_length a.e a.part.now, c.fixed_length.ensures)) c.if-buffer-m.false
    c.if-m-gt4096.false
