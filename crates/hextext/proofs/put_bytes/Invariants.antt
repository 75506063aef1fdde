-- `put_bytes` meets its contract. The loop's invariant: the text of the bytes passed is put.
-- Assumes nothing.
use lib.ListN.{take}
use Rattle.spelling.specs.Spelling.{Put}
use Rattle.hextext.specs.Text.{hex_text}
use Rattle.hextext.proofs.put_bytes.Given as goal

abbrev pub invariant-loop-b : goal.invariant-loop-b
invariant-loop-b l = Put l.initial.out l.at (hex_text (take l.b-index l.bytes)) l.end l.out
