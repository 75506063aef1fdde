-- `put_lines` meets its contract. The loop's invariant: the first k lines are put, and the rest of the table is left.
-- Assumes nothing.
use Prim.Native.Nat.{◌*◌, ◌≤◌}
use mathlib.Core.Path.{◌≡◌}
use lib.ListN.{length, drop}
use Rattle.std.specs.Iterator.Adapters.{enumerate_source, enumerate_count}
use Rattle.std.specs.Slice.Iter.{chunks_rest, chunks_size}
use Rattle.spelling.specs.Spelling.{Put}
use Rattle.hextext.specs.Text.{data_lines, line_count}
use Rattle.tohex.proofs.put_lines.Given as goal

abbrev pub invariant-loop-k : goal.invariant-loop-k
invariant-loop-k l =
    goal.iterator-loop-k.can_next l.k-iterator
    × goal.iterator-loop-k.is_finite l.k-iterator
    × (chunks_size (enumerate_source l.k-iterator) ≡ 16)
    × (chunks_rest (enumerate_source l.k-iterator) ≡ drop (16 * enumerate_count l.k-iterator) l.table)
    × (enumerate_count l.k-iterator ≤ line_count (length l.table))
    × Put l.initial.out 0 (data_lines (enumerate_count l.k-iterator) l.table) l.end l.out
