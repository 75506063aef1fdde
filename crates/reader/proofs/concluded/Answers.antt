-- `concluded` meets its contract: 13, 14, 15 or accepted, by what was gathered.
-- Assumes nothing.
use native.Mathlib.Omega.{arith}
use borrow.Author.Tests.{not-true, not-false}
use Rattle.reader.proofs.Concluding.{refused_13, refused_14_description, refused_14, refused_15, accepted_0}
use Rattle.reader.proofs.concluded.Goals as goal

pub zoneless-requires : goal.zoneless-requires
zoneless-requires c = let g = c.requires in (_, g.table, g.zone)

pub returns-then-lacks : goal.returns-then-lacks
returns-then-lacks c =
    rw c.at.ensures
    (refused_13 _ _ _ _ _ _ _ c.requires _ c.lacks.ensures
    c.if-lacks.true _ c.zoneless.ensures)

pub returns-then-not-strings-n : goal.returns-then-not-strings-n
returns-then-not-strings-n c =
    rw c.at-then-not-strings-n.ensures
    (refused_14_description _ _ _ _ _ _ _ c.requires _
    c.lacks.ensures _
    c.lacks-2.ensures c.if-lacks.false
    c.if-lacks-2.true c.from-n.result c.from-n.ensures
    (omega arith) (not-true _ c.if-not-strings-n.true-raw))

pub nameless-requires : goal.nameless-requires
nameless-requires c =
    let g = c.requires in
    (_, g.table, g.string)

pub returns-then-lacks-2 : goal.returns-then-lacks-2
returns-then-lacks-2 c =
    rw c.at-then-lacks-2.ensures
    (refused_14 _ _ _ _ _ _ _ c.requires _
    c.lacks.ensures _
    c.lacks-2.ensures
    c.if-lacks.false c.if-lacks-2.true
    c.from-n.result c.from-n.ensures (omega arith)
    (not-false _ c.if-not-strings-n.false-raw) _ c.nameless.ensures)

pub returns-then-held-ne65536 : goal.returns-then-held-ne65536
returns-then-held-ne65536 c =
    rw c.at-then-held-ne65536.ensures
    (refused_15 _ _ _ _ _ _ _ c.requires _
    c.lacks.ensures _ c.lacks-2.ensures
    c.if-lacks.false c.if-lacks-2.false c.if-held-ne65536.true)

pub returns : goal.returns
returns c = accepted_0 _ _ _ _ _ _ _ c.requires _
    c.lacks.ensures _ c.lacks-2.ensures
    c.if-lacks.false c.if-lacks-2.false c.if-held-ne65536.false
