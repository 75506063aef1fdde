-- `put_table` meets its contract: the description, then the bytes of what is kept, then these tidied.
-- Assumes nothing.
use native.Mathlib.Omega.{arith}
use Rattle.format.specs.Slots.{byte}
use Rattle.format.specs.Decode.{read_description}
use Rattle.mending.specs.Laid.{described_as}
use Rattle.mending.proofs.Tidying.{copyable, table_put}
use Rattle.mending.proofs.put_table.Goals as goal

pub put_opening-requires : goal.put_opening-requires
put_opening-requires c =
    let p = c.requires in
    (p.start, p.bytes, p.revised, omega (arith, p.room, p.size _ _ p.keeps), p.most)

pub copy_kept-requires : goal.copy_kept-requires
copy_kept-requires c =
    let p = c.requires in
    copyable _ _ _ _ p.keeps p (omega (arith, c.out-1.given))

pub tidy_kept-requires : goal.tidy_kept-requires
tidy_kept-requires c =
    let p = c.requires in
    copyable _ _ _ _ p.keeps p (omega (arith, c.out-1.given, c.out-2-1.given))

pub shape_of-out : goal.shape_of-out
shape_of-out c =
    omega (arith, c.out-3-1.given, c.out-2-1.given, c.out-1.given)

pub returns : goal.returns
returns c =
    let p = c.requires in
    λ ks all.
    table_put _ _ _ ks all
    (described_as c.args.cleared (read_description c.args.chip (byte c.args.t.now))) _ _ _ _ _ (p.size _ ks all)
    p.room c.put_opening.ensures
    c.copy_kept.ensures c.tidy_kept.ensures
