-- `choose` meets its contract: what each pass leaves is what the next starts from.
-- Assumes nothing.
use native.Mathlib.Omega.{arith}
use Rattle.saving.proofs.Theorems.{salvageable_says}
use Rattle.salvaging.proofs.Lonely.{kept_long}
use Rattle.salvaging.proofs.Deciding.{zones_ready, strings_ready, pins_ready, all_listed, all_decided}
use Rattle.salvaging.proofs.choose.Goals as goal

pub sift-a-requires : goal.sift-a-requires
sift-a-requires c = (search zones_ready, kept_long)

pub bounds-t-4 : goal.bounds-t-4
bounds-t-4 c =
    omega (arith, ((salvageable_says c.args.chip c.args.t.now).0 c.requires.1).long)

pub sift-b-requires : goal.sift-b-requires
sift-b-requires c =
    let ready = strings_ready _ _ c.requires.0 c.requires.1 c.requires.2 c.requires.3 c.sift-a.ensures
    c.from-index.ensures (omega arith) c.note_first-lines.ensures in
    (ready, kept_long)

pub sift-c-requires : goal.sift-c-requires
sift-c-requires c =
    let ready = pins_ready _ _ c.requires.0 c.requires.1 c.requires.2 c.requires.3 c.sift-a.ensures
    c.from-index.ensures (omega arith) c.note_first-lines.ensures c.sift-b.ensures in
    (ready, c.requires.3.notes.kept_long)

pub planned-requires : goal.planned-requires
planned-requires c =
    all_listed _ _ c.requires.0 c.requires.1 c.requires.2 c.requires.3 c.sift-a.ensures
    c.from-index.ensures (omega arith) c.note_first-lines.ensures c.sift-b.ensures c.sift-c.ensures

pub returns : goal.returns
returns c =
    all_decided _ _ c.requires.0 c.requires.1 c.requires.2 c.requires.3 c.sift-a.ensures
    c.from-index.ensures (omega arith) c.note_first-lines.ensures c.sift-b.ensures c.sift-c.ensures c.planned.ensures
