-- `decide` meets its contract: after the pass nothing else changes, or 13, 14 and 15 are gone through.
-- Assumes nothing.
use native.Mathlib.Omega.{arith}
use Rattle.saving.proofs.Theorems.{salvageable_says}
use Rattle.salvaging.proofs.Salvaging.{held_first}
use Rattle.salvaging.proofs.Deciding.{passed_on}
use Rattle.salvaging.proofs.Completing.{listed_all, decided_all}
use Rattle.salvaging.proofs.decide.Goals as goal

pub description-requires : goal.description-requires
description-requires c =
    omega (arith, ((salvageable_says c.args.chip c.args.t.now).0 c.requires.2).long)

pub pass-a-requires : goal.pass-a-requires
pass-a-requires c =
    let f = (salvageable_says c.args.chip c.args.t.now).0 c.requires.2 in
    let h = held_first c.args.chip c.args.t.now _ _ c.description.ensures f.described c.first_claims-held.ensures in
    (f.long, c.requires.0, c.requires.1, h, c.requires.3, c.requires.4)

pub planned-requires : goal.planned-requires
planned-requires c =
    listed_all _ _ _ _ _ _ _ _ _ c.pass-a.ensures (c.complete.ensures c.if-complete.true) c.requires.0

pub returns-then-complete : goal.returns-then-complete
returns-then-complete c =
    decided_all _ _ _ _ _ _ _ _ _ c.pass-a.ensures (c.complete.ensures c.if-complete.true) _ c.planned.ensures

pub choose-requires : goal.choose-requires
choose-requires c =
    let f = (salvageable_says c.args.chip c.args.t.now).0 c.requires.2 in
    let h = held_first c.args.chip c.args.t.now _ _ c.description.ensures f.described c.first_claims-held.ensures in
    (c.requires.0, c.requires.2, h, passed_on _ _ _ _ _ _ _ _ _ c.pass-a.ensures)
