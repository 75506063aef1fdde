-- `salvage` meets its contract: a description that stands alone is written at once; else everything is decided, then written.
-- Assumes nothing.
use Prim.Native.Nat.{ℕ}
use native.Mathlib.Omega.{arith}
use mathlib.Core.Path.{◌≡◌, sym, ◌∙◌}
use mathlib.Core.Bool.{Bool, true}
use mathlib.Core.List.{List}
use Rattle.format.specs.declared.pins.Chip.{Chip}
use Rattle.saving.specs.Saving.{salvageable}
use Rattle.saving.proofs.Theorems.{Salvageable, salvageable_says}
use Rattle.salvaging.proofs.Salvaging.{sound_there, taken_there, refused_24, no_room, room_there, lines_there, salvaged_there}
use Rattle.salvaging.proofs.Lonely.{kept_long, log_long, nothing, no_kept, no_log, alone_decided, alone_put, no_lines}
use Rattle.salvaging.proofs.salvage.Goals as goal

-- the description is sound
good : {said is : Bool} → said ≡ is → said ≡ true → is ≡ true
good e h = sym e ∙ h

-- and what that says of the table
sound_is : (chip : Chip) (t : List ℕ) {said : Bool} → said ≡ salvageable chip t → said ≡ true → Salvageable chip t
sound_is chip t e h = (salvageable_says chip t).0 (good e h)

pub returns-then-not-sound : goal.returns-then-not-sound
returns-then-not-sound c =
    rw c.at.ensures
    (refused_24 _ _ _ _
    (sound_there _ c.args.file.now _ c.taken-t.ensures _ c.sound.ensures ∙ c.if-not-sound.true))

pub alone-requires : goal.alone-requires
alone-requires c = (sound_is c.args.chip c.taken-t.result.now c.sound.ensures c.if-not-sound.false).long

pub returns-then-out-lt16 : goal.returns-then-out-lt16
returns-then-out-lt16 c =
    rw c.at-then-out-lt16.ensures
    (no_room _ c.args.file.now _ _ c.args.lines.now c.taken-t.ensures (λ i. omega (arith, c.type_inv.file i))
    (good c.sound.ensures c.if-not-sound.false) nothing no_kept no_log
    (alone_decided _ _ (c.alone.ensures c.if-alone.true)) c.if-out-lt16.true)

pub put_opening-requires : goal.put_opening-requires
put_opening-requires c =
    let t = taken_there c.args.chip c.args.file.now _ c.taken-t.ensures (λ i. omega (arith, c.type_inv.file i)) in (
      (sound_is c.args.chip c.taken-t.result.now c.sound.ensures c.if-not-sound.false).long,
      t.1,
      (sound_is c.args.chip c.taken-t.result.now c.sound.ensures c.if-not-sound.false).revised,
      omega (arith, c.if-out-lt16.false),
      omega arith,
    )

pub returns-then-alone : goal.returns-then-alone
returns-then-alone c =
    let a = c.alone.ensures c.if-alone.true in
    salvaged_there _ c.args.file.now _ _ c.args.lines.now c.taken-t.ensures (λ i. omega (arith, c.type_inv.file i))
    (good c.sound.ensures c.if-not-sound.false) nothing no_kept
    no_log (alone_decided _ _ a) c.if-out-lt16.false (alone_put _ _ a c.put_opening.ensures)
    (no_lines _)

pub decide-plan-requires : goal.decide-plan-requires
decide-plan-requires c =
    let t = taken_there c.args.chip c.args.file.now _ c.taken-t.ensures (λ i. omega (arith, c.type_inv.file i)) in
    (t.0, t.1, (good c.sound.ensures c.if-not-sound.false), kept_long, log_long)

pub returns-then-out-plan : goal.returns-then-out-plan
returns-then-out-plan c =
    rw c.at-then-out-plan.ensures
    (no_room _ c.args.file.now _ _ c.args.lines.now c.taken-t.ensures (λ i. omega (arith, c.type_inv.file i))
    (good c.sound.ensures c.if-not-sound.false) _ _ _
    c.decide-plan.ensures c.if-out-plan.true)

pub put_table-requires : goal.put_table-requires
put_table-requires c =
    room_there _ c.args.file.now _ _ c.args.lines.now c.taken-t.ensures (λ i. omega (arith, c.type_inv.file i))
    (good c.sound.ensures c.if-not-sound.false) _ _ _
    c.decide-plan.ensures c.if-out-plan.false

pub put_lines-end-requires : goal.put_lines-end-requires
put_lines-end-requires c =
    lines_there _ c.args.file.now _ c.args.out.now c.args.lines.now c.taken-t.ensures (λ i. omega (arith, c.type_inv.file i))
    (good c.sound.ensures c.if-not-sound.false)
    _ _ _ c.decide-plan.ensures

pub returns : goal.returns
returns c =
    salvaged_there _ c.args.file.now _ _ c.args.lines.now c.taken-t.ensures (λ i. omega (arith, c.type_inv.file i))
    (good c.sound.ensures c.if-not-sound.false) _ _ _
    c.decide-plan.ensures c.if-out-plan.false
    c.put_table.ensures c.put_lines-end.ensures
