-- 8/14: 'Refusals: 10 .. by start and append for a pin of the other chip', even where both chips have that pin. What keeps the rules
-- before 10 and is not of its kind, having a pin of the other chip, is refused by 10: by start at 0, by append at the length so far.
-- Assumes nothing.
use Prim.Native.Nat.{ℕ}
use mathlib.Core.Path.{◌≡◌, refl, sym, ◌∙◌}
use mathlib.Core.Bool.{Bool, true, false, false≢true}
use mathlib.Core.List.{List, [], ◌∷◌, ◌++◌}
use lib.ListN.{length}
use lib.Dec.{leb}
use Rattle.format.specs.Slots.{Bytes}
use Rattle.format.specs.Records.{Record, element_of}
use Rattle.format.specs.Known.{table_a}
use Rattle.format.specs.Decode.{pin_of, placement_of, fan_of}
use Rattle.format.specs.Rules.{typed, powered, strapped, shaped, coded, in_use, pinned, own_rules, of_its_kind, description_kind}
use Rattle.format.specs.Rules.{description_roomy, element_roomy}
use Rattle.format.specs.Verdict.{stated}
use Rattle.format.specs.Writing.{writing, length_stands, start_answer, part_breaks, append_answer}
use Rattle.format.specs.declared.settings.Rules.TheVariants.{Ordinary}
use Rattle.format.specs.declared.pins.Chip.{Chip}
use Rattle.format.specs.declared.pins.Chip.TheVariants.{C8051F320, C8051F321}
use Rattle.format.specs.declared.pins.Use.TheVariants.{HardwareRevision}
use Rattle.std.specs.Prelude.{None}
use Rattle.format.specs.declared.records.Description.{Description}
use Rattle.format.specs.declared.records.Element.{Element}
use Rattle.format.specs.declared.records.Element.TheVariants.{Fan}
use Rattle.format.specs.Answers.{Refused}
use Rattle.format.proofs.Kept.{three_standing, kept_kind}
use Rattle.format.proofs.Broken.{misstrapped, mispinned}
use Rattle.demands.specs.Made.{MadeOf}
use Rattle.demands.proofs.Refusals.{part_faults}

-- a test that cannot hold
not_both : (t u : Bool) → (t ≡ true → u ≡ true) → u ≡ false → t ≡ false
not_both false u f h = refl
not_both true u f h = absurd (false≢true (sym h ∙ f refl))

module _ (chip : Chip) where
  pub start_other_chip :
      (b : List ℕ) (d : Description)
      → leb 16 (length b) ≡ true
      → description_roomy d ≡ true
      → typed d ≡ true
      → powered d ≡ true
      → description_kind chip d ≡ false
      → start_answer chip b d ≡ Refused 10 0
  unfolding start_answer
  start_other_chip b d room roomy type power other =
      let p = not_both (strapped chip d) (description_kind chip d)
      (λ k. three_standing chip HardwareRevision d.revision0 d.revision1 d.revision2 k) other in
      rw (room, roomy, misstrapped chip d type power p) refl

  pub append_other_chip :
      (b : List ℕ) (e : Element) (p : List ℕ) (r : Record)
      → Bytes p
      → MadeOf e p r
      → leb 16 (length b) ≡ true
      → length_stands b ≡ true
      → element_roomy e ≡ true
      → shaped r ≡ true
      → coded r ≡ true
      → in_use Ordinary (element_of r) ≡ true
      → of_its_kind chip r ≡ false
      → append_answer chip b e p ≡ Refused 10 (stated b)
  unfolding append_answer
  append_other_chip b e p r f m room so_far roomy shape code used other =
      let q = not_both (pinned chip r) (of_its_kind chip r) (λ k. kept_kind chip r code k) other in
      rw (room, so_far, roomy, part_faults chip e p r f m, mispinned (writing chip) r shape code used q) refl

-- 'F' with its PWM pin P0.5 of another chip than the named one, behind table A: 10 at 16
abbrev room30 : List ℕ
room30 = table_a 0x01 0x10 0x80 0xff ++ 0 ∷ 0 ∷ 0 ∷ 0 ∷ 0 ∷ 0 ∷ 0 ∷ 0 ∷ 0 ∷ 0 ∷ 0 ∷ 0 ∷ 0 ∷ 0 ∷ 0 ∷ 0 ∷ []

abbrev fan_on : Chip → Element
fan_on c = Fan (fan_of (placement_of 0 0 0 0 1) (pin_of c 0x05) None 0 0 0 0)

pub fan_of_the_321 : append_answer C8051F320 room30 (fan_on C8051F321) [] ≡ Refused 10 16
unfolding append_answer part_breaks own_rules
fan_of_the_321 = refl

pub fan_of_the_320 : append_answer C8051F321 room30 (fan_on C8051F320) [] ≡ Refused 10 16
unfolding append_answer part_breaks own_rules
fan_of_the_320 = refl
