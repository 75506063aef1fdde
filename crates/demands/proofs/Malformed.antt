-- 7/14: 'Refusals: 9 for malformed text .. by the reader and by append'. Of a string that keeps 8 and has a number, append refuses
-- with 9, at the length so far, exactly the malformed.
-- Assumes nothing.
use Prim.Native.Nat.{ℕ}
use native.Mathlib.Omega.{arith}
use mathlib.Core.Path.{◌≡◌, refl, sym, ◌∙◌}
use mathlib.Core.Logic.{◌↔◌}
use mathlib.Core.Bool.{Bool, true, false, not}
use mathlib.Core.List.{List}
use lib.ListN.{length}
use lib.Dec.{eqb, leb}
use Rattle.format.specs.Records.{string, string_number, text_of}
use Rattle.format.specs.Utf16.{well_formed}
use Rattle.format.specs.Rules.{shaped}
use Rattle.format.specs.Verdict.{stated}
use Rattle.format.specs.Writing.{writing, or_refused, has_room, new_length, length_stands, part_breaks, append_answer}
use Rattle.format.specs.declared.pins.Chip.{Chip}
use Rattle.format.specs.declared.records.Element.TheVariants.{Text}
use Rattle.format.specs.Answers.{Gives as Length, Refused}
use Rattle.format.proofs.Kept.{OwnKept, kept_own}
use Rattle.format.proofs.Broken.{miscoded}

module _ (chip : Chip) (b p : List ℕ) (room : leb 16 (length b) ≡ true) (so_far : length_stands b ≡ true)
    (shape : shaped (string p) ≡ true) (number : not (eqb (string_number p) 0) ≡ true) where
  malformed : well_formed (text_of p) ≡ false → append_answer chip b Text p ≡ Refused 9 (stated b)
  unfolding append_answer part_breaks
  malformed w = rw (room, so_far, miscoded (writing chip) (string p) shape (rw (number, w) refl)) refl

  well_formed_lem :
      well_formed (text_of p) ≡ true
      → append_answer chip b Text p ≡ or_refused (has_room b (new_length b Text p)) 16 0 (Length (new_length b Text p))
  unfolding append_answer part_breaks
  well_formed_lem w =
      let k : OwnKept (writing chip) (string p) = record { shape_8 = shape; codes_9 = rw (number, w) refl; use_23 = refl; pins_10 = refl }
      in
      rw (room, so_far, kept_own (writing chip) (string p) k) refl

  not_nine : (t : Bool) (n : ℕ) → or_refused t 16 0 (Length n) ≡ Refused 9 (stated b) → ⊥
  not_nine true n e = let z : ◌≡◌ {A = ℕ} 0 1 = cc in omega arith
  not_nine false n e = let z : ◌≡◌ {A = ℕ} 16 9 = cc in omega arith

  pub malformed_exactly : (append_answer chip b Text p ≡ Refused 9 (stated b)) ↔ (well_formed (text_of p) ≡ false)
  malformed_exactly = (λ e. go (well_formed (text_of p)) refl e, malformed)
    where
      go : (t : Bool) → well_formed (text_of p) ≡ t → append_answer chip b Text p ≡ Refused 9 (stated b) → t ≡ false
      go true w e = absurd (not_nine (has_room b (new_length b Text p)) (new_length b Text p) (sym (well_formed_lem w) ∙ e))
      go false w e = refl
