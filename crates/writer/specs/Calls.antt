-- The words of the writer's calls: the answer and every byte that is left, for refusals as for success. The caller names
-- the chip.
-- Assumes nothing.
use Rattle.std.specs.Prelude.{ℕ, ◌+◌, ◌≡◌, List, length}
use Rattle.format.specs.Writing.{element_slots, or_refused, has_room, start_answer, start_leaves, append_answer, append_leaves}
use Rattle.format.specs.declared.records.Description.{Description}
use Rattle.format.specs.declared.records.Element.{Element}
use Rattle.format.specs.Answers.{Written}
use Rattle.format.specs.Answers.{Gives as Length}
use Rattle.format.specs.declared.pins.Chip.{Chip}

pub record Started (c : Chip) (b : List ℕ) (d : Description) (r : Written) (after : List ℕ) : Type 0 where
  pub answer : r ≡ start_answer c b d
  pub leaves : after ≡ start_leaves r b d

pub record Appended (c : Chip) (b : List ℕ) (e : Element) (p : List ℕ) (r : Written) (after : List ℕ) : Type 0 where
  pub answer : r ≡ append_answer c b e p
  pub leaves : after ≡ append_leaves r b e p

-- 16, or the new length
abbrev pub room_answer : List ℕ → ℕ → Element → List ℕ → Written
room_answer b n e p =
    or_refused (has_room b (n + length (element_slots e p))) 16 0 (Length (n + length (element_slots e p)))
