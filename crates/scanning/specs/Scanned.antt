-- What the pass of salvage leaves: the arrays hold what is kept and changed, the flags say which numbers the kept ones declare and name,
-- and the clash is the first of theirs.
-- Assumes nothing.
use Rattle.format.specs.Answers.{rule_number}
use Rattle.format.specs.declared.answers.Rule.{Rule}
use Rattle.std.specs.Prelude.{ℕ, ◌≤◌, ◌≡◌, List}
use Rattle.format.specs.Slots.{byte}
use Rattle.format.specs.Decode.{read_description}
use Rattle.format.specs.Writing.{writing}
use Rattle.format.specs.declared.pins.Chip.{Chip}
use Rattle.pass.specs.Tracks.{Flags, Tracks}
use Rattle.pass.specs.declared.State.{State}
use Rattle.saving.specs.Saving.{Saved, records, passed}
use Rattle.fates.specs.Noted.{Notes}
use Rattle.fates.specs.declared.Kept.{Kept}
use Rattle.fates.specs.declared.Note.{Note}
use Rattle.fates.specs.declared.Fate.{Fate}
use Rattle.fates.specs.declared.Fate.TheVariants.{Stays, Leaves}
use Rattle.scanning.specs.declared.Passage.{Passage}

-- what is saved after the pass, by the writer's rules
unfoldable pub after_pass : Chip → List ℕ → Saved
after_pass c t = passed (writing c) t

pub record Scanned (c : Chip) (t : List ℕ) (kept : List Kept) (log : List Note) (f : Flags) (r : Passage) : Type 0 where
  pub notes : Notes c t kept log r.n (after_pass c t)
  pub state : State
  pub tracks : Tracks (read_description c (byte t)) state f (records (after_pass c t).kept)
  pub clash : r.clash ≡ state.held.clash
  -- each line is of an element of three bytes or more
  pub few_lines : r.n.lines ≤ 1360

-- 0 keeps, any other number leaves out
pub record FateOf (stop : ℕ) (f : Fate) : Type 0 where
  pub good : stop ≡ 0 → f ≡ Stays
  pub bad : (stop ≡ 0 → ⊥) → (r : Rule) × (f ≡ Leaves (rule_number r)) × (rule_number r ≡ stop)
