-- 'demand 2's writing speaks from now on of tables without block mode': the records of a table that the archive accepts and that holds
-- nothing retired are written again; and of one that holds it, each such record is refused by append, with 23 at the length so far.
-- Assumes nothing.
use Prim.Native.Nat.{ℕ, ◌≤◌}
use mathlib.Core.Path.{◌≡◌, refl, ◌∙◌, ap}
use mathlib.Core.Bool.{true, false}
use mathlib.Core.List.{List, [], ◌∷◌, ◌++◌}
use mathlib.Core.Option.{some}
use lib.ListN.{length}
use borrow.Author.Tests.{le-leb}
use Rattle.format.specs.Slots.{written}
use Rattle.format.specs.Records.{Record, element_of}
use Rattle.format.specs.Layout.{fixed, part}
use Rattle.format.specs.Rules.{in_use}
use Rattle.format.specs.Table.{Keeps}
use Rattle.format.specs.Verdict.{stated, Accepts}
use Rattle.format.specs.Archive.{NoneRetired}
use Rattle.format.specs.Writing.{writing, assembled_breaks, part_breaks, length_stands, append_answer}
use Rattle.format.specs.declared.pins.Chip.{Chip}
use Rattle.format.specs.declared.settings.Settings.{Settings}
use Rattle.format.specs.declared.settings.Rules.TheVariants.{Ordinary, Archive}
use Rattle.format.specs.declared.records.Description.{Description}
use Rattle.format.specs.Answers.{Written}
use Rattle.format.specs.Answers.{Refused}
use Rattle.format.proofs.Kept.{own_kept, own_unbroken}
use Rattle.format.proofs.Broken.{out_of_use}
use Rattle.format.proofs.Slots.{roomy_split}
use Rattle.format.proofs.Archive.{ordinary_accepts}
use Rattle.writer.specs.Calls.{Started}
use Rattle.demands.specs.Runs.{Appends}
use Rattle.demands.proofs.Assembled.{assembles, body_roomy}
use Rattle.demands.proofs.Demand2.{Again, records_written_again}
use Rattle.demands.proofs.Refusals.{passed_at, layout_roomy}

-- the archive's settings with a chip
abbrev pub archived : Chip → Settings
archived c = record { chip = c; rules = Archive }

module _ (chip : Chip) where
  pub archive_written_again :
      (b c : List ℕ) (d : Description) (rs : List Record) (w : Written) (ws : List Written) (c₁ after : List ℕ)
      → Accepts (archived chip) b d rs
      → NoneRetired rs
      → length b ≤ length c
      → Started chip c d w c₁
      → Appends chip c₁ rs ws after
      → Again b c d rs w ws after
  archive_written_again b c d rs w ws c₁ after a h long st run =
      records_written_again chip b c d rs w ws c₁ after (ordinary_accepts (writing chip) b d rs h a) long st run

  -- a record that is retired: append's answer, into a buffer that 1 and 3 do not meet
  pub retired_refused :
      (b : List ℕ) (d : Description) (before : List Record) (r : Record) (after : List Record)
      → Keeps (archived chip) d (before ++ r ∷ after)
      → in_use Ordinary (element_of r) ≡ false
      → 16 ≤ length b
      → length_stands b ≡ true
      → append_answer chip b (element_of r) (written (part r)) ≡ Refused 23 (stated b)
  unfolding append_answer part_breaks
  retired_refused b d before r after k u long stands =
      let q = roomy_split (fixed (element_of r)) (part r) (body_roomy r (layout_roomy (archived chip) d before r after k)) in
      let own =
      own_kept (archived chip) r (own_unbroken (archived chip) before r (passed_at (archived chip) [] before r after k.passed)) in
      let broken : part_breaks (writing chip) (element_of r) (written (part r)) ≡ some 23 =
      ap (assembled_breaks (writing chip)) (assembles r q.1) ∙ out_of_use (writing chip) r own.shape_8 own.codes_9 u in
      rw (le-leb 16 (length b) long, stands, q.0, broken) refl
