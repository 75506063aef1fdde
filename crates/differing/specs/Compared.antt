-- The text that two tables' bytes are to be given.
-- Assumes nothing.
use Rattle.std.specs.Prelude.{ℕ, List, [], ◌∷◌}
use Rattle.format.specs.Records.{Record}
use Rattle.format.specs.Verdict.{Accepts, Verdict}
use Rattle.format.specs.declared.records.Description.{Description}
use Rattle.format.specs.declared.pins.Chip.{Chip}
use Rattle.format.specs.declared.settings.Settings.{Settings}
use Rattle.format.specs.declared.settings.Rules.TheVariants.{Archive}
use Rattle.format.specs.Answers.{Refused}
use Rattle.spelling.specs.Spelling.{decimal}
use Rattle.listing.specs.Lines.{line}
use Rattle.differing.specs.Differences.{differences, lines}

-- 'A refusal is `R`, 1 or 2, number, place'
unfoldable pub refusal : ℕ → ℕ → ℕ → List ℕ
refusal which k p = line ((82 ∷ []) ∷ decimal which ∷ decimal k ∷ decimal p ∷ [])

-- 'One chip for both tables, and the archive's rules'
abbrev pub archived : Chip → Settings
archived c = record { chip = c; rules = Archive }

-- the lines of two accepted tables, or 'where both are refused, the first table's'
pub data Compared (c : Chip) (b b' : List ℕ) : List ℕ → Type 0 where
  compared :
      (d d' : Description) (rs rs' : List Record)
      → Accepts (archived c) b d rs
      → Accepts (archived c) b' d' rs'
      → Compared c b b' (lines (differences d rs d' rs'))
  first_refused : {k p : ℕ} → Verdict (archived c) b (Refused k p) → Compared c b b' (refusal 1 k p)
  second_refused :
      {k p : ℕ} (d : Description) (rs : List Record)
      → Accepts (archived c) b d rs
      → Verdict (archived c) b' (Refused k p)
      → Compared c b b' (refusal 2 k p)
