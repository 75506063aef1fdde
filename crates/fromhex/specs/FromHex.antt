-- What moving a text back into a table gives.
-- Assumes nothing.
use Rattle.std.specs.Prelude.{ℕ, List}
use Rattle.format.specs.declared.pins.Chip.{Chip}
use Rattle.format.specs.Answers.{Written}
use Rattle.format.specs.Answers.{Refused}
use Rattle.hextext.specs.Meaning.{Means, bytes, bad}
use Rattle.hextext.specs.Moved.{Moved}

-- of the text and the buffer's bytes: the answer, and the buffer's bytes afterwards
pub data FromHex (chip : Chip) (t c : List ℕ) : Written → List ℕ → Type 0 where
  -- 'Refusals, before the table's own: 21 with the line number'
  malformed : {l : ℕ} → Means t (bad l) → FromHex chip t c (Refused 21 l) c
  -- 'then the table's own; then 16'
  sent : {b after : List ℕ} {r : Written} → Means t (bytes b) → Moved chip b b c r after → FromHex chip t c r after
