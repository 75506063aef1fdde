-- The text of the changes that are noted.
-- Assumes nothing.
use Rattle.std.specs.Prelude.{ℕ, ◌≤◌, Bool, List, [], ◌∷◌, ◌++◌, length}
use Rattle.spelling.specs.Spelling.{Put}
use Rattle.saving.specs.Saving.{Line}
use Rattle.saving.specs.Lines.{change_text, line_text, text_of}
use Rattle.fates.specs.declared.Note.{Note}
use Rattle.fates.specs.Noted.{Each, Codes, change_of}

abbrev pub PutsChange : List ℕ → ℕ → Bool → ℕ → List ℕ → Type 0
PutsChange out at clear r after = Put out at (9 ∷ change_text (change_of clear) ++ 10 ∷ []) r after

abbrev pub PutsLine : List ℕ → ℕ → Note → ℕ → List ℕ → Type 0
PutsLine out at n r after = (l : Line) → Codes n l → Put out at (line_text l) r after

-- they stand for lines
pub record Noted (log : List Note) : Type 0 where
  pub ls : List Line
  pub codes : Each Codes log ls
  pub few : length log ≤ 1649

abbrev pub PutsLines : List Note → List ℕ → ℕ → List ℕ → Type 0
PutsLines log out r after = (ls : List Line) → Each Codes log ls → Put out 0 (text_of ls) r after
