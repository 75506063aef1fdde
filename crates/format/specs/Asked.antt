-- What asking a table for its description, for element k or for its variable part is to give.
-- Assumes nothing.
use Rattle.std.specs.Prelude.{ℕ, zero, suc, ◌≡◌, List, [], ◌∷◌}
use Rattle.std.proofs.Math.Option.{Option, none, some}
use Rattle.format.specs.Slots.{written}
use Rattle.format.specs.Records.{Record, element_of}
use Rattle.format.specs.Layout.{part}
use Rattle.format.specs.Verdict.{Accepts, Verdict}
use Rattle.format.specs.declared.settings.Settings.{Settings}
use Rattle.format.specs.declared.records.Description.{Description as Fields}
use Rattle.format.specs.Answers.{Refused as RefusedTable}
use Rattle.format.specs.Answers.{Described}
use Rattle.format.specs.Answers.{Gives as Description, Refused as NotDescribed}
use Rattle.format.specs.Answers.{Asked}
use Rattle.format.specs.Answers.{Gives as Element, Refused as NotGiven}

-- 'Elements are numbered from 0'
abbrev pub nth : List Record → ℕ → Option Record
nth [] k = none
nth (r ∷ rs) zero = some r
nth (r ∷ rs) (suc k) = nth rs k

-- the description: the record of it in the one list, or the table's refusal
pub data Describes (s : Settings) (b : List ℕ) : Described → Type 0 where
  described : (d : Fields) (rs : List Record) → Accepts s b d rs → Describes s b (Description d)
  undescribed : {j p : ℕ} → Verdict s b (RefusedTable j p) → Describes s b (NotDescribed j p)

-- element k and its part: 'checks the whole table first and gives the same refusal'; 17: 'asked for an element past the
-- last'; 'an empty part with a refusal'
pub data Gives (s : Settings) (b : List ℕ) (k : ℕ) : Asked → List ℕ → Type 0 where
  given :
      {r : Record} (d : Fields) (rs : List Record)
      → Accepts s b d rs
      → nth rs k ≡ some r
      → Gives s b k (Element (element_of r)) (written (part r))
  past : (d : Fields) (rs : List Record) → Accepts s b d rs → nth rs k ≡ none → Gives s b k (NotGiven 17 0) []
  ungiven : {j p : ℕ} → Verdict s b (RefusedTable j p) → Gives s b k (NotGiven j p) []
