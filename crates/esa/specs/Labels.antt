-- The label of an element as one number: of which of two lent slices it is a part, where in it, and how long.
-- Assumes nothing.
use Rattle.std.specs.Prelude.{ℕ, ◌+◌, ◌*◌, ◌≤◌, ◌≡◌, cond, List, length, ltb}
use Rattle.labels.specs.Called.{Found}
use Rattle.labels.specs.Called.{Source}
use Rattle.labels.specs.Called.{Text, Lent, Refused}
use Rattle.esa.specs.Face.{packs}
use Rattle.format.specs.declared.settings.Settings.{Settings}

-- beside 0: which slice in 8 bits, 0 the table and 1 the lent name; the place in it and the length in 24 bits each
abbrev pub within : ℕ → ℕ → ℕ → ℕ
within which place len = packs 0 (which + 256 * (place + 16777216 * len))

-- of a lent name that is longer than 24 bits can say, the most that they can
abbrev pub shown : ℕ → ℕ
shown len = cond (ltb len 16777216) len 16777215

abbrev pub packed_label : Source → ℕ → ℕ
packed_label (Text p n) len = within 0 p n
packed_label Lent len = within 1 0 (shown len)
packed_label (Refused j p) len = packs j p

-- no place that is too large for its bits
abbrev pub Fitting : Source → Type 0
Fitting (Text p n) = p + n ≤ 4096
Fitting Lent = Unit {0}
Fitting (Refused j p) = p ≤ 4096

pub record LabelFor (σ : Settings) (b : List ℕ) (k : ℕ) (name : List ℕ) (r : ℕ) : Type 0 where
  pub answer : Source
  pub found : Found σ b k answer
  pub number : r ≡ packed_label answer (length name)
