-- Answers as one number: that of 'What comes back', and 256 times what stands beside it.
-- Assumes nothing.
use Rattle.std.specs.Prelude.{ℕ, ◌+◌, ◌*◌, ◌≡◌, List, length}
use Rattle.format.specs.Layout.{id_of}
use Rattle.format.specs.Verdict.{Verdict}
use Rattle.format.specs.Asked.{Gives}
use Rattle.format.specs.Answers.{number_of, value_of, place_of}
use Rattle.format.specs.Answers.{Answer}
use Rattle.format.specs.Answers.{Asked}
use Rattle.format.specs.Answers.{Gives as Element, Refused as NotGiven}
use Rattle.format.specs.declared.settings.Settings.{Settings}

abbrev pub packs : ℕ → ℕ → ℕ
packs number beside = number + 256 * beside

abbrev pub packed : Answer → ℕ
packed a = packs (number_of a) (value_of a)

-- the number of the verdict on a table
pub record Checked (σ : Settings) (b : List ℕ) (r : ℕ) : Type 0 where
  pub answer : Answer
  pub verdict : Verdict σ b answer
  pub number : r ≡ packed answer

-- the same of an element: beside 0 its identifier
abbrev pub beside_asked : Asked → ℕ
beside_asked (Element e) = id_of e
beside_asked (NotGiven k p) = p

abbrev pub packed_asked : Asked → ℕ
packed_asked a = packs (number_of a) (beside_asked a)

pub record AskedFor (σ : Settings) (b : List ℕ) (k r : ℕ) : Type 0 where
  pub answer : Asked
  pub part : List ℕ
  pub gives : Gives σ b k answer part
  pub number : r ≡ packed_asked answer

-- the length of its variable part
pub record PartFor (σ : Settings) (b : List ℕ) (k r : ℕ) : Type 0 where
  pub answer : Asked
  pub part : List ℕ
  pub gives : Gives σ b k answer part
  pub number : r ≡ length part
