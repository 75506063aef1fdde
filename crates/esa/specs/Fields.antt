-- The description and element k as 32 numbers in a lent place.
-- Assumes nothing.
use Rattle.std.specs.Prelude.{ℕ, ◌≡◌, List}
use Rattle.format.specs.Answers.{number_of, place_of}
use Rattle.format.specs.Asked.{Describes, Gives}
use Rattle.format.specs.Answers.{Described}
use Rattle.format.specs.Answers.{Gives as Description, Refused as NotDescribed}
use Rattle.format.specs.Answers.{Asked}
use Rattle.format.specs.Answers.{Gives as Element, Refused as NotGiven}
use Rattle.numbered.specs.Into.{description_into, element_into}
use Rattle.esa.specs.Face.{packs, packed_asked}
use Rattle.format.specs.declared.settings.Settings.{Settings}
use Rattle.format.specs.declared.pins.Chip.{Chip}

abbrev pub packed_described : Described → ℕ
packed_described a = packs (number_of a) (place_of a)

-- what is left in the place: the numbers, or with a refusal what stood there
abbrev pub described_leaves : Chip → Described → List ℕ → List ℕ
described_leaves c (Description d) n = description_into c d
described_leaves c (NotDescribed k p) n = n

abbrev pub fields_leave : Chip → Asked → List ℕ → List ℕ → List ℕ
fields_leave c (Element e) part n = element_into c e part
fields_leave c (NotGiven k p) part n = n

pub record DescribedFor (σ : Settings) (b n : List ℕ) (r : ℕ) (after : List ℕ) : Type 0 where
  pub answer : Described
  pub describes : Describes σ b answer
  pub number : r ≡ packed_described answer
  pub leaves : after ≡ described_leaves σ.chip answer n

pub record FieldsFor (σ : Settings) (b : List ℕ) (k : ℕ) (n : List ℕ) (r : ℕ) (after : List ℕ) : Type 0 where
  pub answer : Asked
  pub part : List ℕ
  pub gives : Gives σ b k answer part
  pub number : r ≡ packed_asked answer
  pub leaves : after ≡ fields_leave σ.chip answer part n
