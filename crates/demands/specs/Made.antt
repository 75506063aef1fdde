-- What an element and its part make, read without the reader's cut.
-- Assumes nothing.
use Rattle.std.specs.Prelude.{ℕ, ◌≡◌, List}
use Rattle.format.specs.Slots.{written}
use Rattle.format.specs.Records.{Record, element_of}
use Rattle.format.specs.Layout.{part}
use Rattle.format.specs.declared.records.Element.{Element}

-- the record has that element, and that part as it is written
pub record MadeOf (e : Element) (p : List ℕ) (r : Record) : Type 0 where
  pub element : element_of r ≡ e
  pub as_written : written (part r) ≡ p
