-- What asking for element k and for its part answers.
-- Assumes nothing.
use Rattle.std.specs.Prelude.{ℕ, ◌≡◌, true, List}
use Rattle.format.specs.Records.{text_of}
use Rattle.format.specs.Utf16.{well_formed}
use Rattle.format.specs.Asked.{Gives}
use Rattle.format.specs.declared.records.Element.TheVariants.{Text}
use Rattle.format.specs.Answers.{Asked}
use Rattle.format.specs.Answers.{Gives as Element}
use Rattle.format.specs.declared.settings.Settings.{Settings}

-- the element, with its part beside it
pub record GivesElement (σ : Settings) (b : List ℕ) (k : ℕ) (r : Asked) : Type 0 where
  pub beside : List ℕ
  pub gives : Gives σ b k r beside

-- the part, with its element beside it. 'String text must now be well-formed UTF-16 ..; the string reader says so and whoever uses it
-- may count on it'
pub record GivesPart (σ : Settings) (b : List ℕ) (k : ℕ) (part : List ℕ) : Type 0 where
  pub beside : Asked
  pub gives : Gives σ b k beside part
  pub text : beside ≡ Element Text → well_formed (text_of part) ≡ true
