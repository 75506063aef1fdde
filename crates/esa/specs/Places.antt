-- Where the variable part of an element and the text of a string stand, and how long they are.
-- Assumes nothing.
use Rattle.std.specs.Prelude.{ℕ, ◌+◌, ◌*◌, ◌≡◌, Bool, true, false, List, length, eqb}
use Rattle.format.specs.Records.{text_of}
use Rattle.format.specs.Layout.{id_of}
use Rattle.format.specs.Utf16.{well_formed}
use Rattle.format.specs.Asked.{Gives}
use Rattle.format.specs.declared.records.Element.TheVariants.{Text}
use Rattle.format.specs.Answers.{Asked}
use Rattle.format.specs.Answers.{Gives as Element, Refused as NotGiven}
use Rattle.reader.specs.PartPlace.{GivesPlace}
use Rattle.reader.specs.PartPlace.{Placed}
use Rattle.reader.specs.PartPlace.{At, Refused}
use Rattle.esa.specs.Face.{packs}
use Rattle.format.specs.declared.settings.Settings.{Settings}

-- place and length, beside 0
abbrev pub span : ℕ → ℕ → ℕ
span place len = packs 0 (place + 65536 * len)

abbrev pub packed_placed : Placed → ℕ
packed_placed (At p n) = span p n
packed_placed (Refused j p) = packs j p

pub record PlacedFor (σ : Settings) (b : List ℕ) (k r : ℕ) : Type 0 where
  pub answer : Placed
  pub gives : GivesPlace σ b k answer
  pub number : r ≡ packed_placed answer

-- the text of a string stands at byte 3 of its part
abbrev pub packed_text : Placed → List ℕ → ℕ
packed_text (At p n) part = span (p + 3) (length (text_of part))
packed_text (Refused j p) part = packs j p

pub record TextPlaced (σ : Settings) (b : List ℕ) (k r : ℕ) : Type 0 where
  pub beside : Asked
  pub part : List ℕ
  pub gives : Gives σ b k beside part
  pub place : Placed
  pub placed : GivesPlace σ b k place
  pub number : r ≡ packed_text place part

-- 0Ch is a string; of any other element the answer is 0, with 0 beside it
abbrev pub TextOf : Settings → Bool → List ℕ → ℕ → ℕ → Type 0
TextOf σ true b k r = TextPlaced σ b k r
TextOf σ false b k r = r ≡ 0

abbrev pub TextAsked : Settings → Asked → List ℕ → ℕ → ℕ → Type 0
TextAsked σ (Element e) b k r = TextOf σ (eqb (id_of e) 0x0c) b k r
TextAsked σ (NotGiven j p) b k r = r ≡ packs j p

pub record TextFor (σ : Settings) (b : List ℕ) (k r : ℕ) : Type 0 where
  pub answer : Asked
  pub part : List ℕ
  pub gives : Gives σ b k answer part
  pub text : TextAsked σ answer b k r
  -- 'String text must now be well-formed UTF-16 ..; the string reader says so'
  pub well : answer ≡ Element Text → well_formed (text_of part) ≡ true
