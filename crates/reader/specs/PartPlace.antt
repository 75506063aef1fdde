-- Where the variable part of element k stands in the table, and how long it is.
-- Assumes nothing.
use Rattle.std.specs.Prelude.{ℕ, ◌+◌, ◌≡◌, List, [], length, take}
use Rattle.std.proofs.Math.Option.{some}
use Rattle.format.specs.Records.{Record, element_of}
use Rattle.format.specs.Layout.{fixed, part, place_after}
use Rattle.format.specs.Verdict.{Accepts}
use Rattle.format.specs.Asked.{nth, Gives}
use Rattle.format.specs.declared.records.Description.{Description}
use Rattle.format.specs.Answers.{Refused as NotGiven}
use Rattle.std.specs.Prelude.{Result, Ok, Err}
use Rattle.format.specs.Answers.{rule_number}
use Rattle.format.specs.declared.answers.Refusal.{Refusal}
use Rattle.reader.specs.declared.Span.{Span}
use Rattle.walking.specs.Walk.{Located}
use Rattle.reader.specs.Answered.{GivesElement}
use Rattle.format.specs.declared.settings.Settings.{Settings}

-- the place of a part and its length, or a refusal; and what a result says of it
pub data Placed : Type 0 where
  At : ℕ → ℕ → Placed
  Refused : ℕ → ℕ → Placed

abbrev pub placed : Result Span Refusal → Placed
placed (Ok s) = At s.place s.len
placed (Err r) = Refused (rule_number r.rule) r.place

-- of an element that starts at a place: behind its header and its fixed fields, also where the part is empty
abbrev pub placed_at : ℕ → Record → Placed
placed_at at r = At (at + (3 + length (fixed (element_of r)))) (length (part r))

-- of element k of the one list of records of an accepted table
pub record PartPlaced (σ : Settings) (b : List ℕ) (k : ℕ) (answer : Placed) : Type 0 where
  pub description : Description
  pub records : List Record
  pub accepts : Accepts σ b description records
  pub element : Record
  pub is_nth : nth records k ≡ some element
  pub there : answer ≡ placed_at (place_after (take k records)) element

-- or the refusal with which element k is refused
abbrev pub GivesPlace : Settings → List ℕ → ℕ → Placed → Type 0
GivesPlace σ b k (At p n) = PartPlaced σ b k (At p n)
GivesPlace σ b k (Refused j p) = GivesElement σ b k (NotGiven j p)

-- of element k itself: where it stands, or that refusal
abbrev pub Places : Settings → List ℕ → ℕ → Result ℕ Refusal → Type 0
Places σ b k (Ok at) = Located σ b k at
Places σ b k (Err r) = Gives σ b k (NotGiven (rule_number r.rule) r.place) []
