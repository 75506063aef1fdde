-- What a walk over the elements of a table that is accepted under settings σ finds at a place, and what every loop over them keeps.
-- Assumes nothing.
use Rattle.std.specs.Prelude.{ℕ, ◌+◌, ◌≤◌, ◌≡◌, List, ◌++◌, length, drop, take}
use Rattle.std.proofs.Math.Option.{some}
use Rattle.format.specs.Records.{Record}
use Rattle.format.specs.Layout.{layout, place_after}
use Rattle.format.specs.Verdict.{stated, Stands, Accepts}
use Rattle.format.specs.Asked.{nth}
use Rattle.format.specs.declared.pins.Chip.{Chip}
use Rattle.format.specs.declared.settings.Settings.{Settings}
use Rattle.format.specs.declared.records.Description.{Description}

-- this record stands at a place, its pins of the named chip, and all its bytes are the table's
pub record Here (c : Chip) (t : List ℕ) (at : ℕ) (x : Record) : Type 0 where
  pub stands : Stands c (drop at t) x
  pub size : stated (drop at t) ≡ length (layout x)
  pub within : at + stated (drop at t) ≤ length t

-- THE INVARIANT: at this place, of the records of the table, some lie behind and the others are left; and what a loop has done
-- with them
pub record Walk (σ : Settings) (t : List ℕ) (at : ℕ) (S : List Record → List Record → Type 0) : Type 0 where
  pub d : Description
  pub done : List Record
  pub left : List Record
  pub accepts : Accepts σ t d (done ++ left)
  pub place : at ≡ place_after done
  pub state : S done left

-- element k stands at a place
pub record Located (σ : Settings) (t : List ℕ) (k at : ℕ) : Type 0 where
  pub d : Description
  pub rs : List Record
  pub accepts : Accepts σ t d rs
  pub r : Record
  pub is_nth : nth rs k ≡ some r
  pub place : at ≡ place_after (take k rs)
  pub here : Here σ.chip t at r
