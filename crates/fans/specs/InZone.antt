-- Is there a fan in this zone? Over the records of a table: the first fan or pump of the zone, and the number of elements up to and
-- with it.
-- Assumes nothing.
use Rattle.std.specs.Prelude.{ℕ, ◌+◌, Bool, true, false, ◌||◌, cond, List, [], ◌∷◌, length, eqb}
use Rattle.std.proofs.Math.Option.{Option, none, some}
use Rattle.format.specs.Records.{Record, digital, analogue, fan, led, water, pump, voltage, current, controller, tachometer, zone, string}
use Rattle.format.specs.Records.{external, rgb}
use Rattle.format.specs.Verdict.{Accepts, Verdict}
use Rattle.format.specs.declared.settings.Settings.{Settings}
use Rattle.format.specs.declared.records.Description.{Description}
use Rattle.format.specs.Answers.{Refused as RefusedTable}
use Rattle.fans.specs.declared.Visit.{Visit}
use Rattle.format.specs.Answers.{Answered}
use Rattle.format.specs.Answers.{Gives as Seen, Refused}

-- a 'fan or pump of the zone', 03h or 06h
abbrev pub motor_in : ℕ → Record → Bool
motor_in z (digital d) = false
motor_in z (analogue a) = false
motor_in z (fan f) = eqb f.placement.zone z
motor_in z (led l) = false
motor_in z (water w) = false
motor_in z (pump f) = eqb f.placement.zone z
motor_in z (voltage v) = false
motor_in z (current c) = false
motor_in z (controller d bs) = false
motor_in z (tachometer d a b) = false
motor_in z (zone bytes) = false
motor_in z (string bytes) = false
motor_in z (external x r g b) = false
motor_in z (rgb r) = false

-- the position of the first of them, from 0
abbrev pub later : Option ℕ → Option ℕ
later none = none
later (some k) = some (k + 1)

abbrev pub first_motor : ℕ → List Record → Option ℕ
first_motor z [] = none
first_motor z (r ∷ rs) = cond (motor_in z r) (some 0) (later (first_motor z rs))

-- what a visit gives: whether it met one, and the count
abbrev pub visit : Bool → ℕ → Visit
visit hit count = record { hit = hit; count = count }

-- 'the number of elements visited .. is that element's position plus one, or all of them when there is none'
abbrev pub visits : ℕ → Option ℕ → Visit
visits all none = visit false all
visits all (some k) = visit true (k + 1)

-- THE ANSWER
abbrev pub in_zone : ℕ → List Record → Visit
in_zone z rs = visits (length rs) (first_motor z rs)

-- 'a walk over all elements'
abbrev pub any_motor : ℕ → List Record → Bool
any_motor z [] = false
any_motor z (r ∷ rs) = motor_in z r || any_motor z rs

-- 'an accepted table whose acceptance is already shown', under whichever settings
pub record Shown (b : List ℕ) : Type 0 where
  pub settings : Settings
  pub description : Description
  pub records : List Record
  pub accepts : Accepts settings b description records

-- what the last visit gave, or the table's refusal
abbrev pub Zoned : Type 0
Zoned = Answered Visit

-- 'The public form checks the table first. Refusals: the reader's.'
pub data Zones (σ : Settings) (b : List ℕ) (z : ℕ) : Zoned → Type 0 where
  seen : (d : Description) (rs : List Record) → Accepts σ b d rs → Zones σ b z (Seen (in_zone z rs))
  refused : {j p : ℕ} → Verdict σ b (RefusedTable j p) → Zones σ b z (Refused j p)
