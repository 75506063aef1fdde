-- What the results of the pass say, as numbers: a rule's number or 0, and what is so far. A step that a rule stops leaves the state.
-- Assumes nothing.
use Rattle.std.specs.Prelude.{ℕ, Option, Some, None, Result, Ok, Err}
use Rattle.format.specs.Answers.{rule_number}
use Rattle.format.specs.declared.answers.Rule.{Rule}
use Rattle.pass.specs.declared.State.{State}
use Rattle.pass.specs.declared.Moved.{Moved as MovedOver}
use Rattle.pass.specs.declared.Passed.{Passed}

-- a step from a state
pub record Step : Type 0 where
  pub stop : ℕ
  pub state : State

-- the number of what stops, or 0
abbrev pub fault_by : {A E : Type 0} → (E → ℕ) → Result A E → ℕ
fault_by number (Ok a) = 0
fault_by number (Err e) = number e

abbrev pub stepped_by : {E : Type 0} → (E → ℕ) → State → Result State E → Step
stepped_by number s (Ok t) = record { stop = 0; state = t }
stepped_by number s (Err e) = record { stop = number e; state = s }

abbrev pub stepped : State → Result State Rule → Step
stepped = stepped_by rule_number

-- a step, and the length of what was stepped over
pub record Moved : Type 0 where
  pub stop : ℕ
  pub len : ℕ
  pub state : State

abbrev pub moved : State → Result MovedOver Rule → Moved
moved s (Ok m) = record { stop = 0; len = m.len; state = m.state }
moved s (Err r) = record { stop = rule_number r; len = 0; state = s }

-- the whole pass
pub record Over : Type 0 where
  pub stop : ℕ
  pub place : ℕ
  pub state : State

abbrev pub stop_number : Option Rule → ℕ
stop_number None = 0
stop_number (Some r) = rule_number r

abbrev pub over : Passed → Over
over p = record { stop = stop_number p.stop; place = p.place; state = p.state }
