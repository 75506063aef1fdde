-- A trace begins: the answer as one number, and the state.
-- Assumes nothing.
use Rattle.std.specs.Prelude.{ℕ, ◌≡◌, List}
use Rattle.format.specs.Writing.{writing}
use Rattle.format.specs.declared.pins.Chip.{Chip}
use Rattle.format.specs.Answers.{Answer}
use Rattle.readying.specs.Starting.{StartIs}
use Rattle.esa.specs.Face.{packed}

pub record TraceStartFor (c : Chip) (t n s ts : List ℕ) (r : ℕ) (n' s' ts' : List ℕ) : Type 0 where
  pub answer : Answer
  pub started : StartIs (writing c) t n s ts answer n' s' ts'
  pub number : r ≡ packed answer
