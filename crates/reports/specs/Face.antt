-- What the three calls answer over the C face.
-- Assumes nothing.
use Rattle.std.specs.Prelude.{ℕ, ◌+◌, ◌*◌, ◌≡◌, List}
use Rattle.format.specs.Answers.{number_of, value_of}
use Rattle.format.specs.declared.settings.Settings.{Settings}
use Rattle.format.specs.Answers.{Answer}
use Rattle.pass.specs.Tracks.{Flags}
use Rattle.receiving.specs.Receiving.{StartIs, EndIs}

-- the number of 'What comes back', and 256 times what stands beside it
abbrev pub packed : Answer → ℕ
packed a = number_of a + 256 * value_of a

pub record StartedFor (σ : Settings) (r : ℕ) (n first head : List ℕ) : Type 0 where
  pub zero : r ≡ 0
  pub starts : StartIs σ n first head

pub record EndedFor (n first : List ℕ) (f : Flags) (zp sp : List ℕ) (r : ℕ) (n' : List ℕ) : Type 0 where
  pub answer : Answer
  pub ends : EndIs n first f zp sp answer n'
  pub number : r ≡ packed answer
