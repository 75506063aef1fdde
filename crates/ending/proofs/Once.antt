-- What a result of the end says is said by no other result.
-- Assumes nothing.
use Prim.Native.Nat.{ℕ}
use mathlib.Core.Path.{◌≡◌, refl, sym, ◌∙◌, ap}
use Rattle.std.specs.Prelude.{Result, Ok, Err}
use Rattle.format.specs.Answers.{Answer, Gives, Refused}
use Rattle.ending.specs.Stopped.{ended}
use Rattle.ending.specs.declared.Stop.{Stop}

abbrev result_of : Answer → Result ℕ Stop
result_of (Gives n) = Ok n
result_of (Refused k p) = Err (record { number = k; place = p })

ended_back : (r : Result ℕ Stop) → result_of (ended r) ≡ r
ended_back (Ok n) = refl
ended_back (Err s) = refl

pub ended_once : (r q : Result ℕ Stop) → ended r ≡ ended q → r ≡ q
ended_once r q e = sym (ended_back r) ∙ ap result_of e ∙ ended_back q
