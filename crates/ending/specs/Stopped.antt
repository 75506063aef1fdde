-- What the end of a table that came in pieces says: the number of a rule is what the lent state holds.
-- Assumes nothing.
use Rattle.std.specs.Prelude.{ℕ, Result, Ok, Err}
use Rattle.format.specs.Answers.{Answer, Gives, Refused}
use Rattle.ending.specs.declared.Stop.{Stop}

abbrev pub ended : Result ℕ Stop → Answer
ended (Ok n) = Gives n
ended (Err s) = Refused s.number s.place
