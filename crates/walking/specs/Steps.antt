-- What a step of the walk gives: the place where it stands, or, at the end of the bytes, nothing.
-- Assumes nothing.
use Rattle.std.specs.Prelude.{ℕ, ◌+◌, ◌≤◌, ◌<◌, ◌≡◌, length, drop, MatchOption}
use Rattle.std.specs.declared.option.Option.{Option}
use Rattle.format.specs.Verdict.{stated}
use Rattle.walking.specs.declared.Places.{Places}

abbrev pub GivesPlace : Places → Option ℕ → Places → Type 0
GivesPlace s r s' =
    (s'.table.now ≡ s.table.now)
    × MatchOption r
    ((length s.table.now ≤ s.at) × (s'.at ≡ s.at))
    (λ p. (p ≡ s.at) × (s.at < length s.table.now) × (s'.at ≡ s.at + stated (drop s.at s.table.now)))
