-- Whether there is a fan or a pump in a zone, as one number, with the number of elements visited.
-- Assumes nothing.
use Rattle.std.specs.Prelude.{ℕ, ◌+◌, ◌*◌, ◌≤◌, ◌≡◌, Bool, cond, List}
use Rattle.format.specs.declared.settings.Settings.{Settings}
use Rattle.fans.specs.InZone.{Zones}
use Rattle.fans.specs.InZone.{Zoned}
use Rattle.format.specs.Answers.{Gives as Seen, Refused}
use Rattle.esa.specs.Face.{packs}

-- beside 0: twice the number of elements visited, and 1 more where there is one
abbrev pub one_if : Bool → ℕ
one_if found = cond found 1 0

abbrev pub packed_zoned : Zoned → ℕ
packed_zoned (Seen v) = packs 0 (2 * v.count + one_if v.hit)
packed_zoned (Refused j p) = packs j p

-- no count and no place that is too large
abbrev pub Bounded : Zoned → Type 0
Bounded (Seen v) = v.count ≤ 96
Bounded (Refused j p) = p ≤ 4096

pub record FanFor (σ : Settings) (b : List ℕ) (z r : ℕ) : Type 0 where
  pub answer : Zoned
  pub zones : Zones σ b z answer
  pub number : r ≡ packed_zoned answer
