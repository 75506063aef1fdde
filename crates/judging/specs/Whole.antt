-- What is to be said of an element, from what is held of it when it is whole.
-- Assumes nothing.
use Rattle.std.specs.Prelude.{ℕ, ◌<◌, ◌≤◌, ◌≡◌, false, List, length, drop, eqb}
use Rattle.format.specs.Slots.{byte}
use Rattle.format.specs.Records.{string}
use Rattle.format.specs.Rules.{numbered, first_broken, own_rules}
use Rattle.format.specs.declared.settings.Settings.{Settings}
use Rattle.blocks.specs.Cutting.{SpeedPart, PairsPart}
use Rattle.blocks.specs.declared.Part.{Part}
use Rattle.found.specs.Judged.{Judged}
use Rattle.found.specs.Judged.{Finding}
use Rattle.underway.specs.Under.{CutIs, UnderIs}
use Rattle.underway.specs.declared.Under.{Under}

-- the blocks of an element, cut as far as its bytes go
abbrev pub CutTo : ℕ → ℕ → Under → List ℕ → Type 0
CutTo lead most u v = 12 < length v → CutIs lead most u.at u.blocks (eqb u.mark 0) v

pub record SpeedIs (u : Under) (r : Part) : Type 0 where
  pub short : u.len ≤ 12 → r.whole ≡ false
  pub says : (v : List ℕ) → u.len ≡ length v → CutTo 1 6 u v → SpeedPart (drop 11 v) r

pub record PairsIs (n : ℕ) (u : Under) (r : Part) : Type 0 where
  pub short : u.len ≤ 12 → r.whole ≡ false
  pub says : (v : List ℕ) → u.len ≡ length v → CutTo 0 n u v → PairsPart n (drop 12 v) r

-- a whole element is judged as if all its bytes were there
pub record DeviceIs (s : Settings) (id : ℕ) (u : Under) (head : List ℕ) (r : Finding) : Type 0 where
  pub judged : (v : List ℕ) → UnderIs u head v → byte v 0 ≡ id → Judged s id (drop 3 v) r

pub record TextIs (u : Under) (head : List ℕ) (r : ℕ) : Type 0 where
  pub says : (v : List ℕ) → UnderIs u head v → byte v 0 ≡ 12 → (s : Settings) → r ≡ numbered (first_broken (own_rules s (string (drop 3 v))))

pub record NumberIs (u : Under) (head : List ℕ) (r : ℕ) : Type 0 where
  pub says : (v : List ℕ) → UnderIs u head v → r ≡ byte (drop 3 v) 0
