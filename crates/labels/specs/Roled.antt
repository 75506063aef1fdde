-- What the code reads at a place where an element stands, by what the element is to the others.
-- Assumes nothing.
use Rattle.std.specs.Prelude.{ℕ, ◌+◌, ◌≤◌, ◌≡◌, List, length, drop}
use Rattle.format.specs.Slots.{byte}
use Rattle.format.specs.Records.{string_number}
use Rattle.format.specs.ZonesAndStrings.{Role, placed, zoning, naming}
use Rattle.format.specs.Verdict.{stated}
use Rattle.places.specs.Walks.{RoleBytes}

-- a string: its length and its number
pub record StringBytes (t : List ℕ) (at : ℕ) (bytes : List ℕ) : Type 0 where
  pub long : 3 ≤ length bytes
  pub size : stated (drop at t) ≡ 3 + length bytes
  pub number : byte t (at + 3) ≡ string_number bytes

abbrev pub IfString : List ℕ → ℕ → Role → Type 0
IfString t at (placed p) = Unit {0}
IfString t at (zoning bytes) = Unit {0}
IfString t at (naming bytes) = StringBytes t at bytes

pub record Roled (t : List ℕ) (at : ℕ) (x : Role) : Type 0 where
  pub kind : RoleBytes t at x
  pub within : at + stated (drop at t) ≤ length t
  pub string : IfString t at x
