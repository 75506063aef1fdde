-- Flags that say which numbers are in a list.
-- Assumes nothing.
use Rattle.std.specs.Prelude.{ℕ, zero, suc, ◌<◌, ◌≡◌, Bool, true, false, ◌&&◌, ◌||◌, not, List, length, get_or}
use Rattle.format.specs.Pins.{among}

pub record Marks (l : List Bool) (ns : List ℕ) : Type 0 where
  pub size : length l ≡ 256
  pub low : (i : ℕ) → among i ns ≡ true → i < 256
  pub flag : (i : ℕ) → i < 256 → get_or l i false ≡ among i ns

-- a number below n is used and not seen
abbrev pub lacks_to : ℕ → List Bool → List Bool → Bool
lacks_to zero u s = false
lacks_to (suc n) u s = lacks_to n u s || (get_or u n false && not (get_or s n false))

-- what the search says: every number that is used is seen, or there is one that is not
pub record Lacks (u s : List Bool) (r : Bool) : Type 0 where
  pub none : r ≡ false → (i : ℕ) → i < 256 → get_or u i false ≡ true → get_or s i false ≡ true
  pub one : r ≡ true → (i : ℕ) × (i < 256) × (get_or u i false ≡ true) × (get_or s i false ≡ false)
