-- First places by number: what they say of the elements so far, and the least of them.
-- Assumes nothing.
use Rattle.std.specs.Prelude.{ℕ, ◌+◌, ◌<◌, ◌≤◌, ◌≡◌, Bool, true, false, List, [], ◌∷◌, length, get_or, set, eqb, ltb}
use Rattle.std.proofs.Math.Option.{Option, none, some}
use Rattle.format.specs.Records.{Record}
use Rattle.format.specs.Layout.{layout}
use Rattle.format.specs.Pins.{among}
use Rattle.format.specs.ZonesAndStrings.{Role, role}

-- a number is named at a place: the first time counts
abbrev pub note_by : Bool → List ℕ → ℕ → ℕ → List ℕ
note_by true l n at = set l n at
note_by false l n at = l

abbrev pub noted : List ℕ → ℕ → ℕ → List ℕ
noted l n at = note_by (eqb (get_or l n 0) 0) l n at

-- where the first element is that names a number, of elements that start at a place; 0 where there is none
abbrev pub pick : Bool → ℕ → ℕ → ℕ
pick true a b = a
pick false a b = b

abbrev pub first_place : (Role → List ℕ) → ℕ → ℕ → List Record → ℕ
first_place names n at [] = 0
first_place names n at (r ∷ rs) = pick (among n (names (role r))) at (first_place names n (at + length (layout r)) rs)

pub record Firsts (names : Role → List ℕ) (l : List ℕ) (rs : List Record) : Type 0 where
  pub size : length l ≡ 256
  pub place : (n : ℕ) → n < 256 → get_or l n 0 ≡ first_place names n 16 rs

-- the lesser of two places, of which 0 is none
abbrev pub lesser : ℕ → ℕ → ℕ
lesser a b = pick (eqb b 0) a (pick (eqb a 0) b (pick (ltb b a) b a))

-- the least place of a number below n that is not seen
pub record LeastTo (n : ℕ) (l : List ℕ) (s : List Bool) (r : ℕ) : Type 0 where
  pub none_there : r ≡ 0 → (i : ℕ) → i < n → get_or s i false ≡ false → get_or l i 0 ≡ 0
  pub one_there : (r ≡ 0 → ⊥) → (i : ℕ) × (i < n) × (get_or s i false ≡ false) × (get_or l i 0 ≡ r)
  pub no_less : (i : ℕ) → i < n → get_or s i false ≡ false → (get_or l i 0 ≡ 0 → ⊥) → r ≤ get_or l i 0

-- a refusal's place, 0 where there is none
abbrev pub or_zero : Option ℕ → ℕ
or_zero none = 0
or_zero (some p) = p
