-- The pin sheet of a table (9/14), over its records: for each pin the place of its first claimant in claim order.
-- Assumes nothing.
use Rattle.std.specs.Prelude.{ℕ, ◌+◌, ◌≡◌, cond, length, eqb}
use mathlib.Core.List.{List, [], ◌∷◌, map, Memᴰ}
use Rattle.format.specs.Records.{Record}
use Rattle.format.specs.Layout.{layout}
use Rattle.format.specs.Pins.{every}
use Rattle.format.specs.Claims.{Made, made_at, claims_of, claims}
use Rattle.format.specs.declared.records.Description.{Description}

-- who claims a pin: nobody (`-`), 'the fault LED' (`L`), or who stands at a place, '0 for the description'
pub data Claimant : Type 0 where
  free : Claimant
  fault : Claimant
  place : ℕ → Claimant

-- the place of the first of some claims that names a pin, shared claims too
abbrev pub first_of : ℕ → List Made → Claimant
first_of pin [] = free
first_of pin (m ∷ ms) = cond (eqb pin m.what.pin) (place m.place) (first_of pin ms)

-- 'first claimant in claim order': of all claims the fault LED's, on P1.0, is the first
abbrev pub entry : Description → List Record → ℕ → Claimant
entry d rs pin = cond (eqb pin 0x10) fault (first_of pin (claims d rs))

-- THE SHEET, over the 25 pins from P0.0 up. Those that the 321 lacks stand on it too, and are free (proofs/Sheet, `lacking_free`)
abbrev pub sheet : Description → List Record → List Claimant
sheet d rs = map (entry d rs) every

-- 'no claim names it'
abbrev pub Unnamed : ℕ → List Made → Type 0
Unnamed pin ms = (m : Made) → Memᴰ m ms → pin ≡ m.what.pin → ⊥

-- an entry of the old sheet, and where it is free another
abbrev pub or_else : Claimant → Claimant → Claimant
or_else free e = e
or_else fault e = fault
or_else (place n) e = place n

-- claims entered on a sheet over these pins: a pin that was free gets the first of them that names it
abbrev pub entered : List ℕ → List Made → List Claimant → List Claimant
entered [] ms old = []
entered (pin ∷ pins) ms [] = []
entered (pin ∷ pins) ms (e ∷ old) = or_else e (first_of pin ms) ∷ entered pins ms old

-- the claims of the last of some elements that start at a place; none where there is no element
abbrev pub last_claims : ℕ → List Record → List Made
last_claims at [] = []
last_claims at (r ∷ []) = made_at at (claims_of r)
last_claims at (r ∷ s ∷ rs) = last_claims (at + length (layout r)) (s ∷ rs)

-- 'the sheet brought forward from the old one': with the claims of the new table's last element
abbrev pub forward : List Record → List Claimant → List Claimant
forward rs old = entered every (last_claims 16 rs) old

-- the sheet before any claim but the fault LED's
abbrev pub blank : List ℕ → List Claimant
blank pins = map (λ pin. cond (eqb pin 0x10) fault free) pins
