-- The sheet as 25 numbers in a lent place, and what the calls leave there.
-- Assumes nothing.
use Rattle.std.specs.Prelude.{ℕ, suc, ◌≡◌, Bool, ◌&&◌, cond, List, [], ◌∷◌, length, get_or, eqb}
use Rattle.format.specs.Records.{Record}
use Rattle.format.specs.Pins.{every}
use Rattle.format.specs.Verdict.{Accepts, Verdict}
use Rattle.format.specs.declared.settings.Settings.{Settings}
use Rattle.format.specs.declared.records.Description.{Description}
use Rattle.format.specs.Answers.{Answer}
use Rattle.format.specs.Answers.{Gives as Accepted, Refused}
use Rattle.pinsheet.specs.Sheet.{Claimant, free, fault, place}

-- a claimant as a number: 65,535 is free, 65,534 the fault LED, any other the place
abbrev pub number_of : Claimant → ℕ
number_of free = 65535
number_of fault = 65534
number_of (place n) = n

abbrev pub claimant_of : ℕ → Claimant
claimant_of n = cond (eqb n 65535) free (cond (eqb n 65534) fault (place n))

-- numbers read as a sheet: one for each of these pins, from a place on
abbrev pub read_from : ℕ → List ℕ → List ℕ → List Claimant
read_from k [] ns = []
read_from k (pin ∷ pins) ns = claimant_of (get_or ns k 0) ∷ read_from (suc k) pins ns

unfoldable pub read : List ℕ → List Claimant
read ns = read_from 0 every ns

-- 25 numbers that are a sheet (proofs/Only, `as_numbers`: each is its claimant's)
pub record Lines (sh : List Claimant) (ns : List ℕ) : Type 0 where
  pub size : length ns ≡ 25
  pub lines : read ns ≡ sh

-- a pin's number after an element at a place claims it, or does not: where it was free, that place
abbrev pub line_from : ℕ → Bool → ℕ → ℕ
line_from at claimed old = cond (eqb old 65535 && claimed) at old

-- the numbers that a call is to leave of a table's one list of records
pub record Filled (σ : Settings) (b : List ℕ) (f : Description → List Record → List Claimant) (new : List ℕ) : Type 0 where
  pub d : Description
  pub rs : List Record
  pub accepts : Accepts σ b d rs
  pub left : Lines (f d rs) new

-- what a call leaves and answers, beside 0 the number of elements: 'Refusals: the reader's; the old sheet is kept'
pub data Leaves (σ : Settings) (b : List ℕ) (f : Description → List Record → List Claimant) (old : List ℕ) : Answer → List ℕ → Type 0 where
  filled : {new : List ℕ} (n : Filled σ b f new) → Leaves σ b f old (Accepted (length n.rs)) new
  kept : {k p : ℕ} → Verdict σ b (Refused k p) → Leaves σ b f old (Refused k p) old
