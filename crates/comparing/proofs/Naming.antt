-- The names of the rows, and the rows of an identifier: each by one test, computed over all of them.
-- Assumes nothing.
use Prim.Native.Nat.{ℕ, ◌+◌, ◌<◌, ◌≤◌}
use Prim.Native.String.{String}
use mathlib.Core.Path.{◌≡◌, refl, sym, ◌∙◌, ap}
use mathlib.Core.Bool.{Bool, true, ◌&&◌}
use mathlib.Core.List.{List, [], map}
use lib.ListN.{length, get_or, take}
use native.Mathlib.Omega.{arith}
use lib.Dec.{leb}
use borrow.Author.Tests.{leb-true}
use Rattle.std.proofs.lemmas.List.{get_or-map, length-map}
use Rattle.format.proofs.Kept.{and-true}
use Rattle.pinsets.proofs.Table.{all_to, at_below}
use Rattle.differing.specs.Fields.{ascii}
use Rattle.comparing.specs.declared.rows.Row.{Row}
use Rattle.comparing.specs.Rows.{names, ways, offsets, way_number, firsts, counts, placeds, name_text}

short : ℕ → Bool
short i = leb (length (name_text i)) 29

all_short : all_to 59 short ≡ true
unfolding short names
all_short = refl

pub short_text : (i : ℕ) → i < 59 → length (name_text i) ≤ 29
unfolding short
short_text i h = leb-true (length (name_text i)) 29 (at_below 59 short all_short i h)

-- how long each is
unfoldable pub lengths : List ℕ
lengths = map (λ (n : String). length (ascii n)) names

within : ℕ → Bool
within i = leb (get_or lengths i 0) 29

all_within : all_to 59 within ≡ true
unfolding within lengths names
all_within = refl

pub short_length : (i : ℕ) → i < 59 → get_or lengths i 0 ≤ 29
unfolding within
short_length i h = leb-true (get_or lengths i 0) 29 (at_below 59 within all_within i h)

-- one column of a constant, read by a number
pub column : {A : Type 0} (f : A → ℕ) (table : List A) {l : List ℕ} → map f table ≡ l → (i : ℕ) → i < length l → (d : A)
    → f (get_or table i d) ≡ get_or l i 0
column f table {l} is i h d =
    let many : length table ≡ length l = simp length-map at (ap length is) in
    sym (get_or-map f table i d 0 (omega (arith, many, h))) ∙ ap (λ (m : List ℕ). get_or m i 0) is

-- what the constant holds
module _ (table : List Row) (i : ℕ) (h : i < 59) where
  module _ (is : map (λ (r : Row). take r.1 r.0) table ≡ map ascii names) where
    pub name_here : (d : Row) → take (get_or table i d).1 (get_or table i d).0 ≡ name_text i
    unfolding names
    name_here d =
        let many : length table ≡ 59 = omega (arith, simp length-map at (ap length is)) in
        sym (get_or-map (λ (r : Row). take r.1 r.0) table i d [] (omega (arith, many)))
        ∙ ap (λ (l : List (List ℕ)). get_or l i []) is
        ∙ get_or-map ascii names i "" [] h

  pub length_here : map (λ (r : Row). r.1) table ≡ lengths → (d : Row) → (get_or table i d).1 ≡ get_or lengths i 0
  unfolding lengths names
  length_here is d = column (λ (r : Row). r.1) table is i h d

  pub way_here : map (λ (r : Row). way_number r.2) table ≡ ways → (d : Row) → way_number (get_or table i d).2 ≡ get_or ways i 0
  unfolding ways
  way_here is d = column (λ (r : Row). way_number r.2) table is i h d

  pub offset_here : map (λ (r : Row). r.3) table ≡ offsets → (d : Row) → (get_or table i d).3 ≡ get_or offsets i 0
  unfolding offsets
  offset_here is d = column (λ (r : Row). r.3) table is i h d

-- the rows of an identifier are rows
bounds : ℕ → Bool
bounds k = leb (get_or placeds k 0) 59 && leb (get_or firsts k 0 + get_or counts k 0) 59

all_bounded : all_to 15 bounds ≡ true
unfolding bounds placeds firsts counts
all_bounded = refl

pub bounded : (k : ℕ) → k < 15 → (get_or placeds k 0 ≤ 59) × (get_or firsts k 0 + get_or counts k 0 ≤ 59)
unfolding bounds
bounded k h =
    let p = and-true (leb (get_or placeds k 0) 59) (leb (get_or firsts k 0 + get_or counts k 0) 59) (at_below 15 bounds all_bounded k h) in
    (leb-true (get_or placeds k 0) 59 p.0, leb-true (get_or firsts k 0 + get_or counts k 0) 59 p.1)
