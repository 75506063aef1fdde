-- What is kept, from a position on: its layout, and the loop over its length.
-- Assumes nothing.
use Prim.Native.Nat.{ℕ, ◌+◌, ◌≤◌, ◌<◌}
use native.Mathlib.Omega.{arith}
use native.Mathlib.Numerals.{add-one}
use mathlib.Core.Path.{◌≡◌, sym, ◌∙◌, ap}
use mathlib.Core.List.{List, [], ◌++◌}
use lib.ListN.{length, drop, get_or, length-append, drop_of_length-le}
use Rattle.format.specs.Slots.{Slot, written}
use Rattle.format.specs.Records.{Record}
use Rattle.format.specs.Layout.{layout, layouts, place_after}
use Rattle.format.specs.Verdict.{stated}
use Rattle.format.specs.declared.pins.Chip.{Chip}
use Rattle.format.proofs.Whole.{written_append}
use Rattle.saving.specs.Saving.{At, records}
use Rattle.fates.specs.declared.Kept.{Kept}
use Rattle.fates.specs.Noted.{Each, Keeps}
use Rattle.fates.proofs.Noting.{Spot, each_at, each_length}
use Rattle.std.proofs.lemmas.List.{get_or_default}
use Rattle.mending.specs.Laid.{LengthIs, nobody, place_at}

-- what the code reads at a position
module _ (kept : List Kept) (i : ℕ) (b : i < length kept) (v : Kept) where
  pub entry_is : get_or kept i v ≡ get_or kept i nobody
  entry_is = get_or_default kept i v nobody b

  pub place_is : {p : ℕ} → p ≡ (get_or kept i v).place → p ≡ place_at kept i
  place_is e = e ∙ ap (λ (k : Kept). k.place) entry_is

-- what is left of the layout from a position on
abbrev pub leftover : List (At Record) → ℕ → List Slot
leftover ks i = layouts (records (drop i ks))

module _ (c : Chip) (t : List ℕ) (kept : List Kept) (ks : List (At Record)) (all : Each (Keeps c t) kept ks) where
  module _ (i : ℕ) (b : i < length kept) where
    pub spot : Spot (Keeps c t) kept ks i
    spot = each_at (Keeps c t) kept ks i all b

    pub keeps_at : Keeps c t (get_or kept i nobody) spot.x
    keeps_at = spot.stands nobody

    next_left : leftover ks i ≡ layout spot.x.what ++ leftover ks (i + 1)
    next_left =
        ap (λ (l : List (At Record)). layouts (records l)) spot.same
        ∙ ap (λ (m : ℕ). layout spot.x.what ++ leftover ks m) (sym (add-one i))

    pub left_length : length (leftover ks i) ≡ length (layout spot.x.what) + length (leftover ks (i + 1))
    left_length = ap length next_left ∙ length-append (layout spot.x.what) (leftover ks (i + 1))

    pub left_written : written (leftover ks i) ≡ written (layout spot.x.what) ++ written (leftover ks (i + 1))
    left_written = ap written next_left ∙ written_append (layout spot.x.what) (leftover ks (i + 1))

  pub none_left : (i : ℕ) → length kept ≤ i → leftover ks i ≡ []
  none_left i b =
      ap (λ (l : List (At Record)). layouts (records l))
      (drop_of_length-le ks {i = i} (omega (arith, b, each_length (Keeps c t) kept ks all)))

-- THE INVARIANT of the length: so far, and what is left, are the whole
abbrev pub Summing : List ℕ → List Kept → ℕ → ℕ → Type 0
Summing t kept i end =
    (c : Chip) (ks : List (At Record)) → Each (Keeps c t) kept ks → end + length (leftover ks i) ≡ place_after (records ks)

pub sum_on :
    (t : List ℕ) (kept : List Kept) (i end len : ℕ)
    → i < length kept
    → len ≡ stated (drop (place_at kept i) t)
    → ((c : Chip) (k : At Record) → Keeps c t (get_or kept i nobody) k → length (layout k.what) ≡ stated (drop (place_at kept i) t))
    → Summing t kept i end
    → Summing t kept (i + 1) (end + len)
sum_on t kept i end len b e size w c ks all =
    omega (
      arith,
      w c ks all,
      left_length c t kept ks all i b,
      size c (spot c t kept ks all i b).x (keeps_at c t kept ks all i b),
      e,
    )

pub sum_ends : (t : List ℕ) (kept : List Kept) (i end : ℕ) → length kept ≤ i → Summing t kept i end → LengthIs t kept end
sum_ends t kept i end b w c ks all = omega (arith, w c ks all, ap length (none_left c t kept ks all i b))
