-- How long a table is, how long the elements before a place, and how many there may be.
-- Assumes nothing.
use Prim.Native.Nat.{ℕ, ◌+◌, ◌≤◌}
use native.Mathlib.Omega.{arith}
use mathlib.Core.Path.{◌≡◌, refl, sym, ◌∙◌, ap}
use mathlib.Core.List.{List, [], ◌∷◌, ◌++◌, append-nil, append_assoc}
use lib.ListN.{length, length-append}
use Rattle.format.specs.Slots.{Slot, Fits}
use Rattle.format.specs.Records.{Record}
use Rattle.format.specs.Layout.{layout, layouts}
use Rattle.format.specs.Table.{PassKept}
use Rattle.format.proofs.Slots.{starts_count}
use Rattle.format.specs.declared.settings.Settings.{Settings}

pub fits_length : (c : List ℕ) (ss : List Slot) → Fits c ss → length c ≡ length ss
fits_length c ss h = omega (arith, starts_count c ss [] h)

pub layouts_append : (rs ss : List Record) → layouts (rs ++ ss) ≡ layouts rs ++ layouts ss
layouts_append [] ss = refl
layouts_append (r ∷ rs) ss = ap (λ (l : List Slot). layout r ++ l) (layouts_append rs ss)
    ∙ sym (append_assoc (layout r) (layouts rs) (layouts ss))

-- one element more
pub layouts_snoc : (rs : List Record) (r : Record) → layouts (rs ++ r ∷ []) ≡ layouts rs ++ layout r
layouts_snoc rs r = layouts_append rs (r ∷ []) ∙ ap (λ (l : List Slot). layouts rs ++ l) (append-nil (layout r))

pub snoc_length : (rs : List Record) (r : Record) → length (layouts (rs ++ r ∷ [])) ≡ length (layouts rs) + length (layout r)
snoc_length rs r = ap length (layouts_snoc rs r) ∙ length-append (layouts rs) (layout r)

-- 11: '0 to 96 elements'
pub at_most_96 : (s : Settings) (before rs : List Record) → length before ≤ 96 → PassKept s before rs → length before + length rs ≤ 96
at_most_96 s before [] h k = omega (arith, h)
at_most_96 s before (r ∷ rs) h k =
    let n = length-append before (r ∷ []) in
    omega (arith, n, at_most_96 s (before ++ r ∷ []) rs (omega (arith, n, k.0)) k.2)
