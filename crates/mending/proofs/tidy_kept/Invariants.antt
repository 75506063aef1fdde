-- `tidy_kept` meets its contract: what it has passed is written as its records are, the rest stands as it did.
-- Assumes nothing.
use Prim.Native.Nat.{ℕ, ◌+◌, ◌*◌, ◌≤◌}
use mathlib.Core.Path.{◌≡◌}
use mathlib.Core.List.{List, ◌++◌}
use lib.ListN.{length}
use Rattle.format.specs.Records.{Record}
use Rattle.format.specs.declared.pins.Chip.{Chip}
use Rattle.saving.specs.Saving.{At}
use Rattle.fates.specs.Noted.{Each, Keeps}
use Rattle.mending.specs.Laid.{raws}
use Rattle.mending.proofs.Listing.{Summing}
use Rattle.mending.proofs.Tidying.{Tidying}
use Rattle.mending.proofs.tidy_kept.Given as goal

abbrev pub invariant-loop-held : goal.invariant-loop-held
invariant-loop-held l =
    (length l.out ≡ length l.initial.out)
    × (l.end ≤ 16 + 4096 * l.held-index)
    × Summing l.t l.kept l.held-index l.end
    × ((c : Chip) (ks : List (At Record)) (x y : List ℕ)
    → Each (Keeps c l.t) l.kept ks
    → length x ≡ 16
    → l.initial.out ≡ x ++ (raws l.t l.kept ++ y)
    → Tidying l.t l.kept ks x y l.held-index l.end l.out)
