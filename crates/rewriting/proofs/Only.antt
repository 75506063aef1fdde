-- No second outcome keeps the words of `rewrite`: there is only one list of records and only one verdict.
-- Assumes nothing.
use Prim.Native.Nat.{ℕ}
use native.Mathlib.Omega.{arith}
use mathlib.Core.Path.{◌≡◌, refl}
use mathlib.Core.List.{List, ◌++◌}
use lib.ListN.{length, drop}
use Rattle.format.specs.Slots.{Bytes}
use Rattle.format.specs.Layout.{table}
use Rattle.format.specs.Cleared.{cleared}
use Rattle.format.specs.Answers.{Refused as RefusedTable}
use Rattle.format.specs.Answers.{Written}
use Rattle.format.proofs.Asking.{never_both}
use Rattle.format.proofs.Demand3.{unique, only_one_list}
use Rattle.rewriting.specs.Again.{Rewritten, done, no_room, refused}
use Rattle.format.specs.declared.pins.Chip.{Chip}
use Rattle.format.specs.Writing.{writing}

pub only_rewrite :
    (chip : Chip) (b c : List ℕ) (r r' : Written) (after after' : List ℕ)
    → Bytes b
    → Rewritten chip b c r after
    → Rewritten chip b c r' after'
    → (r ≡ r') × (after ≡ after')
only_rewrite chip b c r r' after after' small (done d rs a h) (done d' rs' a' h') =
    let same = only_one_list (writing chip) b d d' rs rs' small a a' in
    let e : cleared b (table d rs) ++ drop (length b) c ≡ cleared b (table d' rs') ++ drop (length b) c = cc in
    (refl, e)
only_rewrite chip b c r r' after after' small (done d rs a h) (no_room d' rs' a' h') = absurd (omega (arith, h, h'))
only_rewrite chip b c r r' after after' small (done d rs a h) (refused v) = absurd (never_both (writing chip) b d rs small a v)
only_rewrite chip b c r r' after after' small (no_room d rs a h) (done d' rs' a' h') = absurd (omega (arith, h, h'))
only_rewrite chip b c r r' after after' small (no_room d rs a h) (no_room d' rs' a' h') = (refl, refl)
only_rewrite chip b c r r' after after' small (no_room d rs a h) (refused v) = absurd (never_both (writing chip) b d rs small a v)
only_rewrite chip b c r r' after after' small (refused v) (done d rs a h) = absurd (never_both (writing chip) b d rs small a v)
only_rewrite chip b c r r' after after' small (refused v) (no_room d rs a h) = absurd (never_both (writing chip) b d rs small a v)
only_rewrite chip b c r r' after after' small (refused {k = k} {p = p} v) (refused {k = k'} {p = p'} v') =
    let q = unique (writing chip) b (RefusedTable k p) (RefusedTable k' p') small v v' in
    (cc, refl)
