-- The reader's walk over speed blocks, which stays on the last block, leads where the cut leads: past the end both stand still.
-- Assumes nothing.
use Prim.Native.Nat.{ℕ, zero, suc, ◌+◌, ◌*◌, ◌<◌, ◌≤◌}
use native.Mathlib.Omega.{arith}
use mathlib.Core.Path.{◌≡◌, refl, sym, ◌∙◌, ap}
use mathlib.Core.Logic.{⊎_elim}
use mathlib.Core.Bool.{Bool, true, false, ◌&&◌}
use mathlib.Core.List.{List}
use mathlib.Core.Option.{Option, none, some}
use lib.Dec.{eqb, ltb}
use lib.ListN.{length}
use borrow.Author.Tests.{lt-ltb, le-ltb, eq-eqb, ne_eqb}
use Rattle.format.specs.Slots.{byte}
use Rattle.format.specs.Records.{Block}
use Rattle.format.specs.Decode.{cut_blocks}
use Rattle.blocks.specs.Cutting.{cut, enter, past_block, cut_from, cut_of, SpeedsAre, SpeedPart}
use Rattle.blocks.specs.declared.Cut.{Cut}
use Rattle.blocks.specs.declared.Part.{Part}
use Rattle.blocks.proofs.Counting.{less_or_not}
use Rattle.blocks.proofs.EachKind.{speed_law}

-- a block's ENTRIES byte, and where the next one would stand; past the end of the part the block is the last, and has a pair
pub record Stands (p : List ℕ) (at end : ℕ) : Type 0 where
  pub there : at < length p
  pub begun : end < length p → at ≡ end
  pub last : length p ≤ end → (at + 2 + 4 * byte p at ≡ end) × (byte p at ≡ 0 → ⊥)

-- a block with no pair is not forgotten
unfilled : (n : ℕ) (p : List ℕ) (at : ℕ) → (cut_from n 1 p (cut at false)).full ≡ false
unfilled zero p at = refl
unfilled (suc n) p at = go (ltb at (length p)) (λ i. unfilled n p i)
  where
    go :
        (t : Bool)
        → ((i : ℕ) → (cut_from n 1 p (cut i false)).full ≡ false)
        → (cut_from n 1 p (enter t 1 (byte p at) (cut at false))).full ≡ false
    go true rec = rec (at + 1 + 1 + 4 * byte p at)
    go false rec = rec at

-- it begins on a block, and every step ends on one, moved or not
pub moved : (p : List ℕ) (next : ℕ) → next < length p → Stands p next next
moved p next l = record { there = l; begun = λ _. refl; last = λ m. absurd (omega (arith, l, m)) }

module _ (p : List ℕ) (at end : ℕ) (s : Stands p at end) where
  -- the step is the cut's
  pub onward : (byte p at ≡ 0 → ⊥) → (next : ℕ) → next ≡ at + 2 + 4 * byte p at → cut next true ≡ past_block 1 p (cut end true)
  onward h next e =
      ⊎_elim
      (λ l. let q = s.begun l in
      rw (lt-ltb end (length p) l, ne_eqb (byte p end) 0 (λ z. h (ap (byte p) q ∙ z)))
      (ap (λ (i : ℕ). cut i true) (e ∙ omega (arith, q, ap (byte p) q))))
      (λ l. rw (le-ltb end (length p) l) (ap (λ (i : ℕ). cut i true) (e ∙ (s.last l).0)))
      (less_or_not end (length p))

  pub stayed : (byte p at ≡ 0 → ⊥) → (next : ℕ) → next ≡ at + 2 + 4 * byte p at → length p ≤ next → Stands p at next
  stayed h next e l = record { there = s.there; begun = λ m. absurd (omega (arith, l, m)); last = λ _. (sym e, h) }

  -- a block with no pair is no last one, so the cut meets it too
  met : byte p at ≡ 0 → past_block 1 p (cut end true) ≡ cut (end + 1 + 1 + 4 * byte p end) false
  met z =
      ⊎_elim
      (λ l. rw (lt-ltb end (length p) l, eq-eqb (byte p end) 0 (sym (ap (byte p) (s.begun l)) ∙ z)) refl)
      (λ l. absurd ((s.last l).1 z))
      (less_or_not end (length p))

  pub emptied : (n : ℕ) → byte p at ≡ 0 → (cut_from (suc n) 1 p (cut end true)).full ≡ false
  emptied n z = ap (λ (c : Cut). (cut_from n 1 p c).full) (met z) ∙ unfilled n p (end + 1 + 1 + 4 * byte p end)

-- so the part is whole as it would be else, and 9 is broken
pub unfilled_part :
    (p : List ℕ) (r : Part)
    → (cut_of 6 1 p).full ≡ false
    → SpeedPart p r
    → SpeedPart p (record { whole = r.whole; full = false })
unfilled_part p r f h m l =
    go (cut_blocks m p) _ (h m l)
    (speed_law p (record { whole = eqb (cut_of 6 1 p).at (length p + 1) && ltb 1 (cut_of 6 1 p).at; full = (cut_of 6 1 p).full }) refl refl
    m l)
  where
    go :
        (o : Option (List Block)) (w : Bool)
        → SpeedsAre r o
        → SpeedsAre (record { whole = w; full = (cut_of 6 1 p).full }) o
        → SpeedsAre (record { whole = r.whole; full = false }) o
    go none w a b = a
    go (some bs) w a b = (a.0, λ t. sym f ∙ b.1 (b.0 ∙ sym a.0 ∙ t))
