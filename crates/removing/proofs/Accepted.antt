-- What the call's words say of the table that is left: it is accepted, with the other records in their order; the bytes past it are what
-- they were; and a refusal alters nothing.
-- Assumes nothing.
use Prim.Native.Nat.{ℕ, suc, ◌≤◌}
use native.Mathlib.Omega.{arith}
use mathlib.Core.Path.{◌≡◌, refl, sym, ◌∙◌, ap, subst}
use mathlib.Core.List.{List, ◌∷◌}
use lib.ListN.{length, take, drop, length-append}
use lib.Seq.{drop_at}
use Rattle.format.specs.Records.{Record}
use Rattle.format.specs.Layout.{layout, layouts, table}
use Rattle.format.specs.Verdict.{Accepts}
use Rattle.format.specs.Answers.{value_of}
use Rattle.format.specs.Writing.{writing}
use Rattle.format.specs.declared.pins.Chip.{Chip}
use Rattle.format.specs.declared.records.Description.{Description}
use Rattle.format.specs.Answers.{Refused as RefusedTable}
use Rattle.format.specs.Answers.{Written}
use Rattle.format.specs.Answers.{Gives as Length, Refused}
use Rattle.format.proofs.Asking.{nth_split}
use Rattle.format.proofs.Lengths.{fits_length, layouts_append}
use Rattle.reader.proofs.Bounds.{value_bound}
use Rattle.removal.specs.Taking.{without, place_of, closed_up}
use Rattle.removal.proofs.Closing.{left_length, closed_accepted, closed_front}
use Rattle.removing.specs.Removed.{Removed, Taken, refused, judged, past, stays_named, out}

-- 'the result is accepted. The other records stay the same in the same order, and so do the bytes past the new length'
pub record Left (chip : Chip) (b : List ℕ) (k n : ℕ) (after : List ℕ) : Type 0 where
  pub description : Description
  pub records : List Record
  pub was : Accepts (writing chip) b description records
  pub is : Accepts (writing chip) (take n after) description (without k records)
  pub past_it : drop n after ≡ drop n b

pub left_accepted : (chip : Chip) (b : List ℕ) (k n : ℕ) (after : List ℕ) → Removed chip b k (Length n) after → Left chip b k n after
left_accepted chip b k n after (judged d rs a taken) = go taken
  where
    go : {n : ℕ} {after : List ℕ} → Taken b d rs k (Length n) after → Left chip b k n after
    go {n = n} (out {r = r} at h) =
        let σ = writing chip in
        let c = closed_up b (place_of rs k) (length (layout r)) in
        record {
          description = d;
          records = rs;
          was = a;
          is = subst (λ (l : List ℕ). Accepts σ l d (without k rs)) (sym (closed_front σ b d rs k a at)) (closed_accepted σ b d rs k a at h);
          past_it = drop_at c (drop n b) n (left_length σ b d rs k a at).0;
        }

-- 'A refusal alters no byte'
pub refused_leaves : (chip : Chip) (b : List ℕ) (k j p : ℕ) (after : List ℕ) → Removed chip b k (Refused j p) after → after ≡ b
refused_leaves chip b k j p after (refused v) = refl
refused_leaves chip b k j p after (judged d rs a taken) = go taken
  where
    go : {j p : ℕ} {after : List ℕ} → Taken b d rs k (Refused j p) after → after ≡ b
    go (past at) = refl
    go (stays_named at h) = refl

-- no value is over 4,096
pub remove_bound : (chip : Chip) (b : List ℕ) (k : ℕ) (w : Written) (after : List ℕ) → Removed chip b k w after → value_of w ≤ 4096
remove_bound chip b k w after (refused {j = j} {p = p} v) = value_bound (writing chip) b (RefusedTable j p) v
remove_bound chip b k w after (judged d rs a taken) = go taken
  where
    go : {w : Written} {after : List ℕ} → Taken b d rs k w after → value_of w ≤ 4096
    go (past at) = omega arith
    go (stays_named {r = r} at h) =
        omega (
          arith,
          ap (λ (l : List Record). length (layouts l)) (nth_split rs k at) ∙ ap length (layouts_append (take k rs) (r ∷ drop (suc k) rs)),
          length-append (layouts (take k rs)) (layouts (r ∷ drop (suc k) rs)),
          a.keeps.limit,
        )
    go (out {r = r} at h) = omega (arith, fits_length b (table d rs) a.fits, a.keeps.limit)
