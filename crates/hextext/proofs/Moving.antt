-- A table moved: an accepted one comes back as it was, and no second outcome keeps the words of a moving.
-- Assumes nothing.
use Prim.Native.Nat.{ℕ, ◌≤◌}
use native.Mathlib.Omega.{arith}
use mathlib.Core.Path.{◌≡◌, refl, sym, ◌∙◌}
use mathlib.Core.List.{List, ◌++◌}
use lib.ListN.{length, drop, take-append-drop}
use Rattle.format.specs.Slots.{Bytes}
use Rattle.format.specs.Layout.{table}
use Rattle.format.specs.Verdict.{Verdict, accepted}
use Rattle.format.specs.declared.pins.Chip.{Chip}
use Rattle.format.specs.declared.settings.Settings.{Settings}
use Rattle.format.specs.Answers.{Gives as Accepted, Refused as RefusedTable}
use Rattle.format.specs.Answers.{Written}
use Rattle.format.specs.Answers.{Gives as Length}
use Rattle.format.proofs.Demand3.{unique}
use Rattle.format.proofs.Lengths.{fits_length}
use Rattle.spelling.specs.Spelling.{Put}
use Rattle.hextext.specs.Text.{hex_of}
use Rattle.hextext.specs.Meaning.{Means, bytes}
use Rattle.hextext.specs.Moved.{moving, Moved, done, refused, no_room}
use Rattle.hextext.proofs.Sending.{there_and_back}

module _ (chip : Chip) {b text c : List ℕ} where
  pub put_done :
      {n end : ℕ} {after : List ℕ}
      → Verdict (moving chip) b (Accepted n)
      → length text ≤ length c
      → Put c 0 text end after
      → Moved chip b text c (Length end) after
  put_done {end = end} {after = after} v h p =
      let n : end ≡ length text = omega (arith, p.ends) in
      let is : after ≡ text ++ drop end c = sym (take-append-drop end after) ∙ cc (p.front, p.rest) in
      rw (is, n) (done v h)

module _ (chip : Chip) (b : List ℕ) (small : Bytes b) where
  not_both : {n k p : ℕ} → Verdict (moving chip) b (Accepted n) → Verdict (moving chip) b (RefusedTable k p) → ⊥
  not_both {n} {k} {p} v v' =
      let q = unique (moving chip) b (Accepted n) (RefusedTable k p) small v v' in
      let z : ◌≡◌ {A = ℕ} 0 1 = cc in
      omega arith

  pub only_moved :
      {text c after after' : List ℕ} {r r' : Written}
      → Moved chip b text c r after
      → Moved chip b text c r' after'
      → (r ≡ r') × (after ≡ after')
  only_moved (done v h) (done v' h') = (refl, refl)
  only_moved (done v h) (no_room v' h') = absurd (omega arith)
  only_moved (done v h) (refused v') = absurd (not_both v v')
  only_moved (no_room v h) (done v' h') = absurd (omega arith)
  only_moved (no_room v h) (no_room v' h') = (refl, refl)
  only_moved (no_room v h) (refused v') = absurd (not_both v v')
  only_moved (refused v) (done v' h) = absurd (not_both v' v)
  only_moved (refused v) (no_room v' h) = absurd (not_both v' v)
  only_moved (refused {k = k} {p = p} v) (refused {k = k'} {p = p'} v') =
      let q = unique (moving chip) b (RefusedTable k p) (RefusedTable k' p') small v v' in
      (cc, refl)

-- 'There and back gives the same bytes for every accepted table': its text means it
pub accepted_short : {σ : Settings} {b : List ℕ} {n : ℕ} → Verdict σ b (Accepted n) → length b ≤ 4096
accepted_short {b = b} (accepted d rs a) = omega (arith, a.keeps.limit, fits_length b (table d rs) a.fits)

pub accepted_back : {σ : Settings} (b : List ℕ) {n : ℕ} → Bytes b → Verdict σ b (Accepted n) → Means (hex_of b) (bytes b)
accepted_back b small v = there_and_back b small (omega (arith, accepted_short v))
