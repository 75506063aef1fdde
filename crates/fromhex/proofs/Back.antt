-- There and back, in the words of the two calls; and what an answer says of the text.
-- Assumes nothing.
use Prim.Native.Nat.{ℕ, ◌≤◌}
use mathlib.Core.Path.{◌≡◌, refl}
use mathlib.Core.List.{List, ◌++◌}
use lib.ListN.{length, take, drop}
use lib.Seq.{take-append_seam}
use Rattle.format.specs.Slots.{Bytes}
use Rattle.format.specs.Verdict.{Verdict}
use Rattle.format.specs.declared.pins.Chip.{Chip}
use Rattle.format.specs.Answers.{Gives as Accepted}
use Rattle.format.specs.Answers.{Written}
use Rattle.format.specs.Answers.{Gives as Length, Refused}
use Rattle.hextext.specs.Text.{hex_of}
use Rattle.hextext.specs.Meaning.{Means, bytes}
use Rattle.hextext.specs.Moved.{moving, Moved, done, refused, no_room}
use Rattle.hextext.proofs.Moving.{accepted_back}
use Rattle.fromhex.specs.FromHex.{FromHex, malformed, sent}
use Rattle.fromhex.proofs.Only.{only_from_hex}

module _ (chip : Chip) where
  -- 'There and back gives the same bytes for every accepted table': what `to_hex` wrote with answer 0, read by `from_hex` into a buffer
  -- that is long enough, is the table; the buffer's own bytes stay behind it
  pub there_and_back_again :
      (b c c' : List ℕ) {n : ℕ} {mid after : List ℕ} {r : Written}
      → Bytes b
      → Moved chip b (hex_of b) c (Length n) mid
      → length b ≤ length c'
      → FromHex chip (take n mid) c' r after
      → (r ≡ Length (length b)) × (after ≡ b ++ drop (length b) c')
  there_and_back_again b c c' small (done v h) room given =
      only_from_hex chip (rw (take-append_seam (hex_of b) (drop (length (hex_of b)) c)) at given)
      (sent (accepted_back b small v) (done v room))

  -- every text that comes back with 0 gives an accepted table's bytes: those that it sends
  pub record CameBack (t c : List ℕ) (n : ℕ) (after : List ℕ) : Type 0 where
    pub b : List ℕ
    pub count : ℕ
    pub sends : Means t (bytes b)
    pub accepted : Verdict (moving chip) b (Accepted count)
    pub size : n ≡ length b
    pub leaves : after ≡ b ++ drop (length b) c

  pub came_back : (t c : List ℕ) {n : ℕ} {after : List ℕ} → FromHex chip t c (Length n) after → CameBack t c n after
  came_back t c (sent {b = b} m (done {n = k} v h)) =
      record { b = b; count = k; sends = m; accepted = v; size = refl; leaves = refl }

  -- with a refusal no byte alters
  pub refused_kept : (t c : List ℕ) {k p : ℕ} {after : List ℕ} → FromHex chip t c (Refused k p) after → after ≡ c
  refused_kept t c (malformed m) = refl
  refused_kept t c (sent m (refused v)) = refl
  refused_kept t c (sent m (no_room v h)) = refl
