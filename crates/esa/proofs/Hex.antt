-- The calls of Intel HEX over numbers: no text, table, place or line number is too large, and there is no second outcome.
-- Assumes nothing.
use Prim.Native.Nat.{ℕ, ◌≤◌}
use native.Mathlib.Omega.{arith}
use mathlib.Core.Path.{◌≡◌, sym, ◌∙◌, ap}
use mathlib.Core.List.{List}
use Rattle.format.specs.Slots.{Bytes}
use Rattle.format.specs.Answers.{value_of}
use Rattle.format.specs.declared.pins.Chip.{Chip}
use Rattle.format.specs.Answers.{Written}
use Rattle.reader.proofs.Bounds.{value_bound}
use Rattle.hextext.specs.Text.{hex_of}
use Rattle.hextext.specs.Moved.{moving, Moved, done, refused, no_room}
use Rattle.hextext.proofs.Moving.{accepted_short}
use Rattle.tohex.proofs.Lines.{hex_length}
use Rattle.tohex.proofs.Only.{only_to_hex}
use Rattle.fromhex.specs.FromHex.{FromHex, malformed, sent}
use Rattle.fromhex.proofs.Only.{only_from_hex}
use Rattle.fromhex.proofs.Enough.{bad_bound}
use Rattle.esa.specs.Writing.{packed_written}
use Rattle.esa.specs.Hex.{HexFor, UnhexFor}

module _ (chip : Chip) where
  pub hex_bound : (b c : List ℕ) (w : Written) (after : List ℕ) → Moved chip b (hex_of b) c w after → value_of w ≤ 65538
  hex_bound b c w after (done v h) = omega (arith, hex_length b, accepted_short v)
  hex_bound b c w after (refused v) = omega (arith, value_bound (moving chip) b _ v)
  hex_bound b c w after (no_room v h) = omega arith

  pub unhex_bound : (t c : List ℕ) (w : Written) (after : List ℕ) → FromHex chip t c w after → value_of w ≤ 65538
  unhex_bound t c w after (malformed m) = bad_bound m
  unhex_bound t c w after (sent m (done v h)) = omega (arith, accepted_short v)
  unhex_bound t c w after (sent {b = b} m (refused v)) = omega (arith, value_bound (moving chip) b _ v)
  unhex_bound t c w after (sent m (no_room v h)) = omega arith

  pub hex_unique :
      (b c : List ℕ) (r r' : ℕ) (after after' : List ℕ)
      → Bytes b
      → HexFor chip b c r after
      → HexFor chip b c r' after'
      → (r ≡ r') × (after ≡ after')
  hex_unique b c r r' after after' small s s' =
      let q = only_to_hex chip b c small s.moved s'.moved in
      (s.number ∙ ap packed_written q.0 ∙ sym s'.number, q.1)

  pub unhex_unique :
      (t c : List ℕ) (r r' : ℕ) (after after' : List ℕ)
      → UnhexFor chip t c r after
      → UnhexFor chip t c r' after'
      → (r ≡ r') × (after ≡ after')
  unhex_unique t c r r' after after' s s' =
      let q = only_from_hex chip s.moved s'.moved in
      (s.number ∙ ap packed_written q.0 ∙ sym s'.number, q.1)
