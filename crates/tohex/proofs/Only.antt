-- No second outcome keeps the words of `to_hex`.
-- Assumes nothing.
use Prim.Native.Nat.{ℕ}
use mathlib.Core.Path.{◌≡◌}
use mathlib.Core.List.{List}
use Rattle.format.specs.Slots.{Bytes}
use Rattle.format.specs.declared.pins.Chip.{Chip}
use Rattle.format.specs.Answers.{Written}
use Rattle.hextext.specs.Text.{hex_of}
use Rattle.hextext.specs.Moved.{Moved}
use Rattle.hextext.proofs.Moving.{only_moved}

pub only_to_hex :
    (chip : Chip) (b c : List ℕ) {r r' : Written} {after after' : List ℕ}
    → Bytes b
    → Moved chip b (hex_of b) c r after
    → Moved chip b (hex_of b) c r' after'
    → (r ≡ r') × (after ≡ after')
only_to_hex chip b c small m m' = only_moved chip b small m m'
