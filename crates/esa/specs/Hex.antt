-- A table moved into Intel HEX and back: the answer as one number, and the bytes that are left.
-- Assumes nothing.
use Rattle.std.specs.Prelude.{ℕ, ◌≡◌, List}
use Rattle.format.specs.declared.pins.Chip.{Chip}
use Rattle.format.specs.Answers.{Written}
use Rattle.hextext.specs.Text.{hex_of}
use Rattle.hextext.specs.Moved.{Moved}
use Rattle.fromhex.specs.FromHex.{FromHex}
use Rattle.esa.specs.Writing.{packed_written}

pub record HexFor (chip : Chip) (b c : List ℕ) (r : ℕ) (after : List ℕ) : Type 0 where
  pub answer : Written
  pub moved : Moved chip b (hex_of b) c answer after
  pub number : r ≡ packed_written answer

pub record UnhexFor (chip : Chip) (t c : List ℕ) (r : ℕ) (after : List ℕ) : Type 0 where
  pub answer : Written
  pub moved : FromHex chip t c answer after
  pub number : r ≡ packed_written answer
