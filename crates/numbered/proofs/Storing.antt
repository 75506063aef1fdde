-- Numbers that are copied into a part of a list are a run of them there; and the bytes of a number.
-- Assumes nothing.
use Prim.Native.Nat.{ℕ, ◌+◌, ◌/◌, ◌%◌, ◌<◌, ◌≤◌}
use native.Mathlib.Omega.{arith}
use mathlib.Core.Path.{◌≡◌, refl, sym, ◌∙◌, ap}
use mathlib.Core.List.{List, ◌++◌, append_assoc}
use lib.ListN.{length, take, drop}
use borrow.Rule.Slice.PartMut.{put_mid}
use Rattle.std.specs.Int.{to_le_bytes}
use Rattle.std.proofs.Common.{w16, w32}
use Rattle.std.proofs.lemmas.List.{drop-drop}
use Rattle.words.specs.Widths.{two_bytes, four_bytes}
use Rattle.std.proofs.lemmas.List.Edits.{sets, sets-eq}

pub stored : (l vs : List ℕ) (i k : ℕ) → k ≡ length vs → i + length vs ≤ length l → put_mid i k l vs ≡ sets l i vs
stored l vs i k e h =
    ap (λ (d : List ℕ). take i l ++ (vs ++ d)) (drop-drop k i l ∙ ap (λ (n : ℕ). drop (i + n) l) e)
    ∙ sym (append_assoc (take i l) vs (drop (i + length vs) l))
    ∙ sym (sets-eq vs l i h)

-- a number's bytes by the library, lowest first, are its two and its four bytes
pub two_are : (n : ℕ) → n < 65536 → to_le_bytes w16 n ≡ two_bytes n
two_are n h =
    let high : n / 256 % 256 ≡ n / 256 = omega arith in
    rw high refl

pub four_are : (n : ℕ) → n < 4294967296 → to_le_bytes w32 n ≡ four_bytes n
four_are n h =
    let high : n / 16777216 % 256 ≡ n / 16777216 = omega arith in
    rw high refl
