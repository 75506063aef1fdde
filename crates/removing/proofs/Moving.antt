-- The move of the bytes behind: with the length mended the lent bytes are closed up.
-- Assumes nothing.
use Prim.Native.Nat.{ℕ, ◌+◌, ◌-◌, ◌≤◌}
use native.Mathlib.Omega.{arith}
use mathlib.Core.Path.{◌≡◌, refl, sym, ◌∙◌, ap}
use mathlib.Core.List.{List, ◌++◌, append_assoc}
use lib.ListN.{length, take, drop, length-append, length-drop}
use lib.Seq.{drop-drop, take-append-le, drop-append-le, length-take-le}
use Rattle.format.specs.Slots.{word, written}
use Rattle.format.specs.Writing.{overwritten}
use Rattle.removal.specs.Taking.{cut, closed}
use Rattle.removing.specs.Judging.{Closable}

-- bytes 1-2 stand in the front
mend_front :
    (w xs ys : List ℕ) → length w ≡ 2 → 3 ≤ length xs → overwritten 1 w (xs ++ ys) ≡ overwritten 1 w xs ++ ys
mend_front w xs ys two long =
    let i : 1 + length w ≤ length xs = omega arith in
    rw (take-append-le 1 xs ys (omega arith), drop-append-le (1 + length w) xs ys i)
    (sym (append_assoc (take 1 xs ++ w) (drop (1 + length w) xs) ys))

pub closes :
    (b : List ℕ) (at n : ℕ)
    → Closable b at n
    → overwritten 1 (written (word (length b - n))) (overwritten at (drop (at + n) b) b) ≡ closed b at n
closes b at n c =
    let cutB = cut b at n in
    let m = length b - n in
    let e : drop (at + n) b ≡ drop n (drop at b) = sym (drop-drop n at b) in
    let l : length cutB ≡ m =
    omega (
      arith,
      length-append (take at b) (drop n (drop at b)),
      length-take-le at b (omega (arith, c.within)),
      length-drop n (drop at b),
      length-drop at b,
      c.within,
    ) in
    let t : at + length (drop (at + n) b) ≡ m = omega (arith, length-drop (at + n) b, c.within) in
    ap (λ (i : ℕ). overwritten 1 (written (word m)) (take at b ++ drop (at + n) b ++ drop i b)) t
    ∙ ap (λ (x : List ℕ). overwritten 1 (written (word m)) (take at b ++ x ++ drop m b)) e
    ∙ mend_front (written (word m)) cutB (drop m b) refl (omega (arith, l, c.behind, c.within))
    ∙ ap (λ (i : ℕ). overwritten 1 (written (word i)) cutB ++ drop m b) (sym l)
