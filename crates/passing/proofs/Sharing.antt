-- What the header says of an element that waits, with the bytes of a piece.
-- Assumes nothing.
use Prim.Native.Nat.{ℕ, ◌+◌, ◌-◌, ◌*◌, ◌<◌, ◌≤◌}
use native.Mathlib.Omega.{arith}
use mathlib.Core.Path.{◌≡◌, refl, sym, ◌∙◌, ap}
use mathlib.Core.Bool.{Bool, true, false}
use mathlib.Core.List.{List, ◌++◌, append_assoc}
use lib.ListN.{length, take, drop, length-append, take-append-drop, get_or-append}
use lib.Seq.{get_or-append-add, length-take-le}
use lib.Dec.{leb}
use borrow.Author.Tests.{leb-true, leb-false}
use Rattle.format.specs.Slots.{byte}
use Rattle.format.specs.Verdict.{stated}
use Rattle.stream.specs.Running.{unready}
use Rattle.stream.proofs.Running.{Lacks, header, bytes, lacks, stated_more, waits_header, waits_bytes}
use Rattle.underway.specs.Under.{Holds}
use Rattle.passing.specs.Going.{Shares, waits, low, whole}

pub kept_byte : (head v p : List ℕ) (k : ℕ) → Holds head v → k < 30 → k < length v → byte head k ≡ byte (v ++ p) k
kept_byte head v p k h a b = h.same k a b ∙ sym (get_or-append v p 0 k b)

pub piece_byte : (v p : List ℕ) (k had : ℕ) → had ≡ length v → had ≤ k → byte p (k - had) ≡ byte (v ++ p) k
piece_byte v p k had e l =
    let z : length v + (k - had) ≡ k = omega arith in
    sym (ap (byte (v ++ p)) (sym z) ∙ get_or-append-add v p (k - had) 0)

module _ (v p : List ℕ) {told : ℕ} (e : told ≡ stated (v ++ p)) where
  n : length (v ++ p) ≡ length v + length p
  n = length-append v p

  pub all_short : length v + length p < 3 → {told : ℕ} → told ≡ 3 → Shares v p told (length p)
  all_short h t = waits (omega arith) (waits_header (v ++ p) (omega (arith, n))) refl (omega arith)

  pub all_wait : 3 ≤ length v + length p → length v + length p < told → Shares v p told (length p)
  all_wait h l = waits (omega arith) (waits_bytes (v ++ p) (omega (arith, n)) (omega (arith, n, e))) refl l

  -- the bytes that complete an element, where they do not come too late
  module _ (k : ℕ) (l : told ≤ length v + length p) (h : 3 ≤ length v + length p) (w : unready v ≡ true) where
    pub all_low : told < 3 → Shares v p told k
    all_low t = low t (omega (arith, n)) (omega (arith, e))

    late : Lacks v → 3 ≤ told → length v < told
    late (header g) t = omega arith
    late (bytes g f) t = omega (arith, e, stated_more v p g)

    pub all_whole : 3 ≤ told → k ≡ told - length v → Shares v p told k
    all_whole t q =
        let a = late (lacks v w) t in
        let m = length-take-le k p (omega arith) in
        let i = length-append v (take k p) in
        let j : (v ++ take k p) ++ drop k p ≡ v ++ p = append_assoc v (take k p) (drop k p)
        ∙ ap (λ (x : List ℕ). v ++ x) (take-append-drop k p) in
        let s : stated (v ++ take k p) ≡ told = sym (stated_more (v ++ take k p) (drop k p) (omega arith)) ∙ ap stated j ∙ sym e in
        whole t (omega arith) (omega arith) (omega arith) (omega arith, omega arith)

    pub never_late : told ≤ length v → 3 ≤ told → Shares v p told k
    never_late x t = absurd (omega (arith, late (lacks v w) t))

-- what two bytes say
pub told_is : (v p : List ℕ) {a b : ℕ} → a ≡ byte (v ++ p) 1 → b ≡ byte (v ++ p) 2 → a + 256 * b ≡ stated (v ++ p)
told_is v p a b = rw (a, b) refl

module _ (v p : List ℕ) {told : ℕ} (e : told ≡ stated (v ++ p)) (k : ℕ) (l : told ≤ length v + length p) (h : 3 ≤ length v + length p)
    (w : unready v ≡ true) where
  -- so many bytes complete it, or its length is under 3
  pub due_whole : k ≡ told - length v → Shares v p told k
  due_whole q = go (leb 3 told) refl
    where
      go : (t : Bool) → leb 3 told ≡ t → Shares v p told k
      go true t = all_whole v p e k l h w (leb-true 3 told t) q
      go false t = all_low v p e k l h w (leb-false 3 told t)

  pub due_late : told ≤ length v → Shares v p told k
  due_late q = go (leb 3 told) refl
    where
      go : (t : Bool) → leb 3 told ≡ t → Shares v p told k
      go true t = never_late v p e k l h w q (leb-true 3 told t)
      go false t = all_low v p e k l h w (leb-false 3 told t)
