-- The first 30 bytes of an element, as its bytes come.
-- Assumes nothing.
use Prim.Native.Nat.{ℕ, ◌+◌, ◌-◌, ◌≤◌, ◌<◌}
use native.Mathlib.Omega.{arith}
use mathlib.Core.Path.{◌≡◌, refl, sym, ◌∙◌, ap}
use mathlib.Core.Bool.{Bool, true, false}
use mathlib.Core.List.{List, [], ◌∷◌, ◌++◌}
use lib.ListN.{length, set, length-set, length-append, get_or-append}
use lib.Seq.{get_or-set_same, get_or-set_other, get_or-append_seam, get_or-append-add}
use lib.Dec.{eqb}
use borrow.Author.Tests.{eqb-true, eqb-false}
use Rattle.format.specs.Slots.{byte}
use Rattle.underway.specs.Under.{Holds}

-- one byte more of the first 30
pub put_one : (head v : List ℕ) (x : ℕ) {i : ℕ} → Holds head v → i ≡ length v → i < 30 → Holds (set head i x) (v ++ x ∷ [])
put_one head v x {i} h e l =
    record {
      size = length-set head i x ∙ h.size;
      same = λ j a b. go j a (omega (arith, b, length-append v (x ∷ []))) (eqb j i) refl;
    }
  where
    go : (j : ℕ) → j < 30 → j ≤ length v → (t : Bool) → eqb j i ≡ t → byte (set head i x) j ≡ byte (v ++ x ∷ []) j
    go j a b true q =
        let z = eqb-true j i q in
        rw z (get_or-set_same head i x 0 (omega (arith, h.size)) ∙ sym (rw e (get_or-append_seam v x [] 0)))
    go j a b false q =
        let z = eqb-false j i q in
        let m : j < length v = omega arith in
        get_or-set_other head i j x 0 z ∙ h.same j a m ∙ sym (get_or-append v (x ∷ []) 0 j m)

-- a byte of an element that stands in the piece
pub in_piece : (v p q : List ℕ) (i : ℕ) → length v ≤ i → i < length v + length p → byte (v ++ (p ++ q)) i ≡ byte p (i - length v)
in_piece v p q i a b =
    let e : i ≡ length v + (i - length v) = omega arith in
    ap (byte (v ++ (p ++ q))) e ∙ get_or-append-add v (p ++ q) (i - length v) 0 ∙ get_or-append p q 0 (i - length v) (omega arith)
