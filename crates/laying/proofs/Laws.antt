-- Laws of laying out, over lists: pieces laid side by side are one piece, and what is written of slots that follow one another.
-- Assumes nothing.
use Prim.Native.Nat.{ℕ, zero, suc, ◌+◌, ◌≤◌}
use native.Mathlib.Omega.{arith}
use native.Mathlib.Nat.{add_assoc}
use mathlib.Core.Path.{◌≡◌, refl, sym, ◌∙◌, ap}
use mathlib.Core.Bool.{true}
use mathlib.Core.List.{List, [], ◌∷◌, ◌++◌, map, append_assoc}
use lib.ListN.{length, get_or, take, drop, length-append}
use lib.Seq.{paste-zero, length-take-le, take_at, drop_at, drop-drop}
use Rattle.format.specs.Slots.{Slot, whole, reserved, word, written, roomy, all_roomy}
use Rattle.format.specs.Layout.{fixed, id_of}
use Rattle.format.specs.Writing.{element_slots, overwritten}
use Rattle.format.specs.declared.records.Element.{Element}
use Rattle.format.proofs.Kept.{and-true}
use Rattle.format.proofs.Written.{length_written}
use Rattle.format.proofs.Whole.{written_append, written_whole, length_whole}

-- each slot of a list that has room has room
pub roomy_at : (ss : List Slot) (k : ℕ) → all_roomy ss ≡ true → roomy (get_or ss k reserved) ≡ true
roomy_at [] k h = refl
roomy_at (s ∷ ss) zero h = (and-true (roomy s) (all_roomy ss) h).0
roomy_at (s ∷ ss) (suc k) h = roomy_at ss k (and-true (roomy s) (all_roomy ss) h).1

-- nothing laid out
pub overwritten_none : (at : ℕ) (b : List ℕ) → overwritten at [] b ≡ b
overwritten_none at b = sym (paste-zero b at [])

module _ (at : ℕ) (x b : List ℕ) (fits : at + length x ≤ length b) where
  head_length : length (take at b ++ x) ≡ at + length x
  head_length =
      let l : length (take at b) ≡ at = length-take-le at b (omega arith) in
      length-append (take at b) x ∙ ap (λ (n : ℕ). n + length x) l

  -- two pieces side by side are one
  pub overwritten_next : (y : List ℕ) → overwritten (at + length x) y (overwritten at x b) ≡ overwritten at (x ++ y) b
  overwritten_next y =
      let tail : List ℕ = drop (at + length x) b in
      rw (
        ← drop-drop (length y) (at + length x) (overwritten at x b),
        take_at (take at b ++ x) tail (at + length x) head_length,
        drop_at (take at b ++ x) tail (at + length x) head_length,
        drop-drop (length y) (at + length x) b,
        length-append x y,
        ← add_assoc at (length x) (length y),
      )
      (simp append_assoc)

-- an element is its identifier and length, its fixed fields and its part
pub element_length : (e : Element) (p : List ℕ) → length (element_slots e p) ≡ 3 + length (fixed e) + length p
element_length e p = simp (length-append, length_whole) (omega arith)

abbrev head_of : Element → List ℕ → List ℕ
head_of e p = written (whole (id_of e) ∷ word (3 + length (fixed e) + length p))

element_bytes : (e : Element) (p : List ℕ) → written (element_slots e p) ≡ head_of e p ++ written (fixed e) ++ p
element_bytes e p =
    let n : 3 + length (fixed e ++ map whole p) ≡ 3 + length (fixed e) + length p = simp (length-append, length_whole) (omega arith) in
    rw (n, written_append (fixed e) (map whole p), written_whole p)

pub overwritten_element :
    (at : ℕ) (e : Element) (p b : List ℕ)
    → at + length (element_slots e p) ≤ length b
    → overwritten (at + 3 + length (fixed e)) p (overwritten (at + 3) (written (fixed e)) (overwritten at (head_of e p) b))
    ≡ overwritten at (written (element_slots e p)) b
overwritten_element at e p b fits =
    let h : List ℕ = head_of e p in
    let f : List ℕ = written (fixed e) in
    let l = element_length e p in
    let m = length_written (fixed e) in
    let k : at + 3 + length (fixed e) ≡ at + length (h ++ f) = omega arith in
    let one = overwritten_next at h b (omega arith) f in
    let two = overwritten_next at (h ++ f) b (omega arith) p in
    ap (λ (l : List ℕ). overwritten (at + 3 + length (fixed e)) p l) one
    ∙ ap (λ (n : ℕ). overwritten n p (overwritten at (h ++ f) b)) k
    ∙ two
    ∙ ap (λ (l : List ℕ). overwritten at l b) (sym (element_bytes e p))
