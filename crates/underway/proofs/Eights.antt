-- Bytes of a piece that are kept: one more of them, eight more, and all of the first 30.
-- Assumes nothing.
use Prim.Native.Nat.{ℕ, ◌+◌, ◌-◌, ◌≤◌, ◌<◌}
use native.Mathlib.Omega.{arith}
use mathlib.Core.Path.{◌≡◌, refl, sym, ◌∙◌, ap, subst}
use mathlib.Core.Bool.{Bool, true, false}
use mathlib.Core.List.{List, ◌++◌}
use lib.ListN.{length, set, length-set, length-append, get_or-append}
use lib.Seq.{get_or-set_same, get_or-set_other, get_or-append-add}
use lib.Dec.{eqb, ltb}
use borrow.Author.Tests.{eqb-true, eqb-false, ltb-true, ltb-false}
use Rattle.format.specs.Slots.{byte}
use Rattle.underway.specs.Under.{Holds, KeepIs, RoomIs, CopiedIs, eight_at}

pub copied_none : (to from : ℕ) (p head : List ℕ) → CopiedIs to from 0 p head head
copied_none to from p head = record { size = refl; before = λ i l. refl; there = λ e i l. absurd (omega arith) }

pub copied_next :
    (to from n : ℕ) (p head head' : List ℕ) {j k : ℕ}
    → CopiedIs to from n p head head'
    → j ≡ to + n
    → k ≡ from + n
    → j < 30
    → CopiedIs to from (n + 1) p head (set head' j (byte p k))
copied_next to from n p head head' {j} {k} c e f l =
    record {
      size = length-set head' j (byte p k) ∙ c.size;
      before = λ i m. get_or-set_other head' j i (byte p k) 0 (λ z. omega arith) ∙ c.before i m;
      there = λ h i m. go h i m (eqb i n) refl;
    }
  where
    go : length head ≡ 30 → (i : ℕ) → i < n + 1 → (t : Bool) → eqb i n ≡ t → byte (set head' j (byte p k)) (to + i) ≡ byte p (from + i)
    go h i m true q =
        let z = eqb-true i n q in
        let a : to + i ≡ j = omega arith in
        let b : from + i ≡ k = omega arith in
        rw (a, b) (get_or-set_same head' j (byte p k) 0 (omega (arith, c.size)))
    go h i m false q =
        let z = eqb-false i n q in
        get_or-set_other head' j (to + i) (byte p k) 0 (λ y. z (omega (arith, y))) ∙ c.there h i (omega arith)

eight_copied : (to from : ℕ) (p head : List ℕ) → to + 8 ≤ 30 → CopiedIs to from 8 p head (eight_at to from p head)
eight_copied to from p head l =
    copied_next to from 7 p head _
    (copied_next to from 6 p head _
    (copied_next to from 5 p head _
    (copied_next to from 4 p head _
    (copied_next to from 3 p head _
    (copied_next to from 2 p head _
    (copied_next to from 1 p head _
    (copied_next to from 0 p head head (copied_none to from p head) (omega arith) (omega arith) (omega arith))
    refl refl (omega arith)) refl refl (omega arith)) refl refl (omega arith)) refl refl (omega arith)) refl refl (omega arith)) refl refl
    (omega arith)) refl refl (omega arith)

-- eight from a place up to which all are there
eight_next :
    (from a k : ℕ) (p head head' : List ℕ)
    → CopiedIs from 0 k p head head'
    → a ≤ k
    → from + a + 8 ≤ 30
    → CopiedIs from 0 (a + 8) p head (eight_at (from + a) a p head')
eight_next from a k p head head' c m l =
    record {
      size = e.size ∙ c.size;
      before = λ i q. e.before i (omega arith) ∙ c.before i q;
      there = λ h i q. go h i q (ltb i a) refl;
    }
  where
    e : CopiedIs (from + a) a 8 p head' (eight_at (from + a) a p head')
    e = eight_copied (from + a) a p head' l

    go :
        length head ≡ 30
        → (i : ℕ)
        → i < a + 8
        → (t : Bool)
        → ltb i a ≡ t
        → byte (eight_at (from + a) a p head') (from + i) ≡ byte p (0 + i)
    go h i q true y =
        let b = ltb-true i a y in
        e.before (from + i) (omega arith) ∙ c.there h i (omega arith)
    go h i q false y =
        let b = ltb-false i a y in
        let z : from + i ≡ from + a + (i - a) = omega arith in
        let w : a + (i - a) ≡ 0 + i = omega arith in
        ap (byte (eight_at (from + a) a p head')) z ∙ e.there (c.size ∙ h) (i - a) (omega arith) ∙ ap (byte p) w

-- as many as there is room for are all
pub copied_all :
    (from end : ℕ) (p head head' : List ℕ)
    → RoomIs from (length p) end
    → CopiedIs from 0 end p head head'
    → KeepIs from p head head'
copied_all from end p head head' r c =
    record {
      keeps =
          λ v e h.
          record { size = c.size ∙ h.size; same = λ i a b. go v e h i a (omega (arith, b, length-append v p)) (ltb i from) refl };
    }
  where
    go :
        (v : List ℕ)
        → from ≡ length v
        → Holds head v
        → (i : ℕ)
        → i < 30
        → i < length v + length p
        → (t : Bool)
        → ltb i from ≡ t
        → byte head' i ≡ byte (v ++ p) i
    go v e h i a b true y =
        let l = ltb-true i from y in
        c.before i l ∙ h.same i a (omega arith) ∙ sym (get_or-append v p 0 i (omega arith))
    go v e h i a b false y =
        let l = ltb-false i from y in
        let z : i ≡ from + (i - from) = omega arith in
        let w : i ≡ length v + (i - from) = omega arith in
        let o : 0 + (i - from) ≡ i - from = omega arith in
        ap (byte head') z ∙ c.there h.size (i - from) (short (ltb end (length p)) refl) ∙ ap (byte p) o
        ∙ sym (ap (byte (v ++ p)) w ∙ get_or-append-add v p (i - from) 0)
      where
        short : (t : Bool) → ltb end (length p) ≡ t → i - from < end
        short true q = let m = r.all (ltb-true end (length p) q) in let l = ltb-false i from y in omega arith
        short false q = let m = ltb-false end (length p) q in let l = ltb-false i from y in omega arith

-- eight of them have room
pub eight_fits : (from size end a : ℕ) → RoomIs from size end → a + 8 ≤ end → (from + a + 8 ≤ 30) × (a + 8 ≤ size)
eight_fits from size end a r l =
    let w = r.within (omega arith) in
    let t = r.there in
    (omega arith, omega arith)

-- all of them by two, or by four
module _ (from end : ℕ) (p head first last : List ℕ) (r : RoomIs from (length p) end) (e : first ≡ eight_at from 0 p head) where
  begun : 8 ≤ end → CopiedIs from 0 8 p head first
  begun l = let w = r.within (omega arith) in rw e (eight_copied from 0 p head (omega arith))

  -- the last eight
  finished :
      (last : List ℕ) (k : ℕ) (most : List ℕ)
      → CopiedIs from 0 k p head most
      → 8 ≤ end
      → end - 8 ≤ k
      → last ≡ eight_at (from + (end - 8)) (end - 8) p most
      → KeepIs from p head last
  finished last k most c l m f =
      let w = r.within (omega arith) in
      let z : end - 8 + 8 ≡ end = omega arith in
      let e = eight_next from (end - 8) k p head most c m (omega arith) in
      let there = subst (λ (n : ℕ). CopiedIs from 0 n p head (eight_at (from + (end - 8)) (end - 8) p most)) z e in
      copied_all from end p head last r (rw f there)

  pub by_two : 8 ≤ end → end ≤ 16 → last ≡ eight_at (from + (end - 8)) (end - 8) p first → KeepIs from p head last
  by_two l m f =
      let w = r.within (omega arith) in
      finished last 8 first (begun l) (omega arith) (omega arith) f

  pub by_four :
      (second third : List ℕ)
      → 16 < end
      → second ≡ eight_at (from + 8) 8 p first
      → third ≡ eight_at (from + (end - 16)) (end - 16) p second
      → last ≡ eight_at (from + (end - 8)) (end - 8) p third
      → KeepIs from p head last
  by_four second third l f g h =
      let w = r.within (omega arith) in
      let c = eight_next from 8 8 p head first (begun (omega arith)) (omega arith) (omega arith) in
      let d = eight_next from (end - 16) 16 p head second (rw f c) (omega arith) (omega arith) in
      finished last (end - 16 + 8) third (rw g d) (omega arith) (omega arith) h
