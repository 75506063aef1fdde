-- The cut of blocks where an element ends: it has gone as far as it goes, so it is the cut of the whole part.
-- Assumes nothing.
use Prim.Native.Nat.{ℕ, ◌+◌, ◌-◌, ◌≤◌}
use native.Mathlib.Omega.{arith}
use mathlib.Core.Path.{◌≡◌, refl, sym, ◌∙◌, ap}
use mathlib.Core.Bool.{Bool, true, false, ◌&&◌, and-false, false≢true}
use mathlib.Core.Option.{Option, none, some}
use Rattle.format.specs.Records.{Block}
use Rattle.format.specs.Decode.{cut_blocks}
use mathlib.Core.List.{List, [], append-nil}
use lib.ListN.{length, drop, length-drop}
use lib.Dec.{eqb, ltb, leb}
use borrow.Author.Tests.{eqb-true, eqb-false, eq-eqb, ne_eqb, ltb-true, ltb-false, le-ltb, le-leb, lt-leb, leb-true}
use Rattle.blocks.specs.Cutting.{cut, cut_of, is_some, exact, SpeedsAre, SpeedPart}
use Rattle.blocks.specs.declared.Part.{Part}
use Rattle.blocks.proofs.Counting.{Counted, counted, count_from, count_of, fills, shown, all_shown, stuck}
use Rattle.blocks.proofs.EachKind.{speed_law, counted_pairs}
use Rattle.underway.specs.Under.{part_at, CutIs}
use Rattle.underway.specs.declared.Under.{Under}
use Rattle.judging.specs.Whole.{CutTo, SpeedIs, PairsIs}

-- no more steps move it
no_more : (lead most at n : ℕ) (f : Bool) (v : List ℕ) → CutIs lead most at n f v → count_of most lead (part_at lead v) ≡ counted at n f
no_more lead most at n f v k = sym (rw (append-nil v) at (k.ahead [])) ∙ go (ltb n most) refl
  where
    go : (t : Bool) → ltb n most ≡ t → count_from (most - n) lead (part_at lead v) (counted at n f) ≡ counted at n f
    go true e = stuck lead (part_at lead v) (most - n) at n f (omega (arith, k.waits (ltb-true n most e), length-drop (12 - lead) v))
    go false e = let z : most - n ≡ 0 = omega (arith, ltb-false n most e) in rw z refl

-- before the first ENTRIES byte
none_there : (lead most : ℕ) (v : List ℕ) → lead ≤ 1 → length v ≤ 12 → count_of most lead (part_at lead v) ≡ counted lead 0 true
none_there lead most v l h = stuck lead (part_at lead v) most lead 0 true (omega (arith, length-drop (12 - lead) v))

same_eqb : (a b c d : ℕ) → (a ≡ b → c ≡ d) → (c ≡ d → a ≡ b) → eqb a b ≡ eqb c d
same_eqb a b c d f g = go (eqb a b) refl
  where
    go : (t : Bool) → eqb a b ≡ t → t ≡ eqb c d
    go true e = sym (eq-eqb c d (f (eqb-true a b e)))
    go false e = sym (ne_eqb c d (λ q. eqb-false a b e (g q)))

-- a part that is not whole says nothing of its pairs
hollow : (r : Part) → r.whole ≡ false → (o : Option (List Block)) → SpeedsAre (record { whole = false; full = true }) o → SpeedsAre r o
hollow r z none h = z
hollow r z (some l) h = (z ∙ h.0, λ e. absurd (false≢true (sym z ∙ e)))

module _ (u : Under) (r : Part) where
  pub speed_ended :
      r.whole ≡ ltb 12 u.len && (eqb (u.at + 10) u.len && ltb 1 u.at) → r.full ≡ eqb u.mark 0 → SpeedIs u r
  speed_ended w f = record { short = λ h. w ∙ rw (le-ltb 12 u.len h) refl; says = λ v e k. go v e k (ltb 12 u.len) refl }
    where
      go : (v : List ℕ) → u.len ≡ length v → CutTo 1 6 u v → (t : Bool) → ltb 12 u.len ≡ t → SpeedPart (drop 11 v) r
      go v e k true q =
          let h = ltb-true 12 u.len q in
          let n = length-drop 11 v in
          let c : cut_of 6 1 (drop 11 v) ≡ cut u.at (eqb u.mark 0) =
          all_shown 1 (drop 11 v) 6 (counted 1 0 true)
          ∙ ap shown (no_more 1 6 u.at u.blocks (eqb u.mark 0) v (k (omega (arith, e)))) in
          speed_law (drop 11 v) r
          (w
          ∙ rw (
            q,
            c,
            same_eqb (u.at + 10) u.len u.at (length (drop 11 v) + 1) (λ z. omega (arith, z, e, n))
                (λ z. omega (arith, z, e, n)),
          ) refl)
          (f ∙ rw c refl)
      go v e k false q =
          let h = ltb-false 12 u.len q in
          let c : cut_of 6 1 (drop 11 v) ≡ cut 1 true =
          all_shown 1 (drop 11 v) 6 (counted 1 0 true) ∙ ap shown (none_there 1 6 v (omega arith) (omega (arith, e))) in
          λ m l.
          hollow r (w ∙ rw q refl) (cut_blocks m (drop 11 v))
          (speed_law (drop 11 v) (record { whole = false; full = true }) (rw c (sym (and-false (eqb 1 (length (drop 11 v) + 1)))))
          (rw c refl) m l)

  pub pairs_ended :
      (n : ℕ) → 1 ≤ n → r.whole ≡ ltb 12 u.len && (eqb (u.at + 12) u.len && eqb u.blocks n) → r.full ≡ true → PairsIs n u r
  pairs_ended n p w f = record { short = λ h. w ∙ rw (le-ltb 12 u.len h) refl; says = λ v e k. (go v e k (ltb 12 u.len) refl, f) }
    where
      between : (a : ℕ) → leb n a && leb a n ≡ eqb a n
      between a = by (eqb a n) refl
        where
          by : (t : Bool) → eqb a n ≡ t → leb n a && leb a n ≡ t
          by true q = let z = eqb-true a n q in rw (le-leb n a (omega arith), le-leb a n (omega arith)) refl
          by false q = other (leb n a) refl
            where
              other : (t : Bool) → leb n a ≡ t → t && leb a n ≡ false
              other true p = let y = leb-true n a p in lt-leb a n (omega (arith, eqb-false a n q))
              other false p = refl

      go : (v : List ℕ) → u.len ≡ length v → CutTo 0 n u v → (t : Bool) → ltb 12 u.len ≡ t → r.whole ≡ is_some (exact n 0 (drop 12 v))
      go v e k true q =
          let h = ltb-true 12 u.len q in
          let m = length-drop 12 v in
          w
          ∙ rw (
            q,
            same_eqb (u.at + 12) u.len u.at (length (drop 12 v)) (λ z. omega (arith, z, e, m))
                (λ z. omega (arith, z, e, m)),
            ← between u.blocks,
          ) refl
          ∙ sym (ap (λ (c : Counted). fills c (length (drop 12 v)) n n)
          (no_more 0 n u.at u.blocks (eqb u.mark 0) v (k (omega (arith, e)))))
          ∙ counted_pairs n n (drop 12 v) (omega arith)
      go v e k false q =
          let h = ltb-false 12 u.len q in
          w
          ∙ rw q refl
          ∙ sym (ap (λ (b : Bool). eqb 0 (length (drop 12 v)) && (b && leb 0 n)) (lt-leb n 0 (omega arith))
          ∙ and-false (eqb 0 (length (drop 12 v))))
          ∙ sym (ap (λ (c : Counted). fills c (length (drop 12 v)) n n) (none_there 0 n v (omega arith) (omega (arith, e))))
          ∙ counted_pairs n n (drop 12 v) (omega arith)
