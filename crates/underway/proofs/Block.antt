-- The blocks of a part, from ENTRIES byte to ENTRIES byte of a piece.
-- Assumes nothing.
use Prim.Native.Nat.{ℕ, suc, ◌+◌, ◌-◌, ◌*◌, ◌≤◌, ◌<◌}
use native.Mathlib.Omega.{arith}
use mathlib.Core.Path.{◌≡◌, refl, sym, ◌∙◌, ap}
use mathlib.Core.Bool.{Bool, true, false, ◌&&◌, not, and-eq-true_iff}
use mathlib.Core.List.{List, ◌++◌, append_assoc}
use lib.ListN.{length, length-drop, length-append}
use lib.Seq.{get_or-drop}
use lib.Dec.{eqb, ltb, leb}
use borrow.Author.Tests.{lt-ltb, ltb-true, ltb-false, leb-true, le-leb}
use Rattle.format.specs.Slots.{byte}
use Rattle.blocks.specs.Cutting.{enter}
use Rattle.blocks.specs.declared.Cut.{Cut}
use Rattle.blocks.proofs.Counting.{counted, entered, past_counted, count_from, count_of}
use Rattle.underway.specs.Under.{mark_of, part_at, CutIs, BlocksFrom, BlocksOn}
use Rattle.underway.specs.declared.Under.{Under}
use Rattle.underway.specs.declared.Blocks.{Blocks}
use Rattle.underway.proofs.Keeping.{in_piece}

-- the cut within a piece, before what follows
pub record Within (lead most at number : ℕ) (full : Bool) (v p : List ℕ) : Type 0 where
  pub ahead :
      (q : List ℕ) → count_from (most - number) lead (part_at lead (v ++ (p ++ q))) (counted at number full)
      ≡ count_of most lead (part_at lead (v ++ (p ++ q)))
  pub few : number ≤ most
  pub near : number < most → length v ≤ 12 - lead + at

pub within_first :
    (lead most at number : ℕ) (full : Bool) (v p : List ℕ)
    → CutIs lead most at number full v
    → Within lead most at number full v p
within_first lead most at number full v p k = record { ahead = λ q. k.ahead (p ++ q); few = k.few; near = k.waits }

-- one block more
pub within_next :
    (lead most : ℕ) (c d : Cut) (number : ℕ) (v p : List ℕ) {i x : ℕ}
    → Within lead most c.at number c.full v p
    → number < most
    → lead ≤ 1
    → c.at < length v + length p - (12 - lead)
    → i ≡ 12 - lead + c.at - length v
    → x ≡ byte p i
    → d ≡ enter true lead x c
    → Within lead most d.at (number + 1) d.full v p
within_next lead most c d number v p {i} {x} w n l h e z g =
    record {
      ahead = λ q. rw g (sym (step q) ∙ w.ahead q);
      few = omega arith;
      near = λ m. omega (arith, w.near n, ap (λ (k : Cut). k.at) g);
    }
  where
    step :
        (q : List ℕ)
        → count_from (most - number) lead (part_at lead (v ++ (p ++ q))) (counted c.at number c.full)
        ≡ count_from (most - (number + 1)) lead (part_at lead (v ++ (p ++ q)))
        (counted (c.at + 1 + lead + 4 * x) (number + 1) (c.full && not (eqb x 0)))
    step q =
        let m : most - number ≡ suc (most - (number + 1)) = omega arith in
        let a = length-append v (p ++ q) in
        let b = length-append p q in
        let s = length-drop (12 - lead) (v ++ (p ++ q)) in
        let y : byte (part_at lead (v ++ (p ++ q))) c.at ≡ x =
        get_or-drop (12 - lead) (v ++ (p ++ q)) c.at 0
        ∙ in_piece v p q (12 - lead + c.at) (w.near n) (omega arith)
        ∙ ap (byte p) (sym e)
        ∙ sym z in
        let t = lt-ltb c.at (length (part_at lead (v ++ (p ++ q)))) (omega arith) in
        let f : past_counted lead (part_at lead (v ++ (p ++ q))) (counted c.at number c.full)
        ≡ counted (c.at + 1 + lead + 4 * x) (number + 1) (c.full && not (eqb x 0)) =
        ap (λ (b : Bool). entered b lead (byte (part_at lead (v ++ (p ++ q))) c.at) (counted c.at number c.full)) t
        ∙ ap (λ (y : ℕ). counted (c.at + 1 + lead + 4 * y) (number + 1) (c.full && not (eqb y 0))) y in
        ap (λ (n : ℕ). count_from n lead (part_at lead (v ++ (p ++ q))) (counted c.at number c.full)) m
        ∙ ap (count_from (most - (number + 1)) lead (part_at lead (v ++ (p ++ q)))) f

-- no ENTRIES byte is left in the piece, or no block may come
pub within_last :
    (lead most at number total : ℕ) (full : Bool) (v p : List ℕ)
    → lead ≤ 1
    → Within lead most at number full v p
    → total ≡ length v + length p - (12 - lead)
    → ltb number most && (ltb at total && leb (length v) (12 - lead + at)) ≡ false
    → CutIs lead most at number full (v ++ p)
within_last lead most at number total full v p l w t f =
    record {
      ahead = λ q. rw (append_assoc v p q) (w.ahead q);
      few = w.few;
      waits = λ n. omega (
        arith,
        length-append v p,
        t,
        ltb-false at total (go (ltb number most) (lt-ltb number most n) (ltb at total) (leb (length v) (12 - lead + at))
            (le-leb (length v) (12 - lead + at) (w.near n)) f),
      );
    }
  where
    go : (a : Bool) → a ≡ true → (b c : Bool) → c ≡ true → a && (b && c) ≡ false → b ≡ false
    go true p false c q e = refl
    go true p true true q e = e
    go true p true false q e = sym q ∙ q ∙ absurd (omega (arith, zero_one q))
      where
        zero_one : false ≡ true → 1 ≤ 0
        zero_one q = let z : ◌≡◌ {A = ℕ} 0 1 = cc in omega arith
    go false p b c q e = absurd (omega (arith, zero_one p))
      where
        zero_one : false ≡ true → 1 ≤ 0
        zero_one q = let z : ◌≡◌ {A = ℕ} 0 1 = cc in omega arith

-- before any ENTRIES byte
pub first_cut : (lead most : ℕ) (v : List ℕ) → lead ≤ 1 → length v ≤ 12 → CutIs lead most lead 0 true v
first_cut lead most v l h =
    let z : most - 0 ≡ most = omega arith in
    record { ahead = λ q. rw z refl; few = omega arith; waits = λ _. omega arith }

pub full_mark : (b : Bool) → eqb (mark_of b false) 0 ≡ b
full_mark true = refl
full_mark false = refl

-- the blocks of an element, with the bytes of a piece
pub blocks_grow :
    (u : Under) (lead most : ℕ) (p : List ℕ) (a b : Blocks) {m : ℕ}
    → lead ≤ 1
    → BlocksFrom u lead a
    → BlocksOn a lead most u.len p b
    → m ≡ mark_of b.full false
    → (v : List ℕ)
    → u.len ≡ length v
    → (12 < length v → CutIs lead most u.at u.blocks (eqb u.mark 0) v)
    → CutIs lead most b.at b.number (eqb m 0) (v ++ p)
blocks_grow u lead most p a b {m} l f o g v e h = rw (g, full_mark b.full) (o.on v e (go (ltb 12 u.len) refl))
  where
    go : (t : Bool) → ltb 12 u.len ≡ t → CutIs lead most a.at a.number a.full v
    go true q =
        let d = ltb-true 12 u.len q in
        rw ((f.late d).0, (f.late d).1, (f.late d).2) (h (omega (arith, e)))
    go false q =
        let d = ltb-false 12 u.len q in
        rw ((f.early d).0, (f.early d).1, (f.early d).2) (first_cut lead most v l (omega (arith, e)))

-- three tests in a row
pub three_tests : (n m a t l k : ℕ) → ltb n m && (ltb a t && leb l k) ≡ true → (n < m) × (a < t) × (l ≤ k)
three_tests n m a t l k h =
    let x = (and-eq-true_iff (ltb n m) (ltb a t && leb l k)).0 h in
    let y = (and-eq-true_iff (ltb a t) (leb l k)).0 x.1 in
    (ltb-true n m x.0, ltb-true a t y.0, leb-true l k y.1)
