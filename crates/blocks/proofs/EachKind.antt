-- The law of the cut for each kind that has blocks: one to six speed blocks, and an exact number of blocks of ENTRIES and pairs.
-- Assumes nothing.
use Prim.Native.Nat.compare
use Prim.Native.Nat.{ℕ, zero, suc, ◌+◌, ◌-◌, ◌*◌, ◌<◌, ◌≤◌}
use native.Mathlib.Omega.{arith}
use mathlib.Core.Path.{◌≡◌, refl, sym, ◌∙◌, ap}
use mathlib.Core.Logic.{⊎_elim}
use mathlib.Core.Bool.{Bool, true, false, ◌&&◌, cond, not-eq-not, and-eq-true_iff, and-true, and-false}
use mathlib.Core.List.{List, [], ◌∷◌}
use mathlib.Core.Option.{Option, none, some}
use lib.Dec.{eqb, ltb, leb}
use lib.ListN.{length, drop, length-drop}
use borrow.Author.Tests.{eqb-true, ltb-true, lt-ltb, le-ltb, leb-true, le-leb, lt-leb, eq-eqb, ne_eqb}
use Rattle.format.specs.Slots.{byte}
use Rattle.format.specs.Records.{Block}
use Rattle.format.specs.Rules.{filled}
use Rattle.format.specs.Decode.{bind, guard, block_of, read_pairs, cut_entries, cut_blocks, cut_two, cut_three, when_nil}
use Rattle.format.specs.declared.records.RegisterPair.{RegisterPair}
use Rattle.blocks.specs.Cutting.{cut_of, past_block, exact, is_some, SpeedsAre, SpeedPart}
use Rattle.blocks.specs.declared.Cut.{Cut}
use Rattle.blocks.proofs.Counting.{Counted, counted, past_counted, count_of, fills, shown, all_shown, grown, last_step, each_passed}
use Rattle.blocks.proofs.Counting.{less_or_not}
use Rattle.blocks.specs.declared.Part.{Part}
use Rattle.blocks.proofs.Exactly.{Says, says}

-- of a whole part
told : (lead j n : ℕ) (p : List ℕ) → j ≤ n → Says (length p + lead) j true (count_of n lead p) (exact j lead p)
told lead j n p h =
    let e : 0 + lead ≡ lead = omega arith in
    let f : 0 + j ≡ j = omega arith in
    rw (e, f) at (says lead p j n h 0 0 true (omega arith))

same_truth : (a b : Bool) → (a ≡ true → b ≡ true) → (b ≡ true → a ≡ true) → a ≡ b
same_truth true b f g = sym (f refl)
same_truth false true f g = g refl
same_truth false false f g = refl

-- numbers between two others, and what 8 asks of a cut
between : (n least most : ℕ) → leb least n && leb n most ≡ true → (least ≤ n) × (n ≤ most)
between n least most h =
    let u = (and-eq-true_iff (leb least n) (leb n most)).0 h in
    (leb-true least n u.0, leb-true n most u.1)

module _ (r : Counted) (end least most : ℕ) where
  filling : fills r end least most ≡ true → (r.at ≡ end) × (least ≤ r.blocks) × (r.blocks ≤ most)
  filling h =
      let u = (and-eq-true_iff (eqb r.at end) _).0 h in
      let v = between r.blocks least most u.1 in
      (eqb-true r.at end u.0, v.0, v.1)

  filled_by : r.at ≡ end → least ≤ r.blocks → r.blocks ≤ most → fills r end least most ≡ true
  filled_by e h g = rw (eq-eqb r.at end e, le-leb least r.blocks h, le-leb r.blocks most g) refl

-- so many blocks of ENTRIES and pairs, after a cut past so many or more
pub counted_pairs : (n m : ℕ) (p : List ℕ) → n ≤ m → fills (count_of m 0 p) (length p) n n ≡ is_some (exact n 0 p)
counted_pairs n m p h =
    let e : length p + 0 ≡ length p = omega arith in
    go (count_of m 0 p) (exact n 0 p) (rw e at (told 0 n m p h))
  where
    go : (r : Counted) (o : Option Bool) → Says (length p) n true r o → fills r (length p) n n ≡ is_some o
    go r none h =
        (not-eq-not {b = false}).0 (λ f. let g = filling r (length p) n n f in h g.0 (omega arith))
    go r (some t) h = filled_by r (length p) n n h.0 (omega (arith, h.1)) (omega (arith, h.1))

-- and the reader's ways to cut them: one line for each number
unwrapped : {A B : Type 0} (o : Option A) (f : A → B) → is_some (bind o (λ a. some (f a))) ≡ is_some o
unwrapped none f = refl
unwrapped (some a) f = refl

one_more :
    {B : Type 0} (n : ℕ) (bs : List ℕ) (g : List RegisterPair × List ℕ → Option B)
    → ((c : List RegisterPair × List ℕ) → is_some (exact n 0 c.1) ≡ is_some (g c))
    → is_some (exact (suc n) 0 bs) ≡ is_some (bind (cut_entries bs) g)
one_more n bs g h = go (cut_entries bs)
  where
    go :
        (o : Option (List RegisterPair × List ℕ))
        → is_some (bind o (λ c. bind (exact n 0 c.1) (λ t. some (leb 1 (length c.0) && t)))) ≡ is_some (bind o g)
    go none = refl
    go (some c) = unwrapped (exact n 0 c.1) (λ t. leb 1 (length c.0) && t) ∙ h c

no_more : {A : Type 0} (bs : List ℕ) (a : A) → is_some (exact 0 0 bs) ≡ is_some (when_nil bs a)
no_more [] a = refl
no_more (x ∷ bs) a = refl

pub two : (p : List ℕ) → is_some (exact 2 0 p) ≡ is_some (cut_two p)
two p = one_more 1 p _ (λ c. one_more 0 c.1 _ (λ d. no_more d.1 _))

pub three : (p : List ℕ) → is_some (exact 3 0 p) ≡ is_some (cut_three p)
three p = one_more 2 p _ (λ c. two c.1 ∙ sym (unwrapped (cut_two c.1) _))

-- speed blocks, if there are so many: whether each has a pair
abbrev of_number : ℕ → List Block → Option Bool
of_number j l = cond (eqb (length l) j) (some (filled l)) none

in_front :
    (j : ℕ) (b : Block) (o : Option (List Block))
    → bind (bind o (of_number j)) (λ t. some (leb 1 (length b.pairs) && t)) ≡ bind (bind o (λ l. some (b ∷ l))) (of_number (suc j))
in_front j b none = refl
in_front j b (some l) = rw compare.suc-suc (go (eqb (length l) j))
  where
    go :
        (t : Bool)
        → bind (cond t (some (filled l)) none) (λ t. some (leb 1 (length b.pairs) && t))
        ≡ cond t (some (leb 1 (length b.pairs) && filled l)) none
    go true = refl
    go false = refl

one_at_least : (b : Block) (o : Option (List Block)) → none ≡ bind (bind o (λ l. some (b ∷ l))) (of_number 0)
one_at_least b none = refl
one_at_least b (some l) = rw (ne_eqb (suc (length l)) 0 (λ e. omega (arith, e))) refl

none_of_some : (j : ℕ) → none ≡ of_number (suc j) []
none_of_some j = rw (ne_eqb 0 (suc j) (λ e. omega (arith, e))) refl

abbrev Within : ℕ → Option (List RegisterPair × List ℕ) → Type 0
Within n none = Unit {0}
Within n (some c) = length c.1 ≤ n

within : (bs : List ℕ) → Within (length bs) (cut_entries bs)
within [] = tt
within (k ∷ bs) = go (leb (4 * k) (length bs))
  where
    go : (t : Bool) → Within (suc (length bs)) (guard t (some (read_pairs k bs, drop (4 * k) bs)))
    go true = omega (arith, length-drop (4 * k) bs)
    go false = tt

speeds : (j m : ℕ) (bs : List ℕ) → length bs ≤ m → exact j 1 bs ≡ bind (cut_blocks m bs) (of_number j)
speeds zero zero [] h = refl
speeds zero (suc m) [] h = refl
speeds (suc j) zero [] h = none_of_some j
speeds (suc j) (suc m) [] h = none_of_some j
speeds zero zero (s ∷ bs) h = absurd (omega arith)
speeds (suc j) zero (s ∷ bs) h = absurd (omega arith)
speeds zero (suc m) (s ∷ bs) h = go (cut_entries bs)
  where
    go :
        (o : Option (List RegisterPair × List ℕ))
        → none ≡ bind (bind o (λ c. bind (cut_blocks m c.1) (λ more. some (block_of s c.0 ∷ more)))) (of_number 0)
    go none = refl
    go (some c) = one_at_least (block_of s c.0) (cut_blocks m c.1)
speeds (suc j) (suc m) (s ∷ bs) h = go (cut_entries bs) (within bs) (λ bs l. speeds j m bs l)
  where
    go :
        (o : Option (List RegisterPair × List ℕ))
        → Within (length bs) o
        → ((bs : List ℕ) → length bs ≤ m → exact j 1 bs ≡ bind (cut_blocks m bs) (of_number j))
        → bind o (λ c. bind (exact j 1 c.1) (λ t. some (leb 1 (length c.0) && t)))
        ≡ bind (bind o (λ c. bind (cut_blocks m c.1) (λ more. some (block_of s c.0 ∷ more)))) (of_number (suc j))
    go none w rec = refl
    go (some c) w rec = rw (rec c.1 (omega arith)) (in_front j (block_of s c.0) (cut_blocks m c.1))

-- one to six of them
module _ (r : Counted) (part : Part) (end : ℕ) (w : part.whole ≡ fills r end 1 6) (f : part.full ≡ r.full) where
  by_number_lem :
      (o : Option (List Block)) → ((j : ℕ) → j ≤ 6 → Says end j true r (bind o (of_number j))) → SpeedsAre part o
  by_number_lem none h =
      w ∙ (not-eq-not {b = false}).0 (λ e. let g = filling r end 1 6 e in h r.blocks g.2 g.0 refl)
  by_number_lem (some l) h = (w ∙ same_truth _ _ (λ e. fitting e (number e)) whole, λ e. f ∙ (number (sym w ∙ e)).1)
    where
      number : fills r end 1 6 ≡ true → (length l ≡ r.blocks) × (r.full ≡ filled l)
      number e = go (eqb (length l) r.blocks) refl (h r.blocks (filling r end 1 6 e).2)
        where
          go :
              (t : Bool)
              → eqb (length l) r.blocks ≡ t
              → Says end r.blocks true r (cond t (some (filled l)) none)
              → (length l ≡ r.blocks) × (r.full ≡ filled l)
          go true q s = (eqb-true (length l) r.blocks q, s.2)
          go false q s = absurd (s (filling r end 1 6 e).0 refl)

      fitting : fills r end 1 6 ≡ true → (length l ≡ r.blocks) × (r.full ≡ filled l) → leb 1 (length l) && leb (length l) 6 ≡ true
      fitting e n =
          let g = filling r end 1 6 e in
          rw (le-leb 1 (length l) (omega arith), le-leb (length l) 6 (omega arith)) refl

      whole : leb 1 (length l) && leb (length l) 6 ≡ true → fills r end 1 6 ≡ true
      whole e =
          let g = between (length l) 1 6 e in
          let s = rw (eq-eqb (length l) (length l) refl) at (h (length l) g.1) in
          filled_by r end 1 6 s.0 (omega arith) (omega arith)

-- 09h, as the code has it: the cut leads one past the end, and past its start
pub speed_law :
    (p : List ℕ) (part : Part)
    → part.whole ≡ eqb (cut_of 6 1 p).at (length p + 1) && ltb 1 (cut_of 6 1 p).at
    → part.full ≡ (cut_of 6 1 p).full
    → SpeedPart p part
speed_law p part w f m h =
    let c = count_of 6 1 p in
    let e = all_shown 1 p 6 (counted 1 0 true) in
    let g = grown 1 p 6 (counted 1 0 true) in
    let first : ltb 1 c.at ≡ leb 1 c.blocks && leb c.blocks 6 =
    rw (le-leb c.blocks 6 (omega (arith, g.most)))
    (same_truth _ _
    (λ t. (and-eq-true_iff (leb 1 c.blocks) true).1 (one_block c.at c.blocks (ltb-true 1 c.at t) g.still, refl))
    (λ t. lt-ltb 1 c.at (omega (arith, g.onward, leb-true 1 c.blocks ((and-eq-true_iff (leb 1 c.blocks) true).0 t).0))))
    in
    by_number_lem c part (length p + 1) (w ∙ rw (e, first) refl) (f ∙ rw e refl) (cut_blocks m p)
    (λ j l. rw (speeds j m p h) at (told 1 j 6 p l))
  where
    one_block : (at k : ℕ) → 1 < at → (k ≡ 0 → at ≡ 1) → leb 1 k ≡ true
    one_block at zero l s = absurd (omega (arith, s refl))
    one_block at (suc k) l s = le-leb 1 (suc k) (omega arith)

-- and so many blocks of ENTRIES and pairs: the last of them begins before the end and leads to it
abbrev ends_with : List ℕ → Cut → Bool
ends_with p c = ltb c.at (length p) && eqb (past_block 0 p c).at (length p)

pairs_law : (n : ℕ) (p : List ℕ) → ends_with p (cut_of n 0 p) ≡ is_some (exact (suc n) 0 p)
pairs_law n p =
    let c = count_of n 0 p in
    ap (ends_with p) (all_shown 0 p n (counted 0 0 true))
    ∙ ends c (λ l. omega (arith, each_passed 0 p n (counted 0 0 true) l)) (omega (arith, (grown 0 p n (counted 0 0 true)).most))
    ∙ ap (λ (d : Counted). fills d (length p) (suc n) (suc n)) (sym (last_step 0 p n (counted 0 0 true)))
    ∙ counted_pairs (suc n) (suc n) p (omega arith)
  where
    ends :
        (c : Counted)
        → (c.at < length p → c.blocks ≡ n)
        → c.blocks ≤ n
        → ends_with p (shown c) ≡ fills (past_counted 0 p c) (length p) (suc n) (suc n)
    ends c each most =
        ⊎_elim
        (λ l. let e = lt-ltb c.at (length p) l in
        rw (e, le-leb (suc n) (c.blocks + 1) (omega (arith, each l)), le-leb (c.blocks + 1) (suc n) (omega (arith, each l)))
        (sym (and-true (eqb (c.at + 1 + 0 + 4 * byte p c.at) (length p)))))
        (λ l. let e = le-ltb c.at (length p) l in
        rw (e, lt-leb (suc n) c.blocks (omega (arith, most))) (sym (and-false (eqb c.at (length p)))))
        (less_or_not c.at (length p))

pub pairs_begun :
    (n : ℕ) (p : List ℕ) (c : Cut)
    → 1 ≤ n
    → c ≡ cut_of (n - 1) 0 p
    → c.at < length p
    → eqb (past_block 0 p c).at (length p) ≡ is_some (exact n 0 p)
pairs_begun zero p c h q l = absurd (omega arith)
pairs_begun (suc k) p c h q l =
    let e : suc k - 1 ≡ k = omega arith in
    let t = lt-ltb c.at (length p) l in
    rw t (rw t at (ap (ends_with p) (rw e at q) ∙ pairs_law k p))

pub pairs_short : (n : ℕ) (p : List ℕ) (c : Cut) → 1 ≤ n → c ≡ cut_of (n - 1) 0 p → length p ≤ c.at → false ≡ is_some (exact n 0 p)
pairs_short zero p c h q l = absurd (omega arith)
pairs_short (suc k) p c h q l =
    let e : suc k - 1 ≡ k = omega arith in
    rw (le-ltb c.at (length p) l) at (ap (ends_with p) (rw e at q) ∙ pairs_law k p)
