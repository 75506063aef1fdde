-- The law of the cut, over `lead` and the number of blocks: a cut past n blocks at most tells of each number up to n whether
-- so many blocks fill the bytes. By induction on both numbers, for the bytes from any place i on.
-- Assumes nothing.
use Prim.Native.Nat.{ℕ, zero, suc, ◌+◌, ◌*◌, ◌<◌, ◌≤◌}
use native.Mathlib.Omega.{arith}
use native.Mathlib.Nat.{eq-zero-or-pos}
use mathlib.Core.Path.{◌≡◌, refl, sym, ◌∙◌, ap, subst}
use mathlib.Core.Logic.{⊎_elim}
use mathlib.Core.Bool.{Bool, true, false, ◌&&◌, not, and_assoc, and-true}
use mathlib.Core.List.{List}
use mathlib.Core.Option.{Option, none, some}
use lib.Dec.{eqb, leb}
use lib.ListN.{length, drop, length-drop, drop_of_length-le}
use lib.Seq.{drop-drop, drop-cons}
use borrow.Author.Tests.{lt-ltb, le-leb, lt-leb, leb-true, leb-false, eq-eqb, ne_eqb}
use Rattle.format.specs.Slots.{byte}
use Rattle.format.specs.Decode.{bind, guard, read_pairs}
use Rattle.format.specs.declared.records.RegisterPair.{RegisterPair}
use Rattle.format.proofs.Blocks.{read_length}
use Rattle.blocks.specs.Cutting.{exact}
use Rattle.blocks.proofs.Counting.{Counted, counted, entered, count_from, less_or_not, stuck, grown}

-- what a cut says of bytes that end at `end`: with k blocks they are filled, or they are not
abbrev pub Says : ℕ → ℕ → Bool → Counted → Option Bool → Type 0
Says end k f r none = r.at ≡ end → r.blocks ≡ k → ⊥
Says end k f r (some t) = (r.at ≡ end) × (r.blocks ≡ k) × (r.full ≡ f && t)

nonzero : (k : ℕ) → not (eqb k 0) ≡ leb 1 k
nonzero k = ⊎_elim (λ e. rw (eq-eqb k 0 e, lt-leb 1 k (omega arith)) refl) (λ e. rw (ne_eqb k 0 (λ z. omega arith), le-leb 1 k e) refl)
    (eq-zero-or-pos k)

-- one block more in front
one_more :
    (end k : ℕ) (f : Bool) (r : Counted) (x : ℕ) (bs : List ℕ) (o : Option Bool)
    → Says end k (f && not (eqb x 0)) r o
    → Says end k f r (bind o (λ t. some (leb 1 (length (read_pairs x bs)) && t)))
one_more end k f r x bs none h = h
one_more end k f r x bs (some t) h =
    (h.0, h.1, h.2 ∙ rw (read_length x bs, ← nonzero x) (and_assoc f (not (eqb x 0)) t))

module _ (lead : ℕ) (b : List ℕ) where
  -- a block that is there is counted
  moved : (n at k : ℕ) (f : Bool) → at < length b → k < (count_from (suc n) lead b (counted at k f)).blocks
  moved n at k f h = subst (λ (t : Bool). k < (count_from n lead b (entered t lead (byte b at) (counted at k f))).blocks)
      (sym (lt-ltb at (length b) h)) (omega (arith, (grown lead b n (entered true lead (byte b at) (counted at k f))).more))

  -- of the bytes from any place on: n blocks at most are passed, and j of them are to fill the bytes
  abbrev Told : ℕ → ℕ → Type 0
  Told j n =
      (i k : ℕ) (f : Bool)
      → i ≤ length b
      → Says (length b + lead) (k + j) f (count_from n lead b (counted (i + lead) k f)) (exact j lead (drop i b))

  -- bytes that are left want a block more
  wants_more : (n i k : ℕ) (f : Bool) → i < length b → Says (length b + lead) k f (count_from n lead b (counted (i + lead) k f)) none
  wants_more zero i k f h p q = omega arith
  wants_more (suc n) i k f h p q =
      ⊎_elim (λ l. omega (arith, q, moved n (i + lead) k f l))
      (λ l. omega (arith, p, ap (λ (c : Counted). c.at) (stuck lead b (suc n) (i + lead) k f l)))
      (less_or_not (i + lead) (length b))

  none_left : (n : ℕ) → Told 0 n
  none_left n i k f h =
      let z : k + 0 ≡ k = omega arith in
      rw z
      (⊎_elim (λ l. rw (drop-cons b i 0 l) (wants_more n i k f l))
      (λ l. rw (drop_of_length-le b {i = i} l, stuck lead b n (i + lead) k f (omega arith)) (omega arith, refl, sym (and-true f)))
      (less_or_not i (length b)))

  -- past an ENTRIES byte x, whose pairs are there or not
  past_entries :
      (j n at x k : ℕ) (f : Bool) (t : Bool)
      → Told j n
      → at < length b
      → leb (4 * x) (length (drop (suc at) b)) ≡ t
      → Says (length b + lead) (k + suc j) f (count_from n lead b (counted (at + 1 + lead + 4 * x) (k + 1) (f && not (eqb x 0))))
      (bind {A = List RegisterPair × List ℕ} (guard t (some (read_pairs x (drop (suc at) b), drop (4 * x) (drop (suc at) b))))
      (λ c. bind (exact j lead c.1) (λ t. some (leb 1 (length c.0) && t))))
  past_entries j n at x k f true rec l e =
      let m = leb-true (4 * x) (length (drop (suc at) b)) e in
      let p : at + 1 + lead + 4 * x ≡ suc at + 4 * x + lead = omega arith in
      let q : k + suc j ≡ k + 1 + j = omega arith in
      rw (drop-drop (4 * x) (suc at) b, p, q)
      (one_more _ _ f _ x (drop (suc at) b) (exact j lead (drop (suc at + 4 * x) b))
      (rec (suc at + 4 * x) (k + 1) (f && not (eqb x 0)) (omega (arith, length-drop (suc at) b))))
  past_entries j n at x k f false rec l e =
      let m = leb-false (4 * x) (length (drop (suc at) b)) e in
      λ p q. omega (
        arith,
        p,
        length-drop (suc at) b,
        ap (λ (c : Counted). c.at) (stuck lead b n (at + 1 + lead + 4 * x) (k + 1) (f && not (eqb x 0))
            (omega (arith, length-drop (suc at) b))),
      )

  block_more : (j n : ℕ) → Told j n → Told (suc j) (suc n)
  block_more j n rec i k f h =
      ⊎_elim
      (λ l. rw (drop-drop lead i b, drop-cons b (i + lead) 0 l, lt-ltb (i + lead) (length b) l)
      (past_entries j n (i + lead) (byte b (i + lead)) k f (leb (4 * byte b (i + lead)) (length (drop (suc (i + lead)) b))) rec l refl))
      (λ l. rw (drop-drop lead i b, drop_of_length-le b {i = i + lead} l)
      (λ p q. omega (arith, q, ap (λ (c : Counted). c.blocks) (stuck lead b (suc n) (i + lead) k f l))))
      (less_or_not (i + lead) (length b))

  pub says : (j n : ℕ) → j ≤ n → Told j n
  says zero n g = none_left n
  says (suc j) zero g = absurd (omega arith)
  says (suc j) (suc n) g = block_more j n (says j n (omega arith))
