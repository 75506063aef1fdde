-- The blocks of register pairs: those that fit are those that are cut, and those that are cut fit.
-- Assumes nothing.
use Prim.Native.Nat.{ℕ, zero, suc, ◌+◌, ◌*◌, ◌≤◌}
use native.Mathlib.Omega.{arith}
use mathlib.Core.Path.{◌≡◌, refl, sym, ◌∙◌, ap}
use mathlib.Core.Bool.{Bool, true, false}
use mathlib.Core.List.{List, [], ◌∷◌, ◌++◌}
use mathlib.Core.Option.{Option, none, some}
use lib.Dec.{leb}
use lib.ListN.{length, drop, length-drop}
use lib.Seq.{drop-drop}
use borrow.Author.Tests.{leb-true, le-leb}
use Rattle.format.specs.Slots.{Slot, word, Starts, Fits, byte, Bytes}
use Rattle.format.specs.Records.{Block}
use Rattle.format.specs.Layout.{pairs, entries, blocks}
use Rattle.format.specs.declared.records.RegisterPair.{RegisterPair}
use Rattle.format.specs.Decode.{word_at, pair_of, block_of, read_pairs, guard, bind, cut_entries, cut_blocks, cut_two, cut_three, when_nil}
use Rattle.format.proofs.Slots.{bytes_drop, starts_over, over_starts, starts_rest, starts_length, starts_count, starts_append}
use Rattle.format.proofs.Slots.{starts_split}

drop_same : (bs : List ℕ) (m n : ℕ) → m ≡ n → drop m bs ≡ drop n bs
drop_same bs m n e = ap (λ (k : ℕ). drop k bs) e

-- pairs
length_pairs : (ps : List RegisterPair) → length (pairs ps) ≡ 4 * length ps
length_pairs [] = refl
length_pairs (p ∷ ps) = let h = length_pairs ps in omega arith

pub read_length : (n : ℕ) (bs : List ℕ) → length (read_pairs n bs) ≡ n
read_length zero bs = refl
read_length (suc n) bs = ap suc (read_length n (drop 4 bs))

abbrev one : RegisterPair → List Slot
one p = word p.address ++ word p.«data»

pairs_fits : (n : ℕ) (bs : List ℕ) → Bytes bs → 4 * n ≤ length bs → Starts bs (pairs (read_pairs n bs)) (drop (4 * n) bs)
pairs_fits zero bs small h = refl
pairs_fits (suc n) bs small h =
    let f = byte bs in
    let p = pair_of (word_at f 0) (word_at f 2) in
    let k = pairs_fits n (drop 4 bs) (bytes_drop 4 bs small) (omega (arith, length-drop 4 bs)) in
    let here : drop (4 * n) (drop 4 bs) ≡ drop (4 * suc n) bs = drop-drop (4 * n) 4 bs
    ∙ drop_same bs (4 + 4 * n) (4 * suc n) (omega arith) in
    starts_append bs (one p) (pairs (read_pairs n (drop 4 bs))) (drop 4 bs) (drop (4 * suc n) bs)
    (over_starts bs (one p) (omega arith) (omega (arith, small 0, small 2)))
    (rw here at k)

pairs_only : (ps : List RegisterPair) (bs rest : List ℕ) → Starts bs (pairs ps) rest → ps ≡ read_pairs (length ps) bs
pairs_only [] bs rest h = refl
pairs_only (p ∷ ps) bs rest h =
    let c = starts_split bs (one p) (pairs ps) rest h in
    let o = starts_over bs (one p) c.0 c.1 in
    let m : p.address ≡ word_at (byte bs) 0 = omega arith in
    let n : p.«data» ≡ word_at (byte bs) 2 = omega arith in
    let q : ps ≡ read_pairs (length ps) (drop 4 bs) = rw (starts_rest bs (one p) c.0 c.1) at (pairs_only ps c.0 rest c.2) in
    λ i. pair_of (m i) (n i) ∷ q i

-- a number of pairs and the pairs
abbrev EntriesFit : List ℕ → Option (List RegisterPair × List ℕ) → Type 0
EntriesFit bs none = Unit {0}
EntriesFit bs (some c) = Starts bs (entries c.0) c.1 × Bytes c.1

entries_fits : (bs : List ℕ) → Bytes bs → EntriesFit bs (cut_entries bs)
entries_fits [] small = tt
entries_fits (k ∷ bs) small = go (leb (4 * k) (length bs)) refl
  where
    go : (t : Bool) → leb (4 * k) (length bs) ≡ t → EntriesFit (k ∷ bs) (guard t (some (read_pairs k bs, drop (4 * k) bs)))
    go true e = (
      (sym (read_length k bs), pairs_fits k bs (λ i. small (suc i)) (leb-true (4 * k) (length bs) e)),
      bytes_drop (4 * k) bs (λ i. small (suc i)),
    )
    go false e = tt

entries_only : (bs : List ℕ) (ps : List RegisterPair) (rest : List ℕ) → Starts bs (entries ps) rest → cut_entries bs ≡ some (ps, rest)
entries_only [] ps rest h = absurd h
entries_only (k ∷ bs) ps rest h =
    let l : 4 * k ≤ length bs = omega (arith, h.0, length_pairs ps, starts_length bs (pairs ps) rest h.1) in
    let p : read_pairs k bs ≡ ps = rw h.0 (sym (pairs_only ps bs rest h.1)) in
    let r : drop (4 * k) bs ≡ rest =
    drop_same bs (4 * k) (length (pairs ps)) (omega (arith, h.0, length_pairs ps)) ∙ sym (starts_rest bs (pairs ps) rest h.1) in
    simp (le-leb (4 * k) (length bs) l, p, r)

-- blocks, to the end
abbrev pub BlocksFit : List ℕ → Option (List Block) → Type 0
BlocksFit bs none = Unit {0}
BlocksFit bs (some l) = Fits bs (blocks l)

cons_fits :
    (s n : ℕ) (bs : List ℕ) (c : Option (List RegisterPair × List ℕ))
    → EntriesFit bs c
    → ((r : List ℕ) → Bytes r → BlocksFit r (cut_blocks n r))
    → BlocksFit (s ∷ bs) (bind c (λ c. bind (cut_blocks n c.1) (λ more. some (block_of s c.0 ∷ more))))
cons_fits s n bs none e rec = tt
cons_fits s n bs (some c) e rec = go (cut_blocks n c.1) (rec c.1 e.1)
  where
    go : (m : Option (List Block)) → BlocksFit c.1 m → BlocksFit (s ∷ bs) (bind m (λ more. some (block_of s c.0 ∷ more)))
    go none h = tt
    go (some l) h = (refl, starts_append bs (entries c.0) (blocks l) c.1 [] e.0 h)

pub blocks_fits : (n : ℕ) (bs : List ℕ) → Bytes bs → BlocksFit bs (cut_blocks n bs)
blocks_fits zero [] small = refl
blocks_fits zero (s ∷ bs) small = tt
blocks_fits (suc n) [] small = refl
blocks_fits (suc n) (s ∷ bs) small =
    cons_fits s n bs (cut_entries bs) (entries_fits bs (λ i. small (suc i))) (λ r q. blocks_fits n r q)

pub cut_nil : (n : ℕ) → cut_blocks n [] ≡ some []
cut_nil zero = refl
cut_nil (suc n) = refl

pub blocks_only : (l : List Block) (n : ℕ) (bs : List ℕ) → length bs ≤ n → Fits bs (blocks l) → cut_blocks n bs ≡ some l
blocks_only [] n bs h f = rw f (cut_nil n)
blocks_only (b ∷ l) n [] h f = absurd f
blocks_only (b ∷ l) zero (x ∷ bs) h f = absurd (omega arith)
blocks_only (b ∷ l) (suc n) (x ∷ bs) h f =
    let c = starts_split bs (entries b.pairs) (blocks l) [] f.1 in
    let r = blocks_only l n c.0 (omega (arith, starts_count bs (entries b.pairs) c.0 c.1)) c.2 in
    simp (entries_only bs b.pairs c.0 c.1, r, f.0)

-- two lists of pairs, to the end
abbrev pub TwoFit : List ℕ → Option (List RegisterPair × List RegisterPair) → Type 0
TwoFit bs none = Unit {0}
TwoFit bs (some t) = Fits bs (entries t.0 ++ entries t.1)

pub two_fits : (bs : List ℕ) → Bytes bs → TwoFit bs (cut_two bs)
two_fits bs small = first (cut_entries bs) (entries_fits bs small)
  where
    last :
        (c : List RegisterPair × List ℕ) (d : List RegisterPair) (r : List ℕ)
        → Starts bs (entries c.0) c.1
        → Starts c.1 (entries d) r
        → TwoFit bs (when_nil r (c.0, d))
    last c d [] s t = starts_append bs (entries c.0) (entries d) c.1 [] s t
    last c d (x ∷ r) s t = tt

    second :
        (c : List RegisterPair × List ℕ) (d : Option (List RegisterPair × List ℕ))
        → Starts bs (entries c.0) c.1
        → EntriesFit c.1 d
        → TwoFit bs (bind d (λ d. when_nil d.1 (c.0, d.0)))
    second c none s e = tt
    second c (some d) s e = last c d.0 d.1 s e.0

    first :
        (c : Option (List RegisterPair × List ℕ))
        → EntriesFit bs c
        → TwoFit bs (bind c (λ c. bind (cut_entries c.1) (λ d. when_nil d.1 (c.0, d.0))))
    first none e = tt
    first (some c) e = second c (cut_entries c.1) e.0 (entries_fits c.1 e.1)

pub two_only : (bs : List ℕ) (a b : List RegisterPair) → Fits bs (entries a ++ entries b) → cut_two bs ≡ some (a, b)
two_only bs a b f =
    let c = starts_split bs (entries a) (entries b) [] f in
    simp (entries_only bs a c.0 c.1, entries_only c.0 b [] c.2)

-- three of them
abbrev pub ThreeFit : List ℕ → Option (List RegisterPair × List RegisterPair × List RegisterPair) → Type 0
ThreeFit bs none = Unit {0}
ThreeFit bs (some t) = Fits bs (entries t.0 ++ (entries t.1 ++ entries t.2))

pub three_fits : (bs : List ℕ) → Bytes bs → ThreeFit bs (cut_three bs)
three_fits bs small = first (cut_entries bs) (entries_fits bs small)
  where
    rest :
        (c : List RegisterPair × List ℕ) (t : Option (List RegisterPair × List RegisterPair))
        → Starts bs (entries c.0) c.1
        → TwoFit c.1 t
        → ThreeFit bs (bind t (λ t. some (c.0, t.0, t.1)))
    rest c none s f = tt
    rest c (some t) s f = starts_append bs (entries c.0) (entries t.0 ++ entries t.1) c.1 [] s f

    first :
        (c : Option (List RegisterPair × List ℕ))
        → EntriesFit bs c
        → ThreeFit bs (bind c (λ c. bind (cut_two c.1) (λ t. some (c.0, t.0, t.1))))
    first none e = tt
    first (some c) e = rest c (cut_two c.1) e.0 (two_fits c.1 e.1)

pub three_only :
    (bs : List ℕ) (a b d : List RegisterPair) → Fits bs (entries a ++ (entries b ++ entries d)) → cut_three bs ≡ some (a, b, d)
three_only bs a b d f =
    let c = starts_split bs (entries a) (entries b ++ entries d) [] f in
    simp (entries_only bs a c.0 c.1, two_only c.0 b d c.2)
