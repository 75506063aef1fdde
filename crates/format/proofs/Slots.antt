-- Laws of slots: what a start of the bytes says of each byte, and how starts follow one another.
-- Assumes nothing.
use Prim.Native.Nat.{ℕ, zero, suc, ◌+◌, ◌≤◌, ◌<◌}
use native.Mathlib.Omega.{arith}
use native.Mathlib.Nat.{le_of_suc-le-suc, not-suc-le-zero}
use mathlib.Core.Path.{◌≡◌, refl, sym, ap}
use mathlib.Core.List.{List, [], ◌∷◌, ◌++◌}
use lib.ListN.{length, get_or, take, drop, take-append-drop}
use lib.Seq.{get_or-drop}
use Rattle.format.specs.Slots.{Slot, whole, low, high, halves, flag, reserved, Holds, Starts, Fits, roomy, all_roomy, Bytes, byte}
use mathlib.Core.Bool.{true}
use borrow.Author.Tests.{lt-ltb}
use Rattle.format.proofs.Kept.{and-true}

-- the slots, each at its place in the bytes
abbrev pub Over : (ℕ → ℕ) → List Slot → Type 0
Over f [] = Unit {0}
Over f (s ∷ ss) = Holds (f 0) s × Over (λ i. f (suc i)) ss

pub starts_over : (bs : List ℕ) (ss : List Slot) (rest : List ℕ) → Starts bs ss rest → Over (byte bs) ss
starts_over bs [] rest h = tt
starts_over [] (s ∷ ss) rest h = absurd h
starts_over (b ∷ bs) (s ∷ ss) rest h = (h.0, starts_over bs ss rest h.1)

-- what stands at a place, reserved past the end
pub over_at : (f : ℕ → ℕ) (ss : List Slot) → Over f ss → (k : ℕ) → Holds (f k) (get_or ss k reserved)
over_at f [] o k = tt
over_at f (s ∷ ss) o zero = o.0
over_at f (s ∷ ss) o (suc k) = over_at (λ i. f (suc i)) ss o.1 k

pub over_starts : (bs : List ℕ) (ss : List Slot) → length ss ≤ length bs → Over (byte bs) ss → Starts bs ss (drop (length ss) bs)
over_starts bs [] h o = refl
over_starts [] (s ∷ ss) h o = not-suc-le-zero h
over_starts (b ∷ bs) (s ∷ ss) h o = (o.0, over_starts bs ss (le_of_suc-le-suc h) o.1)

pub starts_rest : (bs : List ℕ) (ss : List Slot) (rest : List ℕ) → Starts bs ss rest → rest ≡ drop (length ss) bs
starts_rest bs [] rest h = sym h
starts_rest [] (s ∷ ss) rest h = absurd h
starts_rest (b ∷ bs) (s ∷ ss) rest h = starts_rest bs ss rest h.1

pub starts_length : (bs : List ℕ) (ss : List Slot) (rest : List ℕ) → Starts bs ss rest → length ss ≤ length bs
starts_length bs [] rest h = omega arith
starts_length [] (s ∷ ss) rest h = absurd h
starts_length (b ∷ bs) (s ∷ ss) rest h = let k = starts_length bs ss rest h.1 in omega arith

pub starts_append :
    (bs : List ℕ) (ss ts : List Slot) (mid rest : List ℕ) → Starts bs ss mid → Starts mid ts rest → Starts bs (ss ++ ts) rest
starts_append bs [] ts mid rest h k = rw h k
starts_append [] (s ∷ ss) ts mid rest h k = h
starts_append (b ∷ bs) (s ∷ ss) ts mid rest h k = (h.0, starts_append bs ss ts mid rest h.1 k)

pub starts_split :
    (bs : List ℕ) (ss ts : List Slot) (rest : List ℕ) → Starts bs (ss ++ ts) rest → (mid : List ℕ) × Starts bs ss mid × Starts mid ts rest
starts_split bs [] ts rest h = (bs, refl, h)
starts_split [] (s ∷ ss) ts rest h = absurd h
starts_split (b ∷ bs) (s ∷ ss) ts rest h = let k = starts_split bs ss ts rest h.1 in (k.0, (h.0, k.1), k.2)

-- more bytes behind
pub starts_more : (bs : List ℕ) (ss : List Slot) (rest more : List ℕ) → Starts bs ss rest → Starts (bs ++ more) ss (rest ++ more)
starts_more bs [] rest more h = ap (λ (l : List ℕ). l ++ more) h
starts_more [] (s ∷ ss) rest more h = absurd h
starts_more (b ∷ bs) (s ∷ ss) rest more h = (h.0, starts_more bs ss rest more h.1)

-- the first bytes of a list, and the list
pub fits_take : (n : ℕ) (bs : List ℕ) (ss : List Slot) → Fits (take n bs) ss → Starts bs ss (drop n bs)
fits_take n bs ss h = rw take-append-drop at (starts_more (take n bs) ss [] (drop n bs) h)

pub take_fits : (bs : List ℕ) (ss : List Slot) (rest : List ℕ) → Starts bs ss rest → Fits (take (length ss) bs) ss
take_fits bs [] rest h = refl
take_fits [] (s ∷ ss) rest h = absurd h
take_fits (b ∷ bs) (s ∷ ss) rest h = (h.0, take_fits bs ss rest h.1)

pub starts_count : (bs : List ℕ) (ss : List Slot) (rest : List ℕ) → Starts bs ss rest → length bs ≡ length ss + length rest
starts_count bs [] rest h = rw h (omega arith)
starts_count [] (s ∷ ss) rest h = absurd h
starts_count (b ∷ bs) (s ∷ ss) rest h = let k = starts_count bs ss rest h.1 in omega arith

-- bytes stay bytes
pub bytes_drop : (n : ℕ) (bs : List ℕ) → Bytes bs → Bytes (drop n bs)
bytes_drop n bs small i = rw get_or-drop (small (n + i))

pub bytes_take : (n : ℕ) (bs : List ℕ) → Bytes bs → Bytes (take n bs)
bytes_take zero bs small i = omega arith
bytes_take (suc n) [] small i = omega arith
bytes_take (suc n) (b ∷ bs) small zero = small 0
bytes_take (suc n) (b ∷ bs) small (suc i) = bytes_take n bs (λ j. small (suc j)) i

pub bytes_append : (xs ys : List ℕ) → Bytes xs → Bytes ys → Bytes (xs ++ ys)
bytes_append [] ys f g i = g i
bytes_append (x ∷ xs) ys f g zero = f 0
bytes_append (x ∷ xs) ys f g (suc i) = bytes_append xs ys (λ j. f (suc j)) g i

-- Rule 25: what fits bytes breaks no 25.
holds_roomy : (b : ℕ) (s : Slot) → b < 256 → Holds b s → roomy s ≡ true
holds_roomy b (whole v) h k = lt-ltb v 256 (omega arith)
holds_roomy b (low v) h k = lt-ltb v 16 (omega arith)
holds_roomy b (high v) h k = lt-ltb v 128 (omega arith)
holds_roomy b (halves t v) h k = simp (lt-ltb t 16 (omega arith), lt-ltb v 16 (omega arith))
holds_roomy b (flag t v) h k = lt-ltb v 128 (omega arith)
holds_roomy b reserved h k = refl

pub starts_roomy : (bs : List ℕ) (ss : List Slot) (rest : List ℕ) → Bytes bs → Starts bs ss rest → all_roomy ss ≡ true
starts_roomy bs [] rest small h = refl
starts_roomy [] (s ∷ ss) rest small h = absurd h
starts_roomy (b ∷ bs) (s ∷ ss) rest small h =
    simp (holds_roomy b s (small 0) h.0, starts_roomy bs ss rest (λ i. small (suc i)) h.1)

-- room in two lists of slots is room in both together
pub roomy_split : (ss ts : List Slot) → all_roomy (ss ++ ts) ≡ true → (all_roomy ss ≡ true) × (all_roomy ts ≡ true)
roomy_split [] ts h = (refl, h)
roomy_split (s ∷ ss) ts h =
    let a = and-true (roomy s) (all_roomy (ss ++ ts)) h in
    let b = roomy_split ss ts a.1 in
    (simp (a.0, b.0), b.1)

pub roomy_join : (ss ts : List Slot) → all_roomy ss ≡ true → all_roomy ts ≡ true → all_roomy (ss ++ ts) ≡ true
roomy_join [] ts h k = k
roomy_join (s ∷ ss) ts h k =
    let a = and-true (roomy s) (all_roomy ss) h in
    simp (a.0, roomy_join ss ts a.1 k)
