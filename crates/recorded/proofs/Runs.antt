-- What is read where a run of numbers was stored, and beside it: by induction over the run.
-- Assumes nothing.
use Prim.Native.Nat.{ℕ, zero, suc, ◌+◌, ◌<◌, ◌≤◌}
use native.Mathlib.Omega.{arith}
use mathlib.Core.Path.{◌≡◌, refl, ◌∙◌}
use mathlib.Core.List.{List, [], ◌∷◌}
use lib.ListN.{length, get_or, set, length-set}
use lib.Seq.{sets, get_or-set_same, get_or-set_other}

pub beside : (vs l : List ℕ) (i k : ℕ) → ((j : ℕ) → j < length vs → k ≡ i + j → ⊥) → get_or (sets l i vs) k 0 ≡ get_or l k 0
beside [] l i k h = refl
beside (v ∷ vs) l i k h =
    beside vs (set l i v) (suc i) k (λ j q e. h (suc j) (omega (arith, q)) (omega (arith, e)))
    ∙ get_or-set_other l i k v 0 (λ e. h 0 (omega arith) (omega (arith, e)))

pub inside : (vs l : List ℕ) (i j k : ℕ) → k ≡ i + j → i + length vs ≤ length l → j < length vs → get_or (sets l i vs) k 0 ≡ get_or vs j 0
inside [] l i j k e h q = absurd (omega (arith, q))
inside (v ∷ vs) l i zero k e h q =
    let f : k ≡ i = omega (arith, e) in
    rw f (beside vs (set l i v) (suc i) i (λ j q e. omega (arith, e)) ∙ get_or-set_same l i v 0 (omega (arith, h)))
inside (v ∷ vs) l i (suc j) k e h q =
    inside vs (set l i v) (suc i) j k (omega (arith, e)) (omega (arith, h, length-set l i v)) (omega (arith, q))
