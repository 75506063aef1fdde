-- The elements as they stand: each is whole bytes with a header, so many, and none beyond the table's end.
-- Assumes nothing.
use Prim.Native.Nat.{ℕ, zero, suc, ◌+◌, ◌*◌, ◌≤◌}
use native.Mathlib.Omega.{arith}
use mathlib.Core.Path.{◌≡◌}
use mathlib.Core.Bool.{true, ◌&&◌}
use mathlib.Core.List.{List, []}
use lib.ListN.{length, drop, length-drop}
use lib.Dec.{leb}
use borrow.Author.Tests.{leb-true}
use Rattle.format.specs.Slots.{Bytes}
use Rattle.format.specs.Verdict.{stated, framed}
use Rattle.format.proofs.Kept.{and-true}
use Rattle.format.proofs.Slots.{bytes_drop}
use Rattle.saving.specs.Saving.{At, standing}
use Rattle.saving.proofs.Sifting.{All, by_test}

-- rule 6 as numbers
pub framed_facts : (bs : List ℕ) → framed bs ≡ true → (3 ≤ stated bs) × (stated bs ≤ length bs)
framed_facts bs h =
    let p = and-true (leb 3 (length bs)) (leb 3 (stated bs) && leb (stated bs) (length bs)) h in
    let q = and-true (leb 3 (stated bs)) (leb (stated bs) (length bs)) p.1 in
    (leb-true _ _ q.0, leb-true _ _ q.1)

-- an element that stands there: bytes, whose header is none of 6
abbrev pub Whole : At (List ℕ) → Type 0
Whole x = Bytes x.what × (framed x.what ≡ true)

pub standing_whole : (n p : ℕ) (bs : List ℕ) → Bytes bs → All Whole (standing n p bs)
standing_whole zero p bs small = tt
standing_whole (suc n) p bs small =
    by_test (All Whole) (framed bs) _ []
    (λ f. ((small, f), standing_whole n (p + stated bs) (drop (stated bs) bs) (bytes_drop (stated bs) bs small)))
    (λ f. tt)

-- where it stands: three bytes at least before the end
abbrev pub Before : ℕ → {A : Type 0} → At A → Type 0
Before end x = x.place + 3 ≤ end

pub standing_before : (n p end : ℕ) (bs : List ℕ) → p + length bs ≤ end → All (Before end) (standing n p bs)
standing_before zero p end bs h = tt
standing_before (suc n) p end bs h =
    by_test (All (Before end)) (framed bs) _ []
    (λ f.
    let k = framed_facts bs f in
    (omega arith, standing_before n (p + stated bs) end (drop (stated bs) bs) (omega (arith, length-drop (stated bs) bs))))
    (λ f. tt)

-- how many: 'an element is at least 3 bytes'
pub standing_count : (n p : ℕ) (bs : List ℕ) → 3 * length (standing n p bs) ≤ length bs
standing_count zero p bs = omega arith
standing_count (suc n) p bs =
    by_test (λ (l : List (At (List ℕ))). 3 * length l ≤ length bs) (framed bs) _ []
    (λ f.
    let k = framed_facts bs f in
    omega (arith, standing_count n (p + stated bs) (drop (stated bs) bs), length-drop (stated bs) bs))
    (λ f. omega arith)
