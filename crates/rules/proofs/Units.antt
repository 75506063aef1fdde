-- A text unit by unit, as the code goes through it: the upper six bits of a unit tell what it is, and what is left ends where the
-- whole ends.
-- Assumes nothing.
use Prim.Native.Nat.{ℕ, suc, ◌+◌, ◌*◌, ◌/◌, ◌<◌, ◌≤◌}
use native.Mathlib.Omega.{arith}
use mathlib.Core.Path.{◌≡◌, refl, sym, ◌∙◌, ap}
use mathlib.Core.Bool.{Bool, true, false, ◌&&◌, not}
use mathlib.Core.List.{List, [], ◌∷◌}
use lib.ListN.{length, drop, length-drop}
use lib.Seq.{drop-cons}
use lib.Dec.{eqb, leb}
use borrow.Author.Tests.{eqb-true, eqb-false, leb-true, leb-false}
use Rattle.format.specs.Slots.{Bytes, byte}
use Rattle.format.specs.Utf16.{units, high_surrogate, agrees, paired_after}
use Rattle.format.proofs.Utf16.{within_run, below_run, above_run}

-- units with the same upper six bits are a run of 1,024
top_six : (k a b : ℕ) → a < 256 → eqb (b / 4) k ≡ leb (1024 * k) (a + 256 * b) && leb (a + 256 * b) (1024 * k + 1023)
top_six k a b s = go (eqb (b / 4) k) refl
  where
    apart :
        (b / 4 ≡ k → ⊥)
        → (t : Bool)
        → leb (1024 * k) (a + 256 * b) ≡ t
        → leb (1024 * k) (a + 256 * b) && leb (a + 256 * b) (1024 * k + 1023) ≡ false
    apart n true e = let h = leb-true (1024 * k) (a + 256 * b) e in above_run (1024 * k) (a + 256 * b) (1024 * k + 1023) (omega arith)
    apart n false e = below_run (1024 * k) (a + 256 * b) (1024 * k + 1023) (leb-false (1024 * k) (a + 256 * b) e)

    go : (t : Bool) → eqb (b / 4) k ≡ t → t ≡ leb (1024 * k) (a + 256 * b) && leb (a + 256 * b) (1024 * k + 1023)
    go true e =
        let h = eqb-true (b / 4) k e in
        sym (within_run (1024 * k) (a + 256 * b) (1024 * k + 1023) (omega arith) (omega arith))
    go false e = sym (apart (eqb-false (b / 4) k e) (leb (1024 * k) (a + 256 * b)) refl)

two_bytes_lem : (t : List ℕ) (i : ℕ) → i + 1 < length t → drop i t ≡ byte t i ∷ byte t (i + 1) ∷ drop (i + 2) t
two_bytes_lem t i h =
    let one : suc i ≡ i + 1 = omega arith in
    let two : suc (suc i) ≡ i + 2 = omega arith in
    drop-cons t i 0 (omega arith)
    ∙ ap (λ (l : List ℕ). byte t i ∷ l) (drop-cons t (suc i) 0 (omega arith))
    ∙ ap (λ (n : ℕ). byte t i ∷ byte t n ∷ drop (suc (suc i)) t) one
    ∙ ap (λ (n : ℕ). byte t i ∷ byte t (i + 1) ∷ drop n t) two

and_regroup : (a b c : Bool) → a && (b && c) ≡ (a && b) && c
and_regroup true b c = refl
and_regroup false b c = refl

-- one unit on
pub one_unit :
    (t : List ℕ) (i : ℕ) (good high : Bool)
    → Bytes t
    → 2 * i + 1 < length t
    → good && paired_after high (units (drop (2 * i) t))
    ≡ (good && agrees high (eqb (byte t (2 * i + 1) / 4) 55)) && paired_after (eqb (byte t (2 * i + 1) / 4) 54)
    (units (drop (2 * (i + 1)) t))
one_unit t i good high small h =
    let a = byte t (2 * i) in
    let b = byte t (2 * i + 1) in
    let next : 2 * i + 2 ≡ 2 * (i + 1) = omega arith in
    ap (λ (l : List ℕ). good && paired_after high (units l)) (two_bytes_lem t (2 * i) h)
    ∙ ap (λ (x : Bool). good && (agrees high x && paired_after (high_surrogate (a + 256 * b)) (units (drop (2 * i + 2) t))))
    (sym (top_six 55 a b (small (2 * i))))
    ∙ ap (λ (x : Bool). good && (agrees high (eqb (b / 4) 55) && paired_after x (units (drop (2 * i + 2) t))))
    (sym (top_six 54 a b (small (2 * i))))
    ∙ and_regroup good (agrees high (eqb (b / 4) 55)) (paired_after (eqb (b / 4) 54) (units (drop (2 * i + 2) t)))
    ∙ ap (λ (n : ℕ). (good && agrees high (eqb (b / 4) 55)) && paired_after (eqb (b / 4) 54) (units (drop n t))) next

-- no unit is left
no_unit : (l : List ℕ) → length l < 2 → units l ≡ []
no_unit [] h = refl
no_unit (a ∷ []) h = refl
no_unit (a ∷ b ∷ l) h = absurd (omega arith)

pub all_units :
    (t : List ℕ) (i : ℕ) (good high : Bool)
    → length t / 2 ≤ i
    → good && not high ≡ good && paired_after high (units (drop (2 * i) t))
all_units t i good high h =
    sym (ap (λ (l : List ℕ). good && paired_after high l) (no_unit (drop (2 * i) t) (omega (arith, length-drop (2 * i) t))))
