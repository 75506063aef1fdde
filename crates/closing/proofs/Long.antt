-- An element of more than 30 bytes that has no part is 8, or 7 where there is no such kind.
-- Assumes nothing.
use Prim.Native.Nat.{ℕ, ◌+◌, ◌<◌}
use native.Mathlib.Omega.{arith}
use mathlib.Core.Path.{◌≡◌, refl, sym, ◌∙◌, ap}
use mathlib.Core.Bool.{Bool, true, false}
use mathlib.Core.List.{List}
use mathlib.Core.Option.{Option, some}
use lib.ListN.{length}
use lib.Dec.{eqb}
use borrow.Author.Tests.{eqb-true, ne_eqb}
use Rattle.format.specs.Records.{Record, zone}
use Rattle.format.specs.Verdict.{known}
use Rattle.format.specs.Decode.{guard, pick, decode}
use Rattle.format.specs.Reader.{stop, or_stop, judge}
use Rattle.format.specs.declared.settings.Settings.{Settings}
use Rattle.format.proofs.Kept.{own_breaks_lem}
use Rattle.format.proofs.Broken.{misshapen}

module _ (σ : Settings) (before : List Record) (id : ℕ) (c : List ℕ) (h : 27 < length c) where
  cases :
      (n k : ℕ) (a b : Option Record)
      → (n ≡ k → judge σ before a ≡ stop 8)
      → judge σ before b ≡ stop 8
      → judge σ before (pick (eqb n k) a b) ≡ stop 8
  cases n k a b f g = go (eqb n k) refl
    where
      go : (t : Bool) → eqb n k ≡ t → judge σ before (pick t a b) ≡ stop 8
      go true e = f (eqb-true n k e)
      go false e = g

  too_long : (n : ℕ) (x : Record) → n < 28 → judge σ before (guard (eqb (length c) n) (some x)) ≡ stop 8
  too_long n x l = rw (ne_eqb (length c) n (λ e. omega arith)) refl

  zone_long : judge σ before (some (zone c)) ≡ stop 8
  zone_long = rw (own_breaks_lem σ before (zone c) (misshapen σ (zone c) (ne_eqb (3 + length c) 30 (λ e. omega arith)))) refl

  judged_8 : (id ≡ 9 → ⊥) → (id ≡ 10 → ⊥) → (id ≡ 12 → ⊥) → (id ≡ 13 → ⊥) → judge σ before (decode σ.chip id c) ≡ stop 8
  unfolding decode
  judged_8 n9 n10 n12 n13 =
      cases id 1 _ _ (λ _. too_long 18 _ (omega arith))
      (cases id 2 _ _ (λ _. too_long 17 _ (omega arith))
      (cases id 3 _ _ (λ _. too_long 13 _ (omega arith))
      (cases id 4 _ _ (λ _. too_long 11 _ (omega arith))
      (cases id 5 _ _ (λ _. too_long 12 _ (omega arith))
      (cases id 6 _ _ (λ _. too_long 13 _ (omega arith))
      (cases id 7 _ _ (λ _. too_long 8 _ (omega arith))
      (cases id 8 _ _ (λ _. too_long 11 _ (omega arith))
      (cases id 9 _ _ (λ e. absurd (n9 e))
      (cases id 10 _ _ (λ e. absurd (n10 e))
      (cases id 11 _ _ (λ _. zone_long)
      (cases id 12 _ _ (λ e. absurd (n12 e))
      (cases id 13 _ _ (λ e. absurd (n13 e))
      (cases id 14 _ _ (λ _. too_long 8 _ (omega arith)) refl)))))))))))))

  pub long_outcome :
      {k : ℕ}
      → (id ≡ 9 → ⊥)
      → (id ≡ 10 → ⊥)
      → (id ≡ 12 → ⊥)
      → (id ≡ 13 → ⊥)
      → (known id ≡ true → k ≡ 8) × (known id ≡ false → k ≡ 7)
      → (or_stop (known id) 7 (judge σ before (decode σ.chip id c)) ≡ stop k) × (0 < k)
  long_outcome {k} a b e f n = go (known id) refl
    where
      go : (t : Bool) → known id ≡ t → (or_stop t 7 (judge σ before (decode σ.chip id c)) ≡ stop k) × (0 < k)
      go true q = (judged_8 a b e f ∙ ap stop (sym (n.0 q)), omega (arith, n.0 q))
      go false q = (ap stop (sym (n.1 q)), omega (arith, n.1 q))
