-- Keeping elements in order: the law of `sift`, and how many are kept and how many lines are made.
-- Assumes nothing.
use Prim.Native.Nat.{ℕ, ◌+◌, ◌≤◌}
use native.Mathlib.Omega.{arith}
use mathlib.Core.Path.{◌≡◌, refl}
use mathlib.Core.Bool.{Bool, true, false, cond}
use mathlib.Core.List.{List, [], ◌∷◌, ◌++◌}
use lib.ListN.{length, length-append}
use Rattle.format.specs.Records.{Record}
use Rattle.saving.specs.Saving.{At, line, left_out, Saved, records, Fate, stays, leaves, mends, unseen, settled, sift}

-- what holds of the choice that a test makes
pub by_test : {A : Type 0} (Q : A → Type 0) (t : Bool) (a b : A) → (t ≡ true → Q a) → (t ≡ false → Q b) → Q (cond t a b)
by_test Q true a b f g = f refl
by_test Q false a b f g = g refl

module _ {A : Type 0} (fate : List Record → A → Fate) where
  -- one more is settled
  abbrev pub next : Saved → At A → Saved
  next s x = settled s x.place (fate (records s.kept) x.what)

  -- THE LAW: what each settling carries on, of what is saved so far and what is left to look at, holds in the end
  pub sift_through :
      (P : Saved → List (At A) → Type 0)
      → ((s : Saved) (x : At A) (xs : List (At A)) → P s (x ∷ xs) → P (next s x) xs)
      → (s : Saved) (xs : List (At A))
      → P s xs
      → P (sift fate s xs) []
  sift_through P step s [] p = p
  sift_through P step s (x ∷ xs) p = sift_through P step (next s x) xs (step s x xs p)

-- each of a list
abbrev pub All : {A : Type 0} → (A → Type 0) → List A → Type 0
All P [] = Unit {0}
All P (x ∷ xs) = P x × All P xs

pub all_snoc : {A : Type 0} (P : A → Type 0) (xs : List A) (x : A) → All P xs → P x → All P (xs ++ x ∷ [])
all_snoc P [] x h p = (p, tt)
all_snoc P (y ∷ xs) x h p = (h.0, all_snoc P xs x h.1 p)

-- a fate that clears nothing makes a line or keeps the record, not both
abbrev pub Plain : Fate → Type 0
Plain (stays r) = Unit {0}
Plain (leaves k) = Unit {0}
Plain (mends r) = ⊥
Plain unseen = Unit {0}

abbrev pub count : Saved → ℕ
count s = length s.kept + length s.lines

plain_count : (s : Saved) (p : ℕ) (f : Fate) → Plain f → count (settled s p f) ≤ count s + 1
plain_count s p (stays r) h = omega (arith, length-append s.kept (record { place = p; what = r } ∷ []))
plain_count s p (leaves k) h = omega (arith, length-append s.lines (line p k left_out ∷ []))
plain_count s p (mends r) h = absurd h
plain_count s p unseen h = omega arith

pub sift_count :
    {A : Type 0} (fate : List Record → A → Fate)
    → ((kept : List Record) (a : A) → Plain (fate kept a))
    → (s : Saved) (xs : List (At A))
    → count (sift fate s xs) ≤ count s + length xs
sift_count fate plain s xs =
    let h =
    sift_through fate (λ t ys. count t + length ys ≤ count s + length xs)
    (λ t y ys k. omega (arith, plain_count t y.place (fate (records t.kept) y.what) (plain (records t.kept) y.what)))
    s xs (omega arith) in
    omega arith
