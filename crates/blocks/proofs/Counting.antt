-- The cut with its blocks counted, which the code leaves out: place and fullness are the same, the first block is what moves the place
-- past the start, and so many steps pass so many blocks exactly where the last of them begins before the end.
-- Assumes nothing.
use Prim.Native.Nat.{ℕ, zero, suc, ◌+◌, ◌*◌, ◌<◌, ◌≤◌}
use native.Mathlib.Omega.{arith}
use mathlib.Core.Path.{◌≡◌, refl, ◌∙◌, ap}
use mathlib.Core.Logic.{◌⊎◌, inl, inr}
use mathlib.Core.Bool.{Bool, true, false, ◌&&◌, not}
use mathlib.Core.List.{List}
use lib.Dec.{eqb, ltb, leb}
use lib.ListN.{length}
use borrow.Author.Tests.{ltb-true, ltb-false, le-ltb}
use Rattle.format.specs.Slots.{byte}
use Rattle.blocks.specs.Cutting.{cut, enter, cut_from}
use Rattle.blocks.specs.declared.Cut.{Cut}

pub record Counted : Type 0 where
  pub at : ℕ
  pub blocks : ℕ
  pub full : Bool

abbrev pub counted : ℕ → ℕ → Bool → Counted
counted at n f = record { at = at; blocks = n; full = f }

abbrev pub entered : Bool → ℕ → ℕ → Counted → Counted
entered true lead x c = counted (c.at + 1 + lead + 4 * x) (c.blocks + 1) (c.full && not (eqb x 0))
entered false lead x c = counted c.at c.blocks c.full

abbrev pub past_counted : ℕ → List ℕ → Counted → Counted
past_counted lead p c = entered (ltb c.at (length p)) lead (byte p c.at) c

abbrev pub count_from : ℕ → ℕ → List ℕ → Counted → Counted
count_from zero lead p c = c
count_from (suc n) lead p c = count_from n lead p (past_counted lead p c)

abbrev pub count_of : ℕ → ℕ → List ℕ → Counted
count_of n lead p = count_from n lead p (counted lead 0 true)

-- 8: the cut ends there, and its blocks are as many as there may be
abbrev pub fills : Counted → ℕ → ℕ → ℕ → Bool
fills c end least most = eqb c.at end && (leb least c.blocks && leb c.blocks most)

-- the count left out
abbrev pub shown : Counted → Cut
shown c = cut c.at c.full

pub less_or_not : (m n : ℕ) → (m < n) ⊎ (n ≤ m)
less_or_not m n = go (ltb m n) refl
  where
    go : (t : Bool) → ltb m n ≡ t → (m < n) ⊎ (n ≤ m)
    go true e = inl (ltb-true m n e)
    go false e = inr (ltb-false m n e)

module _ (lead : ℕ) (b : List ℕ) where
  step_shown : (t : Bool) (c : Counted) → enter t lead (byte b c.at) (shown c) ≡ shown (entered t lead (byte b c.at) c)
  step_shown true c = refl
  step_shown false c = refl

  pub all_shown : (n : ℕ) (c : Counted) → cut_from n lead b (shown c) ≡ shown (count_from n lead b c)
  all_shown zero c = refl
  all_shown (suc n) c =
      ap (cut_from n lead b) (step_shown (ltb c.at (length b)) c) ∙ all_shown n (past_counted lead b c)

  -- past the end nothing moves
  pub stuck : (n at k : ℕ) (f : Bool) → length b ≤ at → count_from n lead b (counted at k f) ≡ counted at k f
  stuck zero at k f h = refl
  stuck (suc n) at k f h = rw (le-ltb at (length b) h) (stuck n at k f h)

  -- what n steps do to the count and to the place
  pub record Grown (n : ℕ) (c d : Counted) : Type 0 where
    pub more : c.blocks ≤ d.blocks
    pub most : d.blocks ≤ c.blocks + n
    pub onward : c.at + d.blocks ≤ d.at + c.blocks
    pub still : d.blocks ≡ c.blocks → d.at ≡ c.at

  pub grown : (n : ℕ) (c : Counted) → Grown n c (count_from n lead b c)
  grown zero c = record { more = omega arith; most = omega arith; onward = omega arith; still = λ e. refl }
  grown (suc n) c = go (ltb c.at (length b)) (λ d. grown n d)
    where
      go :
          (t : Bool)
          → ((d : Counted) → Grown n d (count_from n lead b d))
          → Grown (suc n) c (count_from n lead b (entered t lead (byte b c.at) c))
      go true rec =
          let g = rec (entered true lead (byte b c.at) c) in
          record {
            more = omega (arith, g.more);
            most = omega (arith, g.most);
            onward = omega (arith, g.onward);
            still = λ e. absurd (omega (arith, e, g.more));
          }
      go false rec =
          let g = rec c in
          record { more = g.more; most = omega (arith, g.most); onward = g.onward; still = g.still }

  -- the last of so many steps
  pub last_step : (n : ℕ) (c : Counted) → count_from (suc n) lead b c ≡ past_counted lead b (count_from n lead b c)
  last_step zero c = refl
  last_step (suc n) c = last_step n (past_counted lead b c)

  -- where a place before the end is left, every step passed a block
  pub each_passed : (n : ℕ) (c : Counted) → (count_from n lead b c).at < length b → (count_from n lead b c).blocks ≡ c.blocks + n
  each_passed zero c h = omega arith
  each_passed (suc n) c h = go (ltb c.at (length b)) refl h (λ d k. each_passed n d k)
    where
      go :
          (t : Bool)
          → ltb c.at (length b) ≡ t
          → (count_from n lead b (entered t lead (byte b c.at) c)).at < length b
          → ((d : Counted) → (count_from n lead b d).at < length b → (count_from n lead b d).blocks ≡ d.blocks + n)
          → (count_from n lead b (entered t lead (byte b c.at) c)).blocks ≡ c.blocks + suc n
      go true e h rec = omega (arith, rec (entered true lead (byte b c.at) c) h)
      go false e h rec =
          let l = ltb-false c.at (length b) e in
          absurd (omega (arith, h, l, ap (λ (d : Counted). d.at) (stuck n c.at c.blocks c.full l)))
