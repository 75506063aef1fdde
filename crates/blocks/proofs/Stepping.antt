-- The code's step is the step of the definition: nothing but a block with no pair moves by its least.
-- Assumes nothing.
use Prim.Native.Nat.{ℕ, zero, suc, ◌+◌, ◌-◌, ◌*◌, ◌<◌, ◌≤◌}
use native.Mathlib.Omega.{arith}
use mathlib.Core.Path.{◌≡◌, refl, ◌∙◌, ap}
use mathlib.Core.Bool.{Bool, true, false, ◌&&◌, not, and-true}
use mathlib.Core.List.{List}
use lib.Dec.{eqb}
use lib.ListN.{length}
use borrow.Author.Tests.{eqb-true, eqb-false, eq-eqb, ne_eqb, le-ltb}
use Rattle.format.specs.Slots.{byte}
use Rattle.blocks.specs.Cutting.{cut, enter, past_block, cut_from}
use Rattle.blocks.specs.declared.Cut.{Cut}

module _ (t : Bool) (lead : ℕ) (c : Cut) (next : ℕ) where
  -- what is made of the place that the next ENTRIES byte would have
  abbrev pub Made : ℕ → Type 0
  Made x =
      (cut next (c.full && not (eqb next (c.at + 1 + lead))) ≡ enter t lead x c)
      × (next ≤ c.at + 1022)

  pub past : (k x : ℕ) → lead ≤ 1 → t ≡ true → k ≡ x → k < 256 → next ≡ c.at + 1 + lead + 4 * k → Made x
  past k x l e q h n =
      let z : eqb next (c.at + 1 + lead) ≡ eqb x 0 = go (eqb x 0) refl in
      rw e (rw z (λ i. cut ((n ∙ ap (λ (k : ℕ). c.at + 1 + lead + 4 * k) q) i) (c.full && not (eqb x 0))), omega arith)
    where
      go : (u : Bool) → eqb x 0 ≡ u → eqb next (c.at + 1 + lead) ≡ u
      go true p = eq-eqb next (c.at + 1 + lead) (omega (arith, eqb-true x 0 p))
      go false p = ne_eqb next (c.at + 1 + lead) (λ g. eqb-false x 0 p (omega (arith, g)))

  pub still : (x : ℕ) → t ≡ false → next ≡ c.at → Made x
  still x e n =
      let z : eqb next (c.at + 1 + lead) ≡ false = ne_eqb next (c.at + 1 + lead) (λ g. omega (arith, g)) in
      rw e (rw z (λ i. cut (n i) (and-true c.full i)), omega arith)

module _ (lead : ℕ) (p : List ℕ) where
  -- where no ENTRIES byte is there, any byte may be looked at
  pub looked : (t : Bool) (i : ℕ) (c : Cut) → (t ≡ true → i ≡ c.at) → enter t lead (byte p i) c ≡ enter t lead (byte p c.at) c
  looked true i c h = ap (λ (i : ℕ). enter true lead (byte p i) c) (h refl)
  looked false i c h = refl

  -- past the end nothing moves
  pub stays : (n at : ℕ) (f : Bool) → length p ≤ at → cut_from n lead p (cut at f) ≡ cut at f
  stays zero at f h = refl
  stays (suc n) at f h = rw (le-ltb at (length p) h) (stays n at f h)

  pub turn :
      (most n : ℕ) (c next : Cut)
      → n < most
      → next ≡ past_block lead p c
      → cut_from (most - n) lead p c ≡ cut_from (most - (n + 1)) lead p next
  turn most n c next h e =
      let d : most - n ≡ suc (most - (n + 1)) = omega arith in
      rw (d, e) refl
