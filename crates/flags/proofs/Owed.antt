-- What the search over the flags found: nothing is owed, or one number is.
-- Assumes nothing.
use Prim.Native.Nat.{ℕ, zero, suc, ◌+◌, ◌<◌}
use native.Mathlib.Omega.{arith}
use mathlib.Core.Path.{◌≡◌, refl, sym}
use mathlib.Core.Bool.{Bool, true, false, ◌&&◌, ◌||◌, not, false≢true}
use mathlib.Core.List.{List}
use lib.ListN.{get_or}
use lib.Dec.{eqb}
use borrow.Author.Tests.{eqb-true, eqb-false}
use Rattle.flags.specs.Marks.{lacks_to}

-- what the search over the flags found
or-false : (a b : Bool) → a || b ≡ false → (a ≡ false) × (b ≡ false)
or-false true b h = absurd (false≢true (sym h))
or-false false b h = (refl, h)

owed : (a b : Bool) → a && not b ≡ false → a ≡ true → b ≡ true
owed true true h e = refl
owed true false h e = absurd (false≢true (sym h))
owed false b h e = absurd (false≢true e)

pub none_owed : (n : ℕ) (u s : List Bool) → lacks_to n u s ≡ false → (i : ℕ) → i < n → get_or u i false ≡ true → get_or s i false ≡ true
none_owed zero u s h i l e = absurd (omega arith)
none_owed (suc n) u s h i l e =
    let o = or-false (lacks_to n u s) _ h in
    go (eqb i n) refl (λ g. none_owed n u s o.0 i g e) (owed (get_or u n false) (get_or s n false) o.1)
  where
    go :
        (t : Bool)
        → eqb i n ≡ t
        → (i < n → get_or s i false ≡ true)
        → (get_or u n false ≡ true → get_or s n false ≡ true)
        → get_or s i false ≡ true
    go true q f g = let p = eqb-true i n q in rw p (g (rw p at e))
    go false q f g = f (omega (arith, eqb-false i n q))

pub one_owed :
    (n : ℕ) (u s : List Bool) → lacks_to n u s ≡ true → (i : ℕ) × (i < n) × (get_or u i false ≡ true) × (get_or s i false ≡ false)
one_owed zero u s h = absurd (false≢true h)
one_owed (suc n) u s h = go (lacks_to n u s) refl (get_or u n false) refl (get_or s n false) refl h (λ k. one_owed n u s k)
  where
    go :
        (t : Bool)
        → lacks_to n u s ≡ t
        → (a : Bool)
        → get_or u n false ≡ a
        → (b : Bool)
        → get_or s n false ≡ b
        → t || (a && not b) ≡ true
        → (lacks_to n u s ≡ true → (i : ℕ) × (i < n) × (get_or u i false ≡ true) × (get_or s i false ≡ false))
        → (i : ℕ) × (i < suc n) × (get_or u i false ≡ true) × (get_or s i false ≡ false)
    go true p a q b r k f = let w = f p in (w.0, omega (arith, w.1), w.2, w.3)
    go false p true q false r k f = (n, omega arith, q, r)
    go false p true q true r k f = absurd (false≢true k)
    go false p false q b r k f = absurd (false≢true k)
