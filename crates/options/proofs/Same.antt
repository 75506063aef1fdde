-- A law of comparing words: the test tells equal words, by cases of the two.
-- Assumes nothing.
use Prim.Native.Nat.{ℕ}
use mathlib.Core.Path.{◌≡◌, refl}
use mathlib.Core.Bool.{Bool, true, false, ◌&&◌, false≢true}
use mathlib.Core.List.{List, [], ◌∷◌}
use lib.Dec.{eqb}
use borrow.Author.Tests.{eqb-true, eq-eqb}
use Rattle.options.specs.Words.{same_word}

-- the test tells equal words
pub same_words : (a b : List ℕ) → same_word a b ≡ true → a ≡ b
same_words [] [] h = refl
same_words [] (y ∷ ys) h = absurd (false≢true h)
same_words (x ∷ xs) [] h = absurd (false≢true h)
same_words (x ∷ xs) (y ∷ ys) h = go (eqb x y) refl h (same_words xs ys)
  where
    go : (s : Bool) → eqb x y ≡ s → s && same_word xs ys ≡ true → (same_word xs ys ≡ true → xs ≡ ys) → x ∷ xs ≡ y ∷ ys
    go true p k f = let u = eqb-true x y p in let v = f k in cc
    go false p k f = absurd (false≢true k)

pub same_self : (a : List ℕ) → same_word a a ≡ true
same_self [] = refl
same_self (x ∷ xs) = rw (eq-eqb x x refl) (same_self xs)
