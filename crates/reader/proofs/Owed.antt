-- 13 and 14 by flags: an element names an undeclared number exactly where some number is named and not declared.
-- Assumes nothing.
use Prim.Native.Nat.{ℕ, ◌+◌}
use mathlib.Core.Path.{◌≡◌, refl, sym, ◌∙◌}
use mathlib.Core.Bool.{Bool, true, false, ◌&&◌, ◌||◌, false≢true}
use mathlib.Core.List.{List, [], ◌∷◌, ◌++◌}
use mathlib.Core.Option.{none, some}
use lib.ListN.{length}
use lib.Dec.{eqb}
use borrow.Author.Tests.{eqb-true, eqb-false}
use Rattle.format.specs.Records.{Record}
use Rattle.format.specs.Layout.{layout}
use Rattle.format.specs.Pins.{among}
use Rattle.format.specs.ZonesAndStrings.{Role, role, gathered, all_among, first_naming}
use Rattle.flags.specs.Marks.{Marks, Lacks}

-- lists
among_left : (i : ℕ) (xs ys : List ℕ) → among i xs ≡ true → among i (xs ++ ys) ≡ true
among_left i [] ys h = absurd (false≢true h)
among_left i (x ∷ xs) ys h = go (eqb i x) h (λ k. among_left i xs ys k)
  where
    go : (t : Bool) → t || among i xs ≡ true → (among i xs ≡ true → among i (xs ++ ys) ≡ true) → t || among i (xs ++ ys) ≡ true
    go true k f = refl
    go false k f = f k

among_right : (i : ℕ) (xs ys : List ℕ) → among i ys ≡ true → among i (xs ++ ys) ≡ true
among_right i [] ys h = h
among_right i (x ∷ xs) ys h = go (eqb i x) (among_right i xs ys h)
  where
    go : (t : Bool) → among i (xs ++ ys) ≡ true → t || among i (xs ++ ys) ≡ true
    go true r = refl
    go false r = r

among_split : (i : ℕ) (xs ys : List ℕ) → among i (xs ++ ys) ≡ true → among i xs ≡ false → among i ys ≡ true
among_split i [] ys h e = h
among_split i (x ∷ xs) ys h e = go (eqb i x) h e (λ k l. among_split i xs ys k l)
  where
    go :
        (t : Bool)
        → t || among i (xs ++ ys) ≡ true
        → t || among i xs ≡ false
        → (among i (xs ++ ys) ≡ true → among i xs ≡ false → among i ys ≡ true)
        → among i ys ≡ true
    go true k l f = absurd (false≢true (sym l))
    go false k l f = f k l

all_among_lem : (xs ns : List ℕ) → ((i : ℕ) → among i xs ≡ true → among i ns ≡ true) → all_among xs ns ≡ true
all_among_lem [] ns f = refl
all_among_lem (x ∷ xs) ns f =
    rw (f x (first x xs)) (all_among_lem xs ns (λ i h. f i (among_right i (x ∷ []) xs h)))
  where
    first : (x : ℕ) (xs : List ℕ) → among x (x ∷ xs) ≡ true
    first x xs = among_left x (x ∷ []) xs (go (eqb x x) refl)
      where
        go : (t : Bool) → eqb x x ≡ t → t || false ≡ true
        go true e = refl
        go false e = absurd (eqb-false x x e refl)

not_all : (i : ℕ) (xs ns : List ℕ) → among i xs ≡ true → among i ns ≡ false → all_among xs ns ≡ false
not_all i [] ns h e = absurd (false≢true h)
not_all i (x ∷ xs) ns h e = go (eqb i x) refl h (among x ns) refl (λ k. not_all i xs ns k e)
  where
    go :
        (t : Bool)
        → eqb i x ≡ t
        → t || among i xs ≡ true
        → (u : Bool)
        → among x ns ≡ u
        → (among i xs ≡ true → all_among xs ns ≡ false)
        → u && all_among xs ns ≡ false
    go t q k false r f = refl
    go true q k true r f = absurd (false≢true (sym e ∙ rw (← eqb-true i x q) at r))
    go false q k true r f = f k

module _ (names : Role → List ℕ) (declared : List ℕ) where
  -- no element names one
  pub none_named :
      (rs : List Record) (p : ℕ)
      → ((i : ℕ) → among i (gathered names rs) ≡ true → among i declared ≡ true)
      → first_naming names declared p rs ≡ none
  none_named [] p f = refl
  none_named (r ∷ rs) p f =
      rw (all_among_lem (names (role r)) declared (λ i h. f i (among_left i (names (role r)) (gathered names rs) h)))
      (none_named rs (p + length (layout r)) (λ i h. f i (among_right i (names (role r)) (gathered names rs) h)))

  -- some element names one
  pub one_named :
      (rs : List Record) (p i : ℕ)
      → among i (gathered names rs) ≡ true
      → among i declared ≡ false
      → (q : ℕ) × (first_naming names declared p rs ≡ some q)
  one_named [] p i h e = absurd (false≢true h)
  one_named (r ∷ rs) p i h e =
      go (among i (names (role r))) refl (all_among (names (role r)) declared) refl (λ k. one_named rs (p + length (layout r)) i k e)
    where
      go :
          (t : Bool)
          → among i (names (role r)) ≡ t
          → (u : Bool)
          → all_among (names (role r)) declared ≡ u
          → (among i (gathered names rs) ≡ true → (q : ℕ) × (first_naming names declared (p + length (layout r)) rs ≡ some q))
          → (q : ℕ) × (first_naming names declared p (r ∷ rs) ≡ some q)
      go t a false v f = (p, rw v refl)
      go true a true v f = absurd (false≢true (sym (not_all i (names (role r)) declared a e) ∙ v))
      go false a true v f =
          let w = f (among_split i (names (role r)) (gathered names rs) h a) in
          (w.0, rw v w.1)

-- what the search over the flags says of the lists
module _ (u s : List Bool) (named declared : List ℕ) (a : Marks u named) (b : Marks s declared) (t : Bool) (l : Lacks u s t) where
  pub all_declared : t ≡ false → (i : ℕ) → among i named ≡ true → among i declared ≡ true
  all_declared e i h =
      let k = a.low i h in
      sym (b.flag i k) ∙ l.none e i k (a.flag i k ∙ h)

  pub one_undeclared : t ≡ true → (i : ℕ) × (among i named ≡ true) × (among i declared ≡ false)
  one_undeclared e =
      let w = l.one e in
      (w.0, sym (a.flag w.0 w.1) ∙ w.2, sym (b.flag w.0 w.1) ∙ w.3)
