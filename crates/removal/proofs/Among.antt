-- Numbers among numbers: the tests `among`, `all_among` and `none_among` as statements.
-- Assumes nothing.
use Prim.Native.Nat.{ℕ}
use mathlib.Core.Path.{◌≡◌, refl, sym, ◌∙◌}
use mathlib.Core.Bool.{Bool, true, false, ◌&&◌, ◌||◌, not, false≢true}
use mathlib.Core.List.{List, [], ◌∷◌, ◌++◌}
use mathlib.Core.Logic.{◌↔◌, ◌⊎◌, inl, inr, ⊎_elim}
use lib.Dec.{eqb}
use borrow.Author.Tests.{eqb-true, eq-eqb, not-true}
use Rattle.format.specs.Pins.{among}
use Rattle.format.specs.ZonesAndStrings.{all_among, none_among}
use Rattle.format.proofs.Kept.{and-true}
use Rattle.removal.specs.Parts.{Part, done, keep, leave}

-- one of them; each of the first one of the second; none of the first one of the second
abbrev pub In : ℕ → List ℕ → Type 0
In x xs = among x xs ≡ true

abbrev pub Within : List ℕ → List ℕ → Type 0
Within xs ys = (x : ℕ) → In x xs → In x ys

abbrev pub Apart : List ℕ → List ℕ → Type 0
Apart xs ys = (x : ℕ) → In x xs → In x ys → ⊥

pub or_cases : (a b : Bool) → a || b ≡ true → (a ≡ true) ⊎ (b ≡ true)
or_cases true b h = inl h
or_cases false b h = inr h

pub or_right : (a b : Bool) → b ≡ true → a || b ≡ true
or_right true b h = refl
or_right false b h = h

or_map : (a : Bool) {b c : Bool} → (b ≡ true → c ≡ true) → a || b ≡ true → a || c ≡ true
or_map true f h = refl
or_map false f h = f h

pub not_so : (t : Bool) → (t ≡ true → ⊥) → t ≡ false
not_so true n = absurd (n refl)
not_so false n = refl

pub in_here : (x : ℕ) (xs : List ℕ) → In x (x ∷ xs)
in_here x xs = rw (eq-eqb x x refl)

pub in_one : (x y : ℕ) → In x (y ∷ []) → x ≡ y
in_one x y h = ⊎_elim (eqb-true x y) (λ e. absurd (false≢true e)) (or_cases (eqb x y) false h)

-- of two lists end to end
pub in_left : (x : ℕ) (xs ys : List ℕ) → In x xs → In x (xs ++ ys)
in_left x [] ys h = absurd (false≢true h)
in_left x (y ∷ xs) ys h = or_map (eqb x y) (in_left x xs ys) h

pub in_right : (x : ℕ) (xs ys : List ℕ) → In x ys → In x (xs ++ ys)
in_right x [] ys h = h
in_right x (y ∷ xs) ys h = or_right (eqb x y) _ (in_right x xs ys h)

pub in_cases : (x : ℕ) (xs ys : List ℕ) → In x (xs ++ ys) → In x xs ⊎ In x ys
in_cases x [] ys h = inr h
in_cases x (y ∷ xs) ys h = split (eqb x y) (in_cases x xs ys) h
  where
    split : (t : Bool) {u v : Bool} {Y : Type 0} → (u ≡ true → (v ≡ true) ⊎ Y) → t || u ≡ true → (t || v ≡ true) ⊎ Y
    split true f h = inl refl
    split false f h = f h

pub within_right : (xs ys zs : List ℕ) → Within ys zs → Within (xs ++ ys) (xs ++ zs)
within_right xs ys zs w x i = ⊎_elim (in_left x xs zs) (λ j. in_right x xs zs (w x j)) (in_cases x xs ys i)

-- of a part
pub part_within : {xs ys : List ℕ} → Part ℕ xs ys → Within xs ys
part_within done x i = i
part_within (keep {x = y} p) x i = or_map (eqb x y) (part_within p x) i
part_within (leave {y = y} p) x i = or_right (eqb x y) _ (part_within p x i)

-- the tests
pub all_within : (xs ys : List ℕ) → all_among xs ys ≡ true → Within xs ys
all_within [] ys h x i = absurd (false≢true i)
all_within (z ∷ xs) ys h x i =
    let p = and-true (among z ys) (all_among xs ys) h in
    ⊎_elim (λ e. rw (eqb-true x z e) p.0) (all_within xs ys p.1 x) (or_cases (eqb x z) (among x xs) i)

pub within_all : (xs ys : List ℕ) → Within xs ys → all_among xs ys ≡ true
within_all [] ys f = refl
within_all (z ∷ xs) ys f = simp (f z (in_here z xs), within_all xs ys (λ x i. f x (or_right (eqb x z) _ i)))

none_apart : (xs ys : List ℕ) → none_among xs ys ≡ true → Apart xs ys
none_apart [] ys h x i j = false≢true i
none_apart (z ∷ xs) ys h x i j =
    let p = and-true (not (among z ys)) (none_among xs ys) h in
    ⊎_elim
    (λ e. false≢true (sym (not-true (among z ys) p.0) ∙ rw (eqb-true x z e) at j))
    (λ e. none_apart xs ys p.1 x e j)
    (or_cases (eqb x z) (among x xs) i)

apart_none : (xs ys : List ℕ) → Apart xs ys → none_among xs ys ≡ true
apart_none [] ys f = refl
apart_none (z ∷ xs) ys f =
    simp (not_so (among z ys) (f z (in_here z xs)), apart_none xs ys (λ x i. f x (or_right (eqb x z) _ i)))

pub both_apart : (xs ys vs ws : List ℕ) → (none_among xs ys && none_among vs ws ≡ true) ↔ (Apart xs ys × Apart vs ws)
both_apart xs ys vs ws = (
  λ h. let a = and-true (none_among xs ys) (none_among vs ws) h in (none_apart xs ys a.0, none_apart vs ws a.1),
  λ a. simp (apart_none xs ys a.0, apart_none vs ws a.1),
)

-- one number
pub one_apart : (x : ℕ) (ys : List ℕ) → (among x ys ≡ false) ↔ Apart (x ∷ []) ys
one_apart x ys = (
  λ h y i j. false≢true (sym h ∙ rw (in_one y x i) at j),
  λ f. not_so (among x ys) (f x (in_here x [])),
)
