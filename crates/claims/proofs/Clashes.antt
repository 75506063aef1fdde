-- A claim clashes with earlier ones where its pin is among those claimed alone or, if it is alone itself, among any.
-- Assumes nothing.
use Prim.Native.Nat.{ℕ}
use mathlib.Core.Path.{◌≡◌, refl, sym}
use mathlib.Core.Bool.{Bool, true, false, ◌&&◌, ◌||◌, not, and-false}
use mathlib.Core.List.{List, [], ◌∷◌, ◌++◌}
use lib.Dec.{eqb}
use borrow.Author.Tests.{not-true}
use Rattle.format.specs.Pins.{among}
use Rattle.format.specs.Claims.{Manner, shared, select, alone, Claim, together, clashes}
use Rattle.pinsets.proofs.Table.{and_left, and_right}
use Rattle.claims.specs.Taken.{is_alone, add_if, alone_pins, joint_pins, pins_of, proper}
use Rattle.claims.proofs.Tests.{taut2, taut3}
use Rattle.claims.proofs.Sets.{at_pair, among_append, apart}

-- the parts of `proper`
pub first_pin : (c : Claim) (cs : List Claim) → proper (c ∷ cs) ≡ true → among c.pin (pins_of c.manner) ≡ true
first_pin c cs h = and_left _ (proper cs) h

pub rest : (c : Claim) (cs : List Claim) → proper (c ∷ cs) ≡ true → proper cs ≡ true
rest c cs h = and_right (among c.pin (pins_of c.manner)) _ h

-- shared pins and chip selects are apart, so that only a claim alone clashes
only_alone : (m n : Manner) (p q : ℕ) → among p (pins_of m) ≡ true → among q (pins_of n) ≡ true
    → eqb p q && not (together m n) ≡ eqb p q && (is_alone m || is_alone n)
only_alone shared shared p q h k = refl
only_alone shared select p q h k = rw (not-true (eqb p q) (at_pair (pins_of shared) (pins_of select) (λ p q. not (eqb p q)) refl p q h k))
    refl
only_alone shared alone p q h k = refl
only_alone select shared p q h k = rw (not-true (eqb p q) (at_pair (pins_of select) (pins_of shared) (λ p q. not (eqb p q)) refl p q h k))
    refl
only_alone select select p q h k = refl
only_alone select alone p q h k = refl
only_alone alone shared p q h k = refl
only_alone alone select p q h k = refl
only_alone alone alone p q h k = refl

-- one earlier claim more
one_more : (m n : Bool) (p q : ℕ) (xs ys : List ℕ)
    → eqb p q && (m || n) || (among p xs || m && among p ys) ≡ among p (add_if n q xs) || m && among p (add_if (not n) q ys)
one_more true true p q xs ys = taut3 (λ e x y. e && true || (x || y)) (λ e x y. e || x || y) refl (eqb p q) (among p xs) (among p ys)
one_more true false p q xs ys = taut3 (λ e x y. e && true || (x || y)) (λ e x y. x || (e || y)) refl (eqb p q) (among p xs) (among p ys)
one_more false true p q xs ys = taut3 (λ e x y. e && true || (x || false)) (λ e x y. e || x || false) refl (eqb p q) (among p xs)
    (among p ys)
one_more false false p q xs ys = taut3 (λ e x y. e && false || (x || false)) (λ e x y. x || false) refl (eqb p q) (among p xs) (among p ys)

pub clash_is : (c : Claim) (e : List Claim) → among c.pin (pins_of c.manner) ≡ true → proper e ≡ true
    → clashes c e ≡ among c.pin (alone_pins e) || is_alone c.manner && among c.pin (joint_pins e)
clash_is c [] h k = sym (and-false (is_alone c.manner))
clash_is c (a ∷ e) h k =
    rw
    (only_alone c.manner a.manner c.pin a.pin h (first_pin a e k), clash_is c e h (rest a e k))
    (one_more (is_alone c.manner) (is_alone a.manner) c.pin a.pin (alone_pins e) (joint_pins e))

-- whether any of a list clashes: none does where their sets are apart
abbrev pub any_clash : List Claim → List Claim → Bool
any_clash [] e = false
any_clash (c ∷ cs) e = clashes c e || any_clash cs e

one_any : (m : Bool) (p : ℕ) (al jo xs ys : List ℕ)
    → not (among p xs || m && among p ys) && (apart jo xs && apart al (xs ++ ys))
    ≡ apart (add_if (not m) p jo) xs && apart (add_if m p al) (xs ++ ys)
one_any true p al jo xs ys =
    rw
    (among_append p xs ys)
    (taut3 (λ x j l. not x && (j && l)) (λ x j l. j && (not x && l)) refl (among p xs || among p ys) (apart jo xs) (apart al (xs ++ ys)))
one_any false p al jo xs ys =
    taut3 (λ x j l. not (x || false) && (j && l)) (λ x j l. not x && j && l) refl (among p xs) (apart jo xs) (apart al (xs ++ ys))

pub none_is : (cs e : List Claim) → proper cs ≡ true → proper e ≡ true
    → not (any_clash cs e) ≡ apart (joint_pins cs) (alone_pins e) && apart (alone_pins cs) (alone_pins e ++ joint_pins e)
none_is [] e h k = refl
none_is (c ∷ cs) e h k =
    rw (
      taut2 (λ x y. not (x || y)) (λ x y. not x && not y) refl (clashes c e) (any_clash cs e),
      clash_is c e (first_pin c cs h) k,
      none_is cs e (rest c cs h) k,
    )
    (one_any (is_alone c.manner) c.pin (alone_pins cs) (joint_pins cs) (alone_pins e) (joint_pins e))
