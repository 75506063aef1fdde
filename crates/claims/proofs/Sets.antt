-- Laws of sets of pins: union, one pin, and that two sets have a bit in common where their lists have a pin in common.
-- What holds of each pin is a test over the list of them, computed.
-- Assumes nothing.
use Prim.Native.Nat.{ℕ, ◌^◌, ◌<◌}
use mathlib.Core.Path.{◌≡◌, refl, sym, ◌∙◌}
use mathlib.Core.Bool.{Bool, true, false, ◌&&◌, ◌||◌, not, false≢true, or-true, or_assoc}
use mathlib.Core.List.{List, [], ◌∷◌, ◌++◌}
use lib.Dec.{eqb, ltb}
use lib.ListN.{get_or}
use lib.Bits.{bit_and, bit_or, and_lt, or_lt}
use borrow.Author.Tests.{eqb-true, eq-eqb, ltb-true, not-true}
use Rattle.format.specs.Pins.{among, every}
use Rattle.pinsets.specs.Sets.{pin_index, pin_bit, has_bit}
use Rattle.pinsets.proofs.Table.{same, same→eq, and_left, and_right, at_below}
use Rattle.claims.specs.Taken.{IsSet}
use Rattle.claims.proofs.Tests.{one_test, fails, both}
use Rattle.claims.proofs.Bits.{bit_and_lem, bit_or_lem, bit_none, no_bits}

-- a test passes at each pin of a list
abbrev pub all_of : List ℕ → (ℕ → Bool) → Bool
all_of [] f = true
all_of (x ∷ xs) f = f x && all_of xs f

at_head : (p x : ℕ) (xs : List ℕ) (f : ℕ → Bool) (t : Bool)
    → eqb p x ≡ t
    → f x ≡ true
    → t || among p xs ≡ true
    → (among p xs ≡ true → f p ≡ true)
    → f p ≡ true
at_head p x xs f true e h m k = rw (eqb-true p x e) h
at_head p x xs f false e h m k = k m

pub at_among : (xs : List ℕ) (f : ℕ → Bool) → all_of xs f ≡ true → (p : ℕ) → among p xs ≡ true → f p ≡ true
at_among [] f h p m = absurd (false≢true m)
at_among (x ∷ xs) f h p m =
    at_head p x xs f (eqb p x) refl (and_left (f x) (all_of xs f) h) m (λ k. at_among xs f (and_right (f x) (all_of xs f) h) p k)

pub at_pair : (xs ys : List ℕ) (f : ℕ → ℕ → Bool) → all_of xs (λ p. all_of ys (f p)) ≡ true
    → (p q : ℕ) → among p xs ≡ true → among q ys ≡ true → f p q ≡ true
at_pair xs ys f t p q h k = at_among ys (f p) (at_among xs (λ p. all_of ys (f p)) t p h) q k

-- all are pins
abbrev pub within : List ℕ → Bool
within xs = all_of xs (λ p. among p every)

pub within_append : (xs ys : List ℕ) → within xs ≡ true → within ys ≡ true → within (xs ++ ys) ≡ true
within_append [] ys h k = k
within_append (x ∷ xs) ys h k =
    both
    (among x every)
    (within (xs ++ ys))
    (and_left (among x every) (within xs) h)
    (within_append xs ys (and_right (among x every) (within xs) h) k)

pub among_append : (p : ℕ) (xs ys : List ℕ) → among p (xs ++ ys) ≡ among p xs || among p ys
among_append p [] ys = refl
among_append p (x ∷ xs) ys = rw (among_append p xs ys) (sym (or_assoc (eqb p x) (among p xs) (among p ys)))

-- a set by a test, of one pin, and of two lists
pub by_test : (w : ℕ) (ps : List ℕ)
    → ltb w (2 ^ 25) ≡ true
    → all_of every (λ p. same (has_bit w (pin_index p)) (among p ps)) ≡ true
    → IsSet w ps
by_test w ps h t = record {
  small = ltb-true _ _ h;
  bits = λ p k. same→eq _ _ (at_among every (λ p. same (has_bit w (pin_index p)) (among p ps)) t p k);
}

pub empty : IsSet 0 []
unfolding pin_index has_bit
empty = by_test 0 [] refl refl

pub one_pin : (p : ℕ) → among p every ≡ true → IsSet (pin_bit p) (p ∷ [])
unfolding pin_bit pin_index has_bit
one_pin p h = record {
  small = ltb-true _ _ (at_among every (λ p. ltb (pin_bit p) (2 ^ 25)) refl p h);
  bits = λ q k. same→eq _ _ (at_pair every every (λ p q. same (has_bit (pin_bit p) (pin_index q)) (among q (p ∷ []))) refl p q h k);
}

pub union : {a b : ℕ} {xs ys : List ℕ} → IsSet a xs → IsSet b ys → IsSet (bit_or a b) (xs ++ ys)
union {a} {b} {xs} {ys} s t = record {
  small = or_lt 25 a b s.small t.small;
  bits = λ p h. rw (bit_or_lem a b (pin_index p), s.bits p h, t.bits p h) (sym (among_append p xs ys));
}

-- no pin in common
abbrev pub apart : List ℕ → List ℕ → Bool
apart xs ys = all_of xs (λ x. not (among x ys))

all_apart : (xs ys : List ℕ) → ((p : ℕ) → among p xs ≡ true → among p ys ≡ false) → apart xs ys ≡ true
all_apart [] ys f = refl
all_apart (x ∷ xs) ys f =
    rw (f x (rw (eq-eqb x x refl))) (all_apart xs ys (λ p h. f p (rw h (or-true (eqb p x)))))

-- each place of the 25 is a pin's
abbrev pin_at : ℕ → ℕ
pin_at i = get_or every i 0

pin_there : (i : ℕ) → i < 25 → among (pin_at i) every ≡ true
pin_there i h = at_below 25 (λ i. among (pin_at i) every) refl i h

place_back : (i : ℕ) → i < 25 → pin_index (pin_at i) ≡ i
unfolding pin_index
place_back i h = eqb-true _ _ (at_below 25 (λ i. eqb (pin_index (pin_at i)) i) refl i h)

module _ {a b : ℕ} {xs ys : List ℕ} (s : IsSet a xs) (t : IsSet b ys) where
  common_bit : (p : ℕ) → among p every ≡ true → has_bit (bit_and a b) (pin_index p) ≡ among p xs && among p ys
  common_bit p h = rw (bit_and_lem a b (pin_index p), s.bits p h, t.bits p h) refl

  none_common : apart xs ys ≡ true → bit_and a b ≡ 0
  none_common m =
      no_bits 25 (bit_and a b) (and_lt 25 a b s.small t.small)
      (λ i h.
      let p = pin_at i in
      let e : among p xs && among p ys ≡ false =
      fails (among p xs && among p ys) (λ w.
      let n = at_among xs (λ x. not (among x ys)) m p (and_left (among p xs) (among p ys) w) in
      false≢true (sym (not-true (among p ys) n) ∙ and_right (among p xs) (among p ys) w)) in
      rw (place_back i h) at (common_bit p (pin_there i h) ∙ e))

  apart_lists : within xs ≡ true → bit_and a b ≡ 0 → apart xs ys ≡ true
  apart_lists f z =
      all_apart xs ys (λ p h.
      let e : has_bit (bit_and a b) (pin_index p) ≡ false = rw z (bit_none (pin_index p)) in
      rw h at (sym (common_bit p (at_among xs (λ p. among p every) f p h)) ∙ e))

  pub disjoint : within xs ≡ true → eqb (bit_and a b) 0 ≡ apart xs ys
  disjoint f =
      one_test
      (eqb (bit_and a b) 0)
      (apart xs ys)
      (λ h. apart_lists f (eqb-true _ _ h))
      (λ h. eq-eqb _ _ (none_common h))
