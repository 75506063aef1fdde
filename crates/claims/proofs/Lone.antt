-- Claims of one element on pins of its own: they clash where a pin is named twice.
-- Assumes nothing.
use Prim.Native.Nat.{ℕ}
use mathlib.Core.Path.{◌≡◌, refl, sym, ◌∙◌}
use mathlib.Core.Bool.{Bool, true, false, ◌&&◌, ◌||◌, not, and-true}
use mathlib.Core.List.{List, [], ◌∷◌, ◌++◌}
use lib.Dec.{eqb}
use lib.Bits.{bit_and, bit_or, and_comm}
use Rattle.format.specs.Pins.{among, every}
use Rattle.format.specs.Claims.{alone, Claim, claim, clashes, own_used}
use Rattle.std.specs.Prelude.{Option}
use Rattle.format.specs.declared.pins.Pin.{Pin}
use Rattle.std.specs.Prelude.{None, Some}
use Rattle.pinsets.proofs.Table.{and_left, and_right}
use Rattle.claims.specs.Taken.{IsSet, alone_pins, joint_pins, proper, free, used_pin, ClaimsAre}
use Rattle.claims.proofs.Tests.{taut1, taut3}
use Rattle.claims.proofs.Bits.{or_zero_lem}
use Rattle.claims.proofs.Sets.{within, within_append, empty, union, apart, disjoint}

abbrev pub lone : List ℕ → List Claim
lone [] = []
lone (p ∷ ps) = claim alone p ∷ lone ps

lone_alone : (ps : List ℕ) → alone_pins (lone ps) ≡ ps
lone_alone [] = refl
lone_alone (p ∷ ps) = rw (lone_alone ps) refl

lone_joint : (ps : List ℕ) → joint_pins (lone ps) ≡ []
lone_joint [] = refl
lone_joint (p ∷ ps) = lone_joint ps

lone_proper : (ps : List ℕ) → within ps ≡ true → proper (lone ps) ≡ true
lone_proper [] k = refl
lone_proper (p ∷ ps) k =
    rw (and_left (among p every) (within ps) k) (lone_proper ps (and_right (among p every) (within ps) k))

lone_append : (xs ys : List ℕ) → lone (xs ++ ys) ≡ lone xs ++ lone ys
lone_append [] ys = refl
lone_append (x ∷ xs) ys = rw (lone_append xs ys) refl

-- no pin is named twice
abbrev pub distinct : List ℕ → List ℕ → Bool
distinct xs [] = true
distinct xs (p ∷ ps) = not (among p xs) && distinct (p ∷ xs) ps

lone_clashes : (p : ℕ) (ps : List ℕ) → clashes (claim alone p) (lone ps) ≡ among p ps
lone_clashes p [] = refl
lone_clashes p (q ∷ ps) = rw (and-true (eqb p q), lone_clashes p ps) refl

lone_none : (xs ps : List ℕ) → free (lone xs) (lone ps) ≡ distinct xs ps
lone_none xs [] = refl
lone_none xs (p ∷ ps) = rw (lone_clashes p xs, lone_none (p ∷ xs) ps) refl

pub claims_alone : (w t : ℕ) (ps : List ℕ) → IsSet w ps → within ps ≡ true → eqb t 0 ≡ distinct [] ps
    → ClaimsAre (record { alone = w; joint = 0; twice = t }) (lone ps)
claims_alone w t ps s k d = record {
  alone_set = rw (lone_alone ps) s;
  joint_set = rw (lone_joint ps) empty;
  among_themselves = d ∙ sym (lone_none [] ps);
  are_proper = lone_proper ps k;
}

-- a place that may be unused
pub lone_used : (p : Option Pin) → lone (used_pin p) ≡ own_used p
lone_used None = refl
lone_used (Some p) = refl

pub lone_three : (p q r : Option Pin) → lone (used_pin p ++ used_pin q ++ used_pin r) ≡ own_used p ++ own_used q ++ own_used r
lone_three p q r =
    rw (
      lone_append (used_pin p ++ used_pin q) (used_pin r),
      lone_append (used_pin p) (used_pin q),
      lone_used p,
      lone_used q,
      lone_used r,
    )
    refl

-- three of them: what two have in common is what is named twice
twice : (p q r : Option Pin)
    → apart (used_pin q) (used_pin p) && apart (used_pin r) (used_pin p) && apart (used_pin r) (used_pin q)
    ≡ distinct [] (used_pin p ++ used_pin q ++ used_pin r)
twice None None None = refl
twice None None (Some r) = refl
twice None (Some q) None = refl
twice None (Some q) (Some r) = refl
twice (Some p) None None = refl
twice (Some p) None (Some r) = and-true (not (eqb r.0 p.0 || false) && true)
twice (Some p) (Some q) None = taut1 (λ a. a && true && true) (λ a. a) refl (not (eqb q.0 p.0 || false) && true)
twice (Some p) (Some q) (Some r) =
    taut3
    (λ a b c. not (a || false) && true && (not (b || false) && true) && (not (c || false) && true))
    (λ a b c. not (a || false) && (not (c || (b || false)) && true))
    refl
    (eqb q.0 p.0)
    (eqb r.0 p.0)
    (eqb r.0 q.0)

module _ {a b c : ℕ} (p q r : Option Pin) (sa : IsSet a (used_pin p)) (sb : IsSet b (used_pin q)) (sc : IsSet c (used_pin r)) where
  abbrev common : ℕ
  common = bit_or (bit_or (bit_and a b) (bit_and a c)) (bit_and b c)

  common_none : within (used_pin q) ≡ true → within (used_pin r) ≡ true → eqb common 0 ≡ distinct [] (used_pin p ++ used_pin q ++ used_pin r)
  common_none hq hr =
      rw (
        and_comm a b,
        and_comm a c,
        and_comm b c,
        or_zero_lem (bit_or (bit_and b a) (bit_and c a)) (bit_and c b),
        or_zero_lem (bit_and b a) (bit_and c a),
        disjoint sb sa hq,
        disjoint sc sa hr,
        disjoint sc sb hr,
      )
      (twice p q r)

  pub claims_three : within (used_pin p) ≡ true → within (used_pin q) ≡ true → within (used_pin r) ≡ true
      → ClaimsAre (record { alone = bit_or (bit_or a b) c; joint = 0; twice = common }) (own_used p ++ own_used q ++ own_used r)
  claims_three hp hq hr =
      rw (lone_three p q r) at
      (claims_alone
      (bit_or (bit_or a b) c)
      common
      (used_pin p ++ used_pin q ++ used_pin r)
      (union (union sa sb) sc)
      (within_append (used_pin p ++ used_pin q) (used_pin r) (within_append (used_pin p) (used_pin q) hp hq) hr)
      (common_none hq hr))
