-- One element's claims after those before: what is held after both, and the place of the first clash.
-- Assumes nothing.
use Prim.Native.Nat.{ℕ, ◌<◌}
use mathlib.Core.Path.{◌≡◌, refl, ◌∙◌}
use mathlib.Core.Bool.{Bool, true, false, ◌&&◌, not}
use mathlib.Core.List.{List, [], ◌∷◌, ◌++◌}
use mathlib.Core.Option.{Option, none, some}
use lib.Dec.{eqb, ltb}
use lib.Bits.{bit_and, bit_or}
use Rattle.format.specs.Pins.{among, every}
use borrow.Author.Tests.{lt-ltb}
use Rattle.format.specs.Rules.{unless_kept}
use Rattle.format.specs.Claims.{Manner, shared, select, alone, Claim, Made, made_at, first_clash}
use Rattle.pinsets.specs.Sets.{pick}
use Rattle.pinsets.proofs.Table.{and_left, and_right}
use Rattle.claims.specs.Taken.{is_alone, add_if, alone_pins, joint_pins, pins_of, proper, free, is_none, place_or, low_places, whats}
use Rattle.claims.specs.Taken.{ClaimsAre, HeldIs}
use Rattle.claims.specs.declared.Claims.{Claims}
use Rattle.claims.specs.declared.Held.{Held}
use Rattle.claims.proofs.Tests.{both}
use Rattle.claims.proofs.Bits.{or_zero_lem}
use Rattle.claims.proofs.Sets.{at_among, within, union, disjoint}
use Rattle.claims.proofs.Clashes.{first_pin, rest, none_is}
use Rattle.claims.proofs.Firsts.{onto, first_of, first_append, none_after, made_first, place_none}

-- two lists of claims
add_append : (t : Bool) (p : ℕ) (xs ys : List ℕ) → add_if t p (xs ++ ys) ≡ add_if t p xs ++ ys
add_append true p xs ys = refl
add_append false p xs ys = refl

alone_append : (xs ys : List Claim) → alone_pins (xs ++ ys) ≡ alone_pins xs ++ alone_pins ys
alone_append [] ys = refl
alone_append (c ∷ xs) ys = rw (alone_append xs ys) (add_append (is_alone c.manner) c.pin (alone_pins xs) (alone_pins ys))

joint_append : (xs ys : List Claim) → joint_pins (xs ++ ys) ≡ joint_pins xs ++ joint_pins ys
joint_append [] ys = refl
joint_append (c ∷ xs) ys = rw (joint_append xs ys) (add_append (not (is_alone c.manner)) c.pin (joint_pins xs) (joint_pins ys))

proper_append : (xs ys : List Claim) → proper xs ≡ true → proper ys ≡ true → proper (xs ++ ys) ≡ true
proper_append [] ys h k = k
proper_append (c ∷ xs) ys h k = rw (first_pin c xs h) (proper_append xs ys (rest c xs h) k)

-- proper claims are on pins
in_every : (m : Manner) (p : ℕ) → among p (pins_of m) ≡ true → among p every ≡ true
in_every shared p h = at_among (pins_of shared) (λ p. among p every) refl p h
in_every select p h = at_among (pins_of select) (λ p. among p every) refl p h
in_every alone p h = h

within_add : (t : Bool) (p : ℕ) (xs : List ℕ) → among p every ≡ true → within xs ≡ true → within (add_if t p xs) ≡ true
within_add true p xs h k = both (among p every) (within xs) h k
within_add false p xs h k = k

alone_within : (cs : List Claim) → proper cs ≡ true → within (alone_pins cs) ≡ true
alone_within [] h = refl
alone_within (c ∷ cs) h =
    within_add (is_alone c.manner) c.pin (alone_pins cs) (in_every c.manner c.pin (first_pin c cs h))
    (alone_within cs (rest c cs h))

joint_within : (cs : List Claim) → proper cs ≡ true → within (joint_pins cs) ≡ true
joint_within [] h = refl
joint_within (c ∷ cs) h =
    within_add (not (is_alone c.manner)) c.pin (joint_pins cs) (in_every c.manner c.pin (first_pin c cs h))
    (joint_within cs (rest c cs h))

-- claims made at a place, after others
whats_made : (ms : List Made) (at : ℕ) (cs : List Claim) → whats (ms ++ made_at at cs) ≡ whats ms ++ cs
whats_made [] at [] = refl
whats_made [] at (c ∷ cs) = rw (whats_made [] at cs) refl
whats_made (m ∷ ms) at cs = rw (whats_made ms at cs) refl

low_made : (ms : List Made) (at : ℕ) (cs : List Claim) → at < 65536 → low_places ms ≡ true → low_places (ms ++ made_at at cs) ≡ true
low_made [] at [] h k = refl
low_made [] at (c ∷ cs) h k = rw (lt-ltb at 65536 h) (low_made [] at cs h k)
low_made (m ∷ ms) at cs h k =
    both (ltb m.place 65536) _ (and_left _ (low_places ms) k) (low_made ms at cs h (and_right (ltb m.place 65536) _ k))

-- the first clash of the two
first_place_of : (at : ℕ) (a : Option ℕ) (t : Bool) → pick (not t && is_none a) at (place_or a) ≡ place_or (first_of a (unless_kept t at none))
first_place_of at none true = refl
first_place_of at none false = refl
first_place_of at (some j) true = refl
first_place_of at (some j) false = refl

-- what clashes, as the code has it
abbrev pub hits : Held → Claims → ℕ
hits h c = bit_or (bit_or (bit_and c.joint h.alone) (bit_and c.alone (bit_or h.alone h.joint))) c.twice

-- the first of all clashes
abbrev pub hit : Held → Claims → Bool
hit h c = not (eqb (hits h c) 0) && eqb h.clash 65536

module _ (h : Held) (c : Claims) (at : ℕ) (before : List Made) (cs : List Claim) (A : at < 65536) (H : HeldIs h before)
    (C : ClaimsAre c cs) where
  none_hit : eqb (hits h c) 0 ≡ free (onto (whats before) []) cs
  none_hit =
      rw (
        or_zero_lem (bit_or (bit_and c.joint h.alone) (bit_and c.alone (bit_or h.alone h.joint))) c.twice,
        or_zero_lem (bit_and c.joint h.alone) (bit_and c.alone (bit_or h.alone h.joint)),
        disjoint C.joint_set H.alone_set (joint_within cs C.are_proper),
        disjoint C.alone_set (union H.alone_set H.joint_set) (alone_within cs C.are_proper),
        C.among_themselves,
        none_after cs (whats before),
        none_is cs (whats before) C.are_proper H.are_proper,
      )
      refl

  clash_place : pick (hit h c) at h.clash ≡ place_or (first_clash [] (before ++ made_at at cs))
  clash_place =
      rw (
        none_hit,
        H.clash_at,
        place_none before [] H.low,
        first_append before [] (made_at at cs),
        made_first at cs (onto (whats before) []),
      )
      (first_place_of at (first_clash [] before) (free (onto (whats before) []) cs))

  pub held_after : (k : ℕ) → k ≡ pick (hit h c) at h.clash
      → HeldIs (record { alone = bit_or h.alone c.alone; joint = bit_or h.joint c.joint; clash = k }) (before ++ made_at at cs)
  held_after k e = record {
    alone_set = rw (whats_made before at cs, alone_append (whats before) cs) (union H.alone_set C.alone_set);
    joint_set = rw (whats_made before at cs, joint_append (whats before) cs) (union H.joint_set C.joint_set);
    clash_at = e ∙ clash_place;
    are_proper = rw (whats_made before at cs) (proper_append (whats before) cs H.are_proper C.are_proper);
    low = low_made before at cs A H.low;
  }
