-- Claims from one place, entered number by number.
-- Assumes nothing.
use Prim.Native.Nat.{ℕ, suc, ◌+◌, ◌*◌, ◌/◌, ◌%◌, ◌≤◌, ◌<◌}
use native.Mathlib.Omega.{arith}
use native.Mathlib.Nat.{add-zero}
use mathlib.Core.Path.{◌≡◌, refl, sym, ◌∙◌, ap, subst}
use mathlib.Core.Bool.{Bool, true, false, ◌&&◌, ◌||◌, cond, or-false, or-true}
use mathlib.Core.List.{List, [], ◌∷◌}
use lib.ListN.{length, get_or, set, length-set}
use lib.Seq.{get_or-set_same, get_or-set_other}
use lib.Dec.{eqb}
use borrow.Author.Tests.{eqb-true, eqb-false, eq-eqb, ne_eqb}
use Rattle.format.specs.Pins.{among, every}
use Rattle.format.specs.Claims.{Claim, Made, made_at}
use Rattle.pinsets.proofs.Table.{at_below}
use Rattle.shown.specs.declared.OwnPins.{OwnPins}
use Rattle.pinsheet.specs.Sheet.{Claimant, free, fault, place, first_of, or_else, entered}
use Rattle.sheets.specs.Lines.{claimant_of, read_from, read, line_from, Lines}
use Rattle.sheets.specs.Named.{is_one, by_pins}

-- pin i of the 25
pub pin_there : (i : ℕ) → i < 25 → 16 * (i / 8) + i % 8 ≡ get_or every i 0
pin_there i h = eqb-true _ _ (at_below 25 (λ j. eqb (16 * (j / 8) + j % 8) (get_or every j 0)) refl i h)

-- the pins that claims name
abbrev pub named : List Claim → List ℕ
named [] = []
named (c ∷ cs) = c.pin ∷ named cs

-- claims from one place: the first that names a pin is there, if any does
cond_or : (s t : Bool) (a b : Claimant) → cond s a (cond t a b) ≡ cond (s || t) a b
cond_or true t a b = refl
cond_or false t a b = refl

first_at : (at pin : ℕ) (cs : List Claim) → first_of pin (made_at at cs) ≡ cond (among pin (named cs)) (place at) free
first_at at pin [] = refl
first_at at pin (c ∷ cs) =
    ap (λ (e : Claimant). cond (eqb pin c.pin) (place at) e) (first_at at pin cs)
    ∙ cond_or (eqb pin c.pin) (among pin (named cs)) (place at) free

-- so claims that name the same pins are entered alike
pub entered_same :
    (pins : List ℕ) (at : ℕ) (cs ds : List Claim) (old : List Claimant)
    → ((p : ℕ) → among p pins ≡ true → among p (named cs) ≡ among p (named ds))
    → entered pins (made_at at cs) old ≡ entered pins (made_at at ds) old
entered_same [] at cs ds old f = refl
entered_same (p ∷ pins) at cs ds [] f = refl
entered_same (p ∷ pins) at cs ds (e ∷ old) f =
    let first : first_of p (made_at at cs) ≡ first_of p (made_at at ds) =
    first_at at p cs
    ∙ ap (λ (t : Bool). cond t (place at) free) (f p (rw (eq-eqb p p refl) refl))
    ∙ sym (first_at at p ds) in
    let rest = entered_same pins at cs ds old (λ q h. f q (rw h (or-true (eqb q p)))) in
    λ i. or_else e (first i) ∷ rest i

-- three pins
pub is_one_lem : (pin : ℕ) (p : OwnPins) → among pin (named (by_pins p)) ≡ is_one pin p
is_one_lem pin p = rw (or-false (eqb pin p.three)) refl

-- a number, and as a claimant
else_kept : (s : Bool) (n : ℕ) (e : Claimant) → or_else (cond s fault (place n)) e ≡ cond s fault (place n)
else_kept true n e = refl
else_kept false n e = refl

line_entered :
    (at : ℕ) (t : Bool) (n : ℕ) → at < 65534 → claimant_of (line_from at t n) ≡ or_else (claimant_of n) (cond t (place at) free)
line_entered at t n h = go (eqb n 65535) t refl
  where
    go :
        (s t : Bool)
        → eqb n 65535 ≡ s
        → claimant_of (cond (s && t) at n) ≡ or_else (cond s free (cond (eqb n 65534) fault (place n))) (cond t (place at) free)
    go true true e = rw (ne_eqb at 65535 (λ q. omega arith), ne_eqb at 65534 (λ q. omega arith))
    go true false e = rw e
    go false t e = rw e (sym (else_kept (eqb n 65534) n (cond t (place at) free)))

-- number by number, and the whole
entered_by :
    (pins : List ℕ) (j : ℕ) (ms : List Made) (a b : List ℕ)
    → ((k : ℕ) → k < length pins → claimant_of (get_or b (j + k) 0) ≡ or_else (claimant_of (get_or a (j + k) 0)) (first_of (get_or pins k 0) ms))
    → read_from j pins b ≡ entered pins ms (read_from j pins a)
entered_by [] j ms a b f = refl
entered_by (p ∷ pins) j ms a b f =
    let first : claimant_of (get_or b j 0) ≡ or_else (claimant_of (get_or a j 0)) (first_of p ms) = rw add-zero at (f 0 (omega arith)) in
    let rest =
    entered_by pins (suc j) ms a b
    (λ k h.
    subst
    (λ (n : ℕ). claimant_of (get_or b n 0) ≡ or_else (claimant_of (get_or a n 0)) (first_of (get_or pins k 0) ms))
    {x = j + suc k} {y = suc j + k} (omega arith) (f (suc k) (omega (arith, h)))) in
    λ i. first i ∷ rest i

-- THE INVARIANT: the numbers before i are entered
pub record Entering (old : List ℕ) (pins : OwnPins) (at i : ℕ) (new : List ℕ) : Type 0 where
  pub within : i ≤ 25
  pub size : length new ≡ 25
  pub done : (k : ℕ) → k < i → get_or new k 0 ≡ line_from at (is_one (get_or every k 0) pins) (get_or old k 0)

pub begun : (old : List ℕ) (pins : OwnPins) (at : ℕ) (new : List ℕ) → length new ≡ 25 → Entering old pins at 0 new
begun old pins at new h = record { within = omega arith; size = h; done = λ k l. absurd (omega arith) }

module _ (old : List ℕ) (pins : OwnPins) (at i : ℕ) (new : List ℕ) (e : Entering old pins at i new) where
  pub go_on :
      (v : ℕ) {pin : ℕ}
      → i < 25
      → pin ≡ get_or every i 0
      → v ≡ line_from at (is_one pin pins) (get_or old i 0)
      → Entering old pins at (i + 1) (set new i v)
  go_on v h p q = record { within = omega arith; size = length-set new i v ∙ e.size; done = λ k l. go k l (eqb k i) refl }
    where
      go :
          (k : ℕ)
          → k < i + 1
          → (t : Bool)
          → eqb k i ≡ t
          → get_or (set new i v) k 0 ≡ line_from at (is_one (get_or every k 0) pins) (get_or old k 0)
      go k l true z = rw (eqb-true k i z) (get_or-set_same new i v 0 (omega (arith, h, e.size)) ∙ rw p at q)
      go k l false z = get_or-set_other new i k v 0 (eqb-false k i z) ∙ e.done k (omega (arith, l, eqb-false k i z))

  pub ended : 25 ≤ i → at < 65534 → Lines (entered every (made_at at (by_pins pins)) (read old)) new
  unfolding read
  ended h small =
      record {
        size = e.size;
        lines =
            entered_by every 0 (made_at at (by_pins pins)) old new
            (λ k l.
            let pin = get_or every k 0 in
            let claimed : cond (is_one pin pins) (place at) free ≡ first_of pin (made_at at (by_pins pins)) =
            ap (λ (t : Bool). cond t (place at) free) (sym (is_one_lem pin pins)) ∙ sym (first_at at pin (by_pins pins)) in
            subst
            (λ (n : ℕ). claimant_of (get_or new n 0) ≡ or_else (claimant_of (get_or old n 0)) (first_of pin (made_at at (by_pins pins))))
            {x = k} {y = 0 + k} (omega arith)
            (ap claimant_of (e.done k (omega (arith, h, l)))
            ∙ line_entered at (is_one pin pins) (get_or old k 0) small
            ∙ ap (λ (f : Claimant). or_else (claimant_of (get_or old k 0)) f) claimed));
      }
